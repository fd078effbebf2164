-- A fresh prefix gives new names, and marks tagged one after the other.
use Rattle.std.proofs.Common.{◌≡◌, ◌≢◌, ℕ, ◌^◌, ◌<◌, ◌≤◌, refl, sym, ap, subst, ◌∙◌, if◌then◌else◌, nat_eq, List, [], ◌∷◌, length, Option, Some, None, get_or, drop, arith}
use Rattle.std.proofs.lemmas.List.{append_cancel_left}
use Rattle.std.proofs.lemmas.Fmt.{decimal_is_IsNumeral}
use Rattle.std.specs.Str.Parse.{digits_value}
use Rattle.std.specs.Prelude.{◌↔◌}
use Rattle.components.specs.Name.{Name}
use Rattle.std.specs.List.{AllByRecursion}
use Rattle.circuits.specs.Circuit.{Circuit}
use Rattle.circuits.specs.Replacing.{In, In.head, In.tail, NoneTwice}
use Rattle.loop_laws.specs.Polarity.{IsMark}
use Rattle.loop_laws.specs.Loop.{Loop}
use Rattle.loop_laws.specs.OffCycle.{HasLoops, AllOffCycle}
use Rattle.loop_laws.proofs.Ascending.{each_in}
use Rattle.loop_turns.specs.Rebuilt.{NewNames}
use Rattle.loop_turns.specs.Tagged.{TagNode, TagNode.new_in, TagNode.new_tagger, TagNode.new_merge, TagNode.new_tag, TagNode.new_vars, TagNode.new_next, TagNode.new_retag, TagNode.new_branch, TagNode.new_out, TagNode.new_sink, tag_nodes, tagged_graph}
use Rattle.loop_turns.specs.Gathered.{GatherNode, GatherNode.one_in, GatherNode.one_mux, GatherNode.one_pure, GatherNode.one_pair, GatherNode.one_cond, GatherNode.one_branch, GatherNode.one_out, gather_nodes}
use Rattle.loop_turns.specs.NewNames.{tag_word, gather_word, tag_name, gather_name, IsFreshPrefix, numbered, TaggedAll}
use Rattle.loop_turns.proofs.LoopLookups.{in_sinks}
use Rattle.loop_turns.proofs.TaggedTurn.{tagged_has_loops, tagged_marks, tagged_all_off}

-- the node of a word, by its first bytes
unword : List ℕ → TagNode
unword ws =
    if nat_eq (get_or ws 0 0) 105 then new_in else (
    if nat_eq (get_or ws 0 0) 109 then new_merge else (
    if nat_eq (get_or ws 0 0) 118 then new_vars else (
    if nat_eq (get_or ws 0 0) 110 then new_next else (
    if nat_eq (get_or ws 0 0) 114 then new_retag else (
    if nat_eq (get_or ws 0 0) 98 then new_branch else (
    if nat_eq (get_or ws 0 0) 111 then new_out else (
    if nat_eq (get_or ws 0 0) 115 then new_sink (digits_value 10 (drop 1 ws)) else (
    if nat_eq (length ws) 3 then new_tag else new_tagger))))))))

abbrev IsSmall : TagNode → Type 0
IsSmall (new_sink j) = j < 2 ^ 64
IsSmall _ = Unit {0}

unword_word : (x : TagNode) → IsSmall x → unword (tag_word x) ≡ x
unfolding unword
unword_word new_in h = refl
unword_word new_tagger h = refl
unword_word new_merge h = refl
unword_word new_tag h = refl
unword_word new_vars h = refl
unword_word new_next h = refl
unword_word new_retag h = refl
unword_word new_branch h = refl
unword_word new_out h = refl
unword_word (new_sink j) h = ap new_sink ((decimal_is_IsNumeral j h).1)

gather_unword : List ℕ → GatherNode
gather_unword ws =
    if nat_eq (get_or ws 0 0) 105 then one_in else (
    if nat_eq (get_or ws 0 0) 109 then one_mux else (
    if nat_eq (get_or ws 0 0) 99 then one_cond else (
    if nat_eq (get_or ws 0 0) 98 then one_branch else (
    if nat_eq (get_or ws 0 0) 111 then one_out else (
    if nat_eq (get_or ws 1 0) 117 then one_pure else one_pair)))))

gather_unword_word : (x : GatherNode) → gather_unword (gather_word x) ≡ x
unfolding gather_unword
gather_unword_word one_in = refl
gather_unword_word one_mux = refl
gather_unword_word one_pure = refl
gather_unword_word one_pair = refl
gather_unword_word one_cond = refl
gather_unword_word one_branch = refl
gather_unword_word one_out = refl

small : (l : Loop) → length l.lanes ≤ 62 → (x : TagNode) → In x (tag_nodes l) → IsSmall x
small l h (new_sink j) i = sink_small i
  where
    sink_small : In (new_sink j) (tag_nodes l) → j < 2 ^ 64
    sink_small (tail (tail (tail (tail (tail (tail (tail (tail (tail i))))))))) =
        let (k, e, a, b) = in_sinks 1 (length l.lanes) (new_sink j) i in
        let s : j ≡ k = cc in
        subst (λ z. z < 2 ^ 64) (sym s) (omega arith)
    sink_small (head e) = cc
    sink_small (tail (head e)) = cc
    sink_small (tail (tail (head e))) = cc
    sink_small (tail (tail (tail (head e)))) = cc
    sink_small (tail (tail (tail (tail (head e))))) = cc
    sink_small (tail (tail (tail (tail (tail (head e)))))) = cc
    sink_small (tail (tail (tail (tail (tail (tail (head e))))))) = cc
    sink_small (tail (tail (tail (tail (tail (tail (tail (head e)))))))) = cc
    sink_small (tail (tail (tail (tail (tail (tail (tail (tail (head e))))))))) = cc
small l h _ i = tt

none_of : {A : Type 0} (o : Option A) → ((x : A) → o ≡ Some x → ⊥) → o ≡ None
none_of None h = refl
none_of (Some x) h = absurd (h x refl)

pub tag_names_new : (g : Circuit) (l : Loop) (prefix : Name) → length l.lanes ≤ 62 → IsFreshPrefix g prefix → NewNames g (tag_nodes l) (tag_name prefix)
tag_names_new g l prefix few fresh =
    record {
      apart = λ x y u v e.
          sym (unword_word x (small l few x u)) ∙ ap unword (append_cancel_left prefix (tag_word x) (tag_word y) e) ∙ unword_word y (small l few y v);
      fresh = λ x u. none_of (g.kind_at (tag_name prefix x)) (fresh (tag_word x));
    }

pub gather_names_new : (g : Circuit) (prefix : Name) → IsFreshPrefix g prefix → NewNames g gather_nodes (gather_name prefix)
gather_names_new g prefix fresh =
    record {
      apart = λ x y u v e.
          sym (gather_unword_word x) ∙ ap gather_unword (append_cancel_left prefix (gather_word x) (gather_word y) e) ∙ gather_unword_word y;
      fresh = λ x u. none_of (g.kind_at (gather_name prefix x)) (fresh (gather_word x));
    }

-- marks one after the other
pub record AllTurned (g h : Circuit) (loops : Name → Loop) (ms : List Name) : Type 0 where
  pub has : HasLoops h loops
  pub marks : (n : Name) → IsMark h n ↔ ((In n ms → ⊥) × IsMark g n)
  pub off : AllOffCycle g loops → AllOffCycle h loops

pub not_in_rest : (m : Name) (ms : List Name) → AllByRecursion (λ n. m ≢ n) ms → In m ms → ⊥
not_in_rest m ms h i = each_in (λ n. m ≢ n) ms m h i refl

pub all_turned : (loops : Name → Loop) (ms : List Name) (g h : Circuit) → HasLoops g loops → NoneTwice ms → ((m : Name) → In m ms → IsMark g m) → TaggedAll g loops ms h → AllTurned g h loops ms
all_turned loops [] g h has once are e =
    record { has = subst (λ z. HasLoops z loops) e has; marks = λ n. ((λ mn. ((λ i. elim i [ ]), subst (λ z. IsMark z n) (sym e) mn)), λ t. subst (λ z. IsMark z n) e t.1); off = λ o. subst (λ z. AllOffCycle z loops) e o }
all_turned loops (m ∷ ms) g h has once are (k, fresh, rest) =
    let mark : IsMark g m = are m (head refl) in
    let names : NewNames g (tag_nodes (loops m)) (tag_name (numbered k)) = tag_names_new g (loops m) (numbered k) (has.all m mark).narrow fresh.0 in
    let marks_are = tagged_marks g loops m (tag_name (numbered k)) has mark names in
    let later = all_turned loops ms (tagged_graph g m (loops m) (tag_name (numbered k))) h (tagged_has_loops g loops m (tag_name (numbered k)) has mark names) once.1
    (λ n i. (marks_are n).1 ((λ e. not_in_rest m ms once.0 (subst (λ z. In z ms) e i)), are n (tail i))) rest in
    record {
      has = later.has;
      marks = λ n. (
        (λ mn. let s = (later.marks n).0 mn in let t = (marks_are n).0 s.1 in ((λ i. elim i [ head e ↦ t.0 e | tail j ↦ s.0 j ]), t.1)),
        λ t. (later.marks n).1 ((λ i. t.0 (tail i)), (marks_are n).1 ((λ e. t.0 (head e)), t.1)),
      );
      off = λ o. later.off (tagged_all_off g loops m (tag_name (numbered k)) has mark names o);
    }
