-- The replacement by tag_loop is the graph with the in-order loop of these nodes tagged.
use Rattle.std.proofs.Common.{◌≡◌, ℕ, zero, suc, true, false, refl, sym, ap, ◌∙◌, if◌then◌else◌, List, [], ◌∷◌, Option, Some}
use Rattle.std.proofs.lemmas.Option.{none-some, same_Some}
use Rattle.components.specs.Name.{Name, Port}
use Rattle.components.specs.Orders.{same_bytes, other_bytes}
use Rattle.circuits.specs.Circuit.{Circuit, circuit_of}
use Rattle.circuits.specs.Laws.{CircuitIsTyped, ConsumerIsFed, ReplacedGraphIsCircuit}
use Rattle.circuits.specs.ReplacedGraph.{consumer}
use Rattle.circuits.specs.Replacing.{is_inner, In, head, tail, IsPart}
use Rattle.circuit_plans.specs.Plans.{Out, Plan, Naming, built}
use Rattle.circuit_plans.specs.Drawing.{port_named}
use Rattle.circuit_plans.proofs.Plans.{kind_named}
use Rattle.loop_laws.specs.Polarity.{fresh_in}
use Rattle.tagged_loop.specs.InOrderLoop.{InOrderNode, LoopParts, entry, init, mux, pure, pair, cond, branch, exit, in_order_loop}
use Rattle.tagged_loop.specs.TaggedLoop.{TaggedNode, new_entry, tagger, merge, tag, new_pure, new_pair, retag, new_branch, new_exit, tagged_loop}
use Rattle.tagged_loop.specs.Laws.{TaggingIsRule}
use Rattle.tagged_loop.proofs.LoopPlans.{in_order_plan, in_order_source, tagged_plan, tagged_source}
use Rattle.tagged_loop.proofs.LoopSteps.{fresh_source}
use Rattle.tagged_loop.proofs.LoopGraphs.{old_naming, old_is, new_naming, new_is}
use Rattle.loop_turns.specs.Rebuilt.{moved}
use Rattle.loop_turns.specs.TagChain.{RingUse, ring_tagger, ring_merge, ring_tag, ring_pure, ring_pair, ring_retag, ring_branch, ring_uses, ring_kind, ring_source, ring_out, ring_made}
use Rattle.rule_uses.specs.Laws.{ring_node, TagLoopMakes}
use Rattle.rule_uses.proofs.Made.{goes, comes, NoOld, Stand, inside, from_outside, Stands, outside_feeds}
use Rattle.rule_uses.proofs.RebuiltMade.{Ties, moved_same, rebuilt_made}
use Rattle.rule_uses.proofs.GraphMade.{graph_part, graph_made}

abbrev ring_use : TaggedNode → RingUse
ring_use new_entry = ring_tagger
ring_use tagger = ring_tagger
ring_use merge = ring_merge
ring_use tag = ring_tag
ring_use new_pure = ring_pure
ring_use new_pair = ring_pair
ring_use retag = ring_retag
ring_use new_branch = ring_branch
ring_use new_exit = ring_tagger

use_again : (x : RingUse) → ring_use (ring_node x) ≡ x
use_again ring_tagger = refl
use_again ring_merge = refl
use_again ring_tag = refl
use_again ring_pure = refl
use_again ring_pair = refl
use_again ring_retag = refl
use_again ring_branch = refl

use_in : (x : RingUse) → In x ring_uses
use_in ring_tagger = head refl
use_in ring_merge = tail (head refl)
use_in ring_tag = tail (tail (head refl))
use_in ring_pure = tail (tail (tail (head refl)))
use_in ring_pair = tail (tail (tail (tail (head refl))))
use_in ring_retag = tail (tail (tail (tail (tail (head refl)))))
use_in ring_branch = tail (tail (tail (tail (tail (tail (head refl))))))

module _ (g : Circuit) (loop : LoopParts) (tags : ℕ) (old : Naming InOrderNode) (new : Naming TaggedNode) (target : Port → Option Port)
    (part : IsPart g (built (in_order_plan loop.shape loop.fun loop.goes_back loop.mark) old) target)
    (same_entry : new.name new_entry ≡ old.name entry) (same_exit : new.name new_exit ≡ old.name exit) where
  abbrev left : Plan InOrderNode
  left = in_order_plan loop.shape loop.fun loop.goes_back loop.mark

  abbrev right : Plan TaggedNode
  right = tagged_plan loop.shape loop.fun loop.goes_back tags

  abbrev gone : List Name
  gone = old.name init ∷ old.name mux ∷ old.name pure ∷ old.name pair ∷ old.name cond ∷ old.name branch ∷ []

  abbrev name : RingUse → Name
  name x = new.name (ring_node x)

  abbrev out : Port → Port
  out q = ring_out (old.name branch) name q

  abbrev source : RingUse → ℕ → Option Port
  source x i = ring_source g (old.name mux) (old.name branch) loop.goes_back name x i

  moved_other : (q : Port) → NoOld g left old right new q.node → out q ≡ q
  moved_other q away =
      ap (λ b. if b then record { node = new.name tagger; port = 2 } else q)
      (other_bytes q.node (old.name branch) (λ e. let no : true ≡ false = ap is_inner (sym (kind_named left old branch)) ∙ ap (λ n. is_inner ((built left old).kind_at n)) (sym e) ∙ away in cc))

  -- what feeds the Mux with what is new
  fresh : Stand g left old right new (record { at = new_entry; port = 1 }) (moved out (g.feeder (record { node = old.name mux; port = fresh_in loop.goes_back })))
  fresh =
      let t : Out InOrderNode = record { at = mux; port = fresh_in loop.goes_back } in
      from_outside entry t refl same_entry (fresh_source loop.goes_back)
      (moved_same out (g.feeder (port_named old.name t)) (λ q e. moved_other q (outside_feeds g left old right new target part t (record { at = entry; port = 1 }) q refl refl (fresh_source loop.goes_back) e)))

  sources : (x : RingUse) (i : ℕ) → Stands g left old right new (tagged_source loop.goes_back (ring_node x) i) (source x i)
  sources ring_tagger zero = refl
  sources ring_tagger (suc zero) = fresh
  sources ring_tagger (suc (suc zero)) = inside refl refl
  sources ring_tagger (suc (suc (suc i))) = refl
  sources ring_merge zero = refl
  sources ring_merge (suc zero) = inside refl refl
  sources ring_merge (suc (suc zero)) = inside refl refl
  sources ring_merge (suc (suc (suc i))) = refl
  sources ring_tag zero = refl
  sources ring_tag (suc zero) = inside refl refl
  sources ring_tag (suc (suc i)) = refl
  sources ring_pure zero = refl
  sources ring_pure (suc zero) = inside refl refl
  sources ring_pure (suc (suc i)) = refl
  sources ring_pair zero = refl
  sources ring_pair (suc zero) = inside refl refl
  sources ring_pair (suc (suc i)) = refl
  sources ring_retag zero = refl
  sources ring_retag (suc zero) = inside refl refl
  sources ring_retag (suc (suc zero)) = inside refl refl
  sources ring_retag (suc (suc (suc i))) = refl
  sources ring_branch zero = refl
  sources ring_branch (suc zero) = inside refl refl
  sources ring_branch (suc (suc zero)) = inside refl refl
  sources ring_branch (suc (suc (suc i))) = refl

  kinds : (x : RingUse) → ring_kind loop.shape loop.fun tags x ≡ right.kind (ring_node x)
  kinds ring_tagger = refl
  kinds ring_merge = refl
  kinds ring_tag = refl
  kinds ring_pure = refl
  kinds ring_pair = refl
  kinds ring_retag = refl
  kinds ring_branch = refl

  comes_at : (x : RingUse) → comes g left old right new (ring_node x) ≡ true
  comes_at ring_tagger = refl
  comes_at ring_merge = refl
  comes_at ring_tag = refl
  comes_at ring_pure = refl
  comes_at ring_pair = refl
  comes_at ring_retag = refl
  comes_at ring_branch = refl

  use_of : (m : TaggedNode) → comes g left old right new m ≡ true → ring_node (ring_use m) ≡ m
  use_of new_entry e = cc
  use_of tagger e = refl
  use_of merge e = refl
  use_of tag e = refl
  use_of new_pure e = refl
  use_of new_pair e = refl
  use_of retag e = refl
  use_of new_branch e = refl
  use_of new_exit e = cc

  gone_all : (n : InOrderNode) → goes g left old right new n ≡ true → In (old.name n) gone
  gone_all entry e = cc
  gone_all init e = head refl
  gone_all mux e = tail (head refl)
  gone_all pure e = tail (tail (head refl))
  gone_all pair e = tail (tail (tail (head refl)))
  gone_all cond e = tail (tail (tail (tail (head refl))))
  gone_all branch e = tail (tail (tail (tail (tail (head refl)))))
  gone_all exit e = cc

  is_gone : (n : Name) (k : InOrderNode) → goes g left old right new k ≡ true → n ≡ old.name k → is_inner ((built left old).kind_at n) ≡ true
  is_gone n k inner e = ap (λ z. is_inner ((built left old).kind_at z)) e ∙ ap is_inner (kind_named left old k) ∙ inner

  gone_only : (n : Name) → In n gone → is_inner ((built left old).kind_at n) ≡ true
  gone_only n (head e) = is_gone n init refl e
  gone_only n (tail (head e)) = is_gone n mux refl e
  gone_only n (tail (tail (head e))) = is_gone n pure refl e
  gone_only n (tail (tail (tail (head e)))) = is_gone n pair refl e
  gone_only n (tail (tail (tail (tail (head e))))) = is_gone n cond refl e
  gone_only n (tail (tail (tail (tail (tail (head e)))))) = is_gone n branch refl e
  gone_only n (tail (tail (tail (tail (tail (tail i)))))) = elim i [ ]

  abbrev MovedOld : Out InOrderNode → InOrderNode → ℕ → Type 0
  MovedOld c n i = (x : TaggedNode) × (new.name x ≡ old.name n) × Stands g left old right new (tagged_source loop.goes_back x i) (Some (out (port_named old.name c)))

  moved_old : (c : Out InOrderNode) (n : InOrderNode) (i : ℕ) → in_order_source loop.goes_back n i ≡ Some c → goes g left old right new n ≡ false → MovedOld c n i
  moved_old c entry i source away = absurd (none-some c source)
  moved_old c init i source away = cc
  moved_old c mux i source away = cc
  moved_old c pure i source away = cc
  moved_old c pair i source away = cc
  moved_old c cond i source away = cc
  moved_old c branch i source away = cc
  moved_old c exit zero source away = absurd (none-some c source)
  moved_old c exit (suc zero) source away =
      let at : branch ≡ c.at = ap (λ (z : Out InOrderNode). z.at) (same_Some _ c source) in (
        new_exit,
        same_exit,
        inside refl
            (ap (λ b. Some (if b then record { node = new.name tagger; port = 2 } else port_named old.name c)) (same_bytes (old.name c.at) (old.name branch) (ap old.name (sym at)))),
      )
  moved_old c exit (suc (suc i)) source away = absurd (none-some c source)

  pub ties : Ties g left old right new gone name ring_uses (ring_kind loop.shape loop.fun tags) source out
  ties =
      record {
        at = ring_node;
        at_comes = λ x i. comes_at x;
        names = λ x i. refl;
        kinds = λ x i. kinds x;
        sources = λ x i j. sources x i;
        use_of = λ m c. (ring_use m, use_in (ring_use m), use_of m c);
        alone = λ x y i j e. sym (use_again x) ∙ ap ring_use e ∙ use_again y;
        gone_all = gone_all;
        gone_only = gone_only;
        moved_old = λ c t inner source away. moved_old c t.at t.port source away;
        moved_other = moved_other;
      }

pub tag_loop_makes : CircuitIsTyped → ConsumerIsFed → ReplacedGraphIsCircuit → TaggingIsRule → TagLoopMakes
tag_loop_makes typed fed as_circuit rule g loop tags old new is can at =
    let x = old_naming loop old can.old_names in
    let y = new_naming loop tags new can.new_names in
    let l = in_order_plan loop.shape loop.fun loop.goes_back loop.mark in
    let r = tagged_plan loop.shape loop.fun loop.goes_back tags in
    let left = old_is loop old can.old_names in
    let right = new_is loop tags new can.new_names in
    let part = graph_part typed fed as_circuit g (in_order_loop loop old) (tagged_loop loop tags new) l x r y is (rule loop tags old new can) at left right in
    graph_made typed fed as_circuit g (in_order_loop loop old) (tagged_loop loop tags new) l x r y is (rule loop tags old new can) at left right
    (ring_made (circuit_of g) (old init) (old mux) (old pure) (old pair) (old cond) (old branch) loop.goes_back tags loop.shape loop.fun (λ z. new (ring_node z)))
    (rebuilt_made (circuit_of g) l x r y _ _ _ _ _ _ (ties (circuit_of g) loop tags x y (consumer (in_order_loop loop old)) part can.same_entry can.same_exit))
