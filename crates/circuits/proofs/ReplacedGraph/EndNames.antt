-- The names of the Entries and Exits of a graph, each once.
use Rattle.std.proofs.Common.{◌≡◌, ◌≢◌, refl, sym, ap, subst, ◌∙◌, Bool, true, false, T, cond, List, [], ◌∷◌, Some, true≢false}
use Rattle.std.specs.List.{AllByRecursion}
use Rattle.std.specs.Ordering.{eq_by_cmp}
use Rattle.std.specs.Cmp.{Equal-is}
use Rattle.std.specs.FinMap as map
use Rattle.std.specs.FinMap.Entries.{is_sorted}
use Rattle.std.proofs.lemmas.Option.{none-some, same_Some}
use Rattle.components.specs.declared.kind.Kind.{Kind}
use Rattle.components.specs.declared.kind.Kind.TheVariants.{Entry, Exit}
use Rattle.components.specs.Name.{Name, name_cmp}
use Rattle.components.specs.NamedGraph.{NamedGraph}
use Rattle.components.specs.Node.{Body}
use Rattle.components.specs.Entries.{second, find_first, found_behind, behind_other}
use Rattle.components.specs.Orders.{name_total, name_same}
use Rattle.circuits.specs.Circuit.{circuit_of, kind_of_body}
use Rattle.circuits.specs.Replacing.{is_inner, IsEnd, In, In.head, In.tail, NoneTwice, Ends}
use Rattle.circuits.proofs.GraphCircuits.{HasBody, body_behind}
use Rattle.circuits.proofs.Replacing.Sorts.{end_not_inner}

abbrev Nodes : Type 0
Nodes = List (Name × Body)

put_end : Bool → Name → List Name → List Name
put_end true n ns = ns
put_end false n ns = n ∷ ns

end_names : Nodes → List Name
end_names [] = []
end_names (e ∷ es) = put_end (is_inner (Some e.1.kind)) e.0 (end_names es)

-- an Entry or an Exit stands in the list
record IsEndOf (es : Nodes) (n : Name) : Type 0 where
  body : Body
  found : map.find name_cmp n es ≡ Some body
  is_end : IsEnd body.kind

not_inner_end : (k : Kind) → is_inner (Some k) ≡ false → IsEnd k
not_inner_end (Entry a) i = tt
not_inner_end (Exit a) i = tt
not_inner_end _ i = absurd (true≢false i)

-- what stands in the list is an Entry or an Exit
behind : (e : Name × Body) (es : Nodes) → T (is_sorted name_cmp (e ∷ es)) → (n : Name) → IsEndOf es n → IsEndOf (e ∷ es) n
behind e es sorted n is =
    record { body = is.body; found = found_behind name_total name_same e es sorted n is.body is.found; is_end = is.is_end }

are_ends : (es : Nodes) → T (is_sorted name_cmp es) → (n : Name) → In n (end_names es) → IsEndOf es n
unfolding end_names put_end
are_ends [] sorted n i = elim i [ ]
are_ends (e ∷ es) sorted n i = at (λ j. behind e es sorted n (are_ends es (second _ _ sorted) n j)) (is_inner (Some e.1.kind)) refl i
  where
    at : (In n (end_names es) → IsEndOf (e ∷ es) n) → (b : Bool) → is_inner (Some e.1.kind) ≡ b → In n (put_end b e.0 (end_names es)) → IsEndOf (e ∷ es) n
    at later true inner j = later j
    at later false inner (head is) =
        record { body = e.1; found = ap (λ k. map.find name_cmp k (e ∷ es)) is ∙ find_first name_cmp name_total e es; is_end = not_inner_end e.1.kind inner }
    at later false inner (tail j) = later j

-- and each of them stands in it
all_ends : (es : Nodes) → T (is_sorted name_cmp es) → (n : Name) (body : Body) → map.find name_cmp n es ≡ Some body → IsEnd body.kind → In n (end_names es)
unfolding end_names put_end
all_ends [] sorted n body found end = absurd (none-some body found)
all_ends (e ∷ es) sorted n body found end = at (λ is. all_ends es (second _ _ sorted) n body is end) (eq_by_cmp name_cmp n e.0) refl found (is_inner (Some e.1.kind)) refl
  where
    at : (map.find name_cmp n es ≡ Some body → In n (end_names es)) → (t : Bool) → eq_by_cmp name_cmp n e.0 ≡ t → cond t (Some e.1) (map.find name_cmp n es) ≡ Some body → (b : Bool) → is_inner (Some e.1.kind) ≡ b → In n (put_end b e.0 (end_names es))
    at later true test is true inner = absurd (true≢false (sym inner ∙ ap (λ (x : Body). is_inner (Some x.kind)) (same_Some e.1 body is) ∙ end_not_inner body.kind end))
    at later true test is false inner = head (name_same n e.0 ((Equal-is (name_cmp n e.0)).0 test))
    at later false test is true inner = later is
    at later false test is false inner = tail (later is)

-- none of them twice
each_in : (P : Name → Type 0) (ns : List Name) → ((n : Name) → In n ns → P n) → AllByRecursion P ns
each_in P [] holds = tt
each_in P (n ∷ ns) holds = (holds n (head refl), each_in P ns (λ m i. holds m (tail i)))

ends_once : (es : Nodes) → T (is_sorted name_cmp es) → NoneTwice (end_names es)
unfolding end_names put_end
ends_once [] sorted = tt
ends_once (e ∷ es) sorted = at (ends_once es (second _ _ sorted)) (is_inner (Some e.1.kind))
  where
    at : NoneTwice (end_names es) → (b : Bool) → NoneTwice (put_end b e.0 (end_names es))
    at later true = later
    at later false = (
      each_in (λ m. e.0 ≢ m) (end_names es)
          (λ m i is. let there = are_ends es (second _ _ sorted) m i in behind_other name_total name_same e es sorted m there.body there.found (sym is)),
      later,
    )

pub names_of : NamedGraph → List Name
names_of g = end_names (map.entries g.nodes)

pub graph_ends : (g : NamedGraph) → Ends (circuit_of g) (names_of g)
unfolding names_of
graph_ends g =
    record {
      all = λ n k end is.
          let at : HasBody (map.get g.nodes n) k = body_behind (map.get g.nodes n) k is in
          all_ends (map.entries g.nodes) (map.entries_sorted g.nodes) n at.body (sym (map.get-entries g.nodes n) ∙ at.is_body) (subst IsEnd (sym at.is_kind) end);
      are = λ n i.
          let at = are_ends (map.entries g.nodes) (map.entries_sorted g.nodes) n i in
          (at.body.kind, at.is_end, ap kind_of_body (map.get-entries g.nodes n ∙ at.found));
      once = ends_once (map.entries g.nodes) (map.entries_sorted g.nodes);
    }
