-- The tree of a mark without the mark, in order.
use Rattle.std.proofs.Common.{◌≡◌, ◌≢◌, ◌∙◌, refl, sym, ap, subst, List, [], ◌∷◌}
use Rattle.components.specs.Name.{Name}
use Rattle.circuits.specs.Circuit.{circuit_of}
use Rattle.circuits.specs.Replacing.{In, In.head, In.tail}
use Rattle.loop_laws.specs.Reached.{OnTree, OnTree.root, OnTree.grown}
use Rattle.graph_core.specs.declared.place.NodeId.{NodeId}
use Rattle.graph_core.specs.GraphValue.{GraphValue, Denotes, IsGraph, name_by}
use Rattle.loop_find.specs.declared.choose.Test.TheVariants.{Apart}
use Rattle.loop_find.specs.Judging.{Chosen}
use Rattle.loop_find.specs.Marks.{names_by}
use Rattle.loop_find.specs.NameOrders.{AreByName}
use Rattle.loop_find.specs.TreeNames.{IsTreeBy}
use Rattle.loop_find.specs.Walks.{AreAll, Has}
use Rattle.loop_find.proofs.MarkWalks.{holds_of}
use Rattle.loop_find.proofs.NodeCounts.{in_names, names_in}
use Rattle.loop_find.proofs.Walking.{id_of_node, itself}

module _ (g : GraphValue) (is : IsGraph g) (mark : NodeId) (live : Denotes g mark (name_by g.ids mark)) (alone tree chosen ids : List NodeId) (one : alone ≡ mark ∷ [])
    (are : AreAll g (OnTree (circuit_of g.graph) (name_by g.ids mark)) tree) (all : AreAll g (Chosen g Apart alone tree) chosen) (ordered : AreByName g chosen ids) where
  abbrev m : Name
  m = name_by g.ids mark

  abbrev On : Name → Type 0
  On = OnTree (circuit_of g.graph) m

  on_of : (n : Name) → Has g tree n → On n
  on_of n (id, denotes, i) = subst On (itself g id n denotes) (holds_of g On tree are id i)

  mark_in : (n : Name) → n ≡ m → Has g alone n
  mark_in n same = (mark, subst (Denotes g mark) (sym same) live, subst (In mark) (sym one) (head refl))

  not_mark : (n : Name) → Has g alone n → n ≡ m
  not_mark n (id, denotes, i) = by (subst (In id) one i)
    where
      by : In id (mark ∷ []) → n ≡ m
      by (head e) = sym (itself g id n denotes) ∙ ap (name_by g.ids) e
      by (tail j) = elim j [ ]

  listed : (n : Name) → Chosen g Apart alone tree n → (n ≢ m) × On n
  listed n (has, apart) = (λ same. apart (mark_in n same), on_of n has)

  id_of : (n : Name) → n ≢ m → On n → (id : NodeId) × Denotes g id n
  id_of n apart (root same) = absurd (apart same)
  id_of n apart (grown i q kind from fed its passes) = id_of_node g is n kind its

  pub tree_named : IsTreeBy g m ids
  tree_named =
      record {
        tree = λ n. (
          λ i.
              let (id, j, same) = names_in g ids n i in
              subst (λ x. (x ≢ m) × On x) same (listed (name_by g.ids id) (holds_of g (Chosen g Apart alone tree) chosen all id ((ordered.same id).0 j))),
          λ (apart, on).
              let (id, denotes) = id_of n apart on in
              let has : Has g tree n = (id, denotes, (are id).1 (n, denotes, on)) in
              let i : In id ids = (ordered.same id).1 ((all id).1 (n, denotes, (has, λ h. apart (not_mark n h)))) in
              subst (λ x. In x (names_by g ids)) (itself g id n denotes) (in_names g ids id i),
        );
        by_name = ordered.by_name;
      }
