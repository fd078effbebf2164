-- The marks among the nodes in the order of their names.
use Rattle.std.proofs.Common.{◌≡◌, ℕ, ◌≤◌, true, refl, sym, ap, subst, ◌∙◌, List, [], ◌∷◌, map, filter, Option, Some, None}
use Rattle.std.proofs.lemmas.Bool.{false≢true, leb-true, le-leb}
use Rattle.std.proofs.lemmas.Option.{none-some}
use Rattle.std.specs.Prelude.{unwrap_or, Bool}
use Rattle.std.specs.List.{AllByRecursion}
use Rattle.std.specs.FinMap as finite
use Rattle.components.specs.declared.kind.Kind.{Kind}
use Rattle.components.specs.declared.kind.Kind.TheVariants.{Init}
use Rattle.components.specs.Name.{Name}
use Rattle.components.specs.Node.{Body}
use Rattle.circuits.specs.Circuit.{circuit_of, kind_of_body}
use Rattle.circuits.specs.Replacing.{In}
use Rattle.loop_laws.specs.Polarity.{IsMark}
use Rattle.loop_laws.specs.BodyOrder.{Ascending}
use Rattle.graph_core.specs.declared.place.NodeId.{NodeId}
use Rattle.graph_core.specs.GraphValue.{GraphValue, Denotes, AreInOrder, name_by}
use Rattle.loop_find.specs.Marks.{AreMarks, asks_for_tags, is_marked, names_by}
use Rattle.loop_find.proofs.MarkLists.{keys_ascend, key_in, filter_passes, filter_keeps, filter_ascends, each_kept, map_kept}

-- the test says what a mark is
asks : (o : Option Kind) → asks_for_tags o ≡ true → (value tags : ℕ) × (o ≡ Some (Init value tags)) × (1 ≤ tags)
asks (Some (Init value tags)) e = (value, tags, refl, leb-true 1 tags e)
asks _ e = absurd (false≢true e)

has_body : (o : Option Body) (kind : Kind) → kind_of_body o ≡ Some kind → (body : Body) × (o ≡ Some body)
has_body None kind e = absurd (none-some kind e)
has_body (Some body) kind e = (body, refl)

module _ (g : GraphValue) where
  by_itself : (o : Option Name) (n : Name) → o ≡ Some n → o ≡ Some (unwrap_or o [])
  by_itself o n e = e ∙ ap (λ p. Some (unwrap_or p [])) (sym e)

  each_denotes : (ids : List NodeId) (names : List Name) → map (finite.get g.ids) ids ≡ map Some names → AllByRecursion (λ id. Denotes g id (name_by g.ids id)) ids
  each_denotes [] names e = tt
  each_denotes (id ∷ ids) [] e = cc
  each_denotes (id ∷ ids) (n ∷ names) e =
      let here : finite.get g.ids id ≡ Some n = cc in
      let rest : map (finite.get g.ids) ids ≡ map Some names = cc in
      (by_itself (finite.get g.ids id) n here, each_denotes ids names rest)

  names_are : (ids : List NodeId) (names : List Name) → map (finite.get g.ids) ids ≡ map Some names → names_by g ids ≡ names
  names_are [] [] e = refl
  names_are [] (n ∷ names) e = cc
  names_are (id ∷ ids) [] e = cc
  names_are (id ∷ ids) (n ∷ names) e =
      let here : finite.get g.ids id ≡ Some n = cc in
      let rest : map (finite.get g.ids) ids ≡ map Some names = cc in
      ap (λ o. unwrap_or o [] ∷ names_by g ids) here ∙ ap (λ ns. n ∷ ns) (names_are ids names rest)

  marked_name : Name → Bool
  marked_name n = asks_for_tags ((circuit_of g.graph).kind_at n)

  names_of_marks : (ids : List NodeId) → AreInOrder g ids → names_by g (filter (is_marked g) ids) ≡ filter marked_name (finite.keys g.graph.nodes)
  unfolding marked_name
  names_of_marks ids order = map_kept (name_by g.ids) marked_name ids ∙ ap (filter marked_name) (names_are ids (finite.keys g.graph.nodes) order)

  is_mark : (n : Name) → In n (filter marked_name (finite.keys g.graph.nodes)) → IsMark (circuit_of g.graph) n
  unfolding marked_name
  is_mark n i = asks ((circuit_of g.graph).kind_at n) (filter_passes marked_name n (finite.keys g.graph.nodes) i).1

  has_mark : (n : Name) → IsMark (circuit_of g.graph) n → In n (filter marked_name (finite.keys g.graph.nodes))
  unfolding marked_name
  has_mark n (value, tags, e, some) =
      let (body, found) = has_body (finite.get g.graph.nodes n) (Init value tags) e in
      filter_keeps marked_name n (finite.keys g.graph.nodes) (key_in g.graph.nodes n body found) (ap asks_for_tags e ∙ le-leb 1 tags some)

  -- the nodes that pass the test are the marks
  pub marks_are : (ids marks : List NodeId) → AreInOrder g ids → marks ≡ filter (is_marked g) ids → AreMarks g marks
  marks_are ids marks order e =
      let names = ap (names_by g) e ∙ names_of_marks ids order in
      record {
        live = subst (AllByRecursion (λ id. Denotes g id (name_by g.ids id))) (sym e) (each_kept (is_marked g) (λ id. Denotes g id (name_by g.ids id)) ids (each_denotes ids (finite.keys g.graph.nodes) order));
        marks = λ n. ((λ i. is_mark n (subst (In n) names i)), (λ m. subst (In n) (sym names) (has_mark n m)));
        by_name = subst Ascending (sym names) (filter_ascends marked_name (finite.keys g.graph.nodes) (keys_ascend g.graph.nodes));
      }
