-- The new nodes and their places, gathered by the indices of right.
use Rattle.std.proofs.Common.{◌≡◌, ◌≢◌, inl, inr, ℕ, zero, suc, ◌+◌, ◌<◌, List, [], ◌∷◌, ◌++◌, length, get_or, Some, slice_get, refl, sym, ap, subst, ◌∙◌, arith}
use Rattle.std.specs.Prelude.{unwrap_or}
use Rattle.std.specs.Option.{option_map}
use Rattle.std.proofs.lemmas.Bool.{cases_eq}
use Rattle.std.proofs.lemmas.List.{get_or_append_left, get_or_push, length_push}
use Rattle.components.specs.declared.node.Node.{Node}
use Rattle.components.specs.Name.{Name}
use Rattle.graph_core.specs.Exchange.{fresh_name}
use Rattle.graph_core.specs.GraphValue.{GraphValue, IsGraph, IsNodeAt}
use Rattle.graph_core.specs.Place.{id_of}
use Rattle.subst_engine.specs.PartLists.{AreFresh, ArePlaced, FreshBelow, IsFresh, IsInnerAt, IsInnerBelow}
use Rattle.subst_engine.proofs.Gathering.{none_gathered, gather_none, gather_one}
use Rattle.subst_engine.proofs.GoneLists.{one_inner, not_before, below_more, next_below, below_or_here, all_below}
use Rattle.subst_engine.proofs.ManyChanges.{all_in, contained_where_in}

-- What stands in a longer list

module _ {A : Type 0} where
  get_front : (xs : List A) (y : A) (i : ℕ) → i < length xs → slice_get (xs ++ y ∷ []) i ≡ slice_get xs i
  get_front [] y i below = absurd (omega arith)
  get_front (x ∷ xs) y zero below = refl
  get_front (x ∷ xs) y (suc i) below = get_front xs y i (omega arith)

  get_last : (xs : List A) (y : A) → slice_get (xs ++ y ∷ []) (length xs) ≡ Some y
  get_last [] y = refl
  get_last (x ∷ xs) y = get_last xs y

module _ (right : GraphValue) (is : IsGraph right) where
  abbrev Gives : Name → Node → Type 0
  Gives name node = (node.name ≡ name) × IsFresh right.graph node

  abbrev Differ : Node → Node → Type 0
  Differ a b = a.name ≢ b.name

  pub no_fresh : FreshBelow right 0 []
  no_fresh = none_gathered Gives Differ (IsInnerBelow right 0) (λ name (k, below, there). omega arith)

  pub no_places : ArePlaced right 0 [] []
  no_places = record { count = refl; within = λ k name below. absurd (omega arith); named = λ k name below. absurd (omega arith) }

  module _ (index : ℕ) (nodes : List Node) (so_far : FreshBelow right index nodes) where
    pub no_more_fresh : ((name : Name) → ¬ (IsInnerAt right index name)) → FreshBelow right (index + 1) nodes
    no_more_fresh none = gather_none Gives Differ (IsInnerBelow right index) (IsInnerBelow right (index + 1)) (below_more right is index) nodes so_far
        (λ name more. elim (below_or_here right is index name more) [ inl before ↦ before | inr here ↦ absurd (none name here) ])

    pub one_more_fresh : (node : Node) → IsNodeAt right (id_of index) node → IsInnerAt right index node.name → FreshBelow right (index + 1) (nodes ++ node ∷ [])
    one_more_fresh node at here = gather_one Gives Differ (IsInnerBelow right index) (IsInnerBelow right (index + 1)) (below_more right is index) nodes so_far
        node.name node (next_below right is index node.name here) (refl, record { ok = at.ok; inner = here.inner; body = at.body })
        (λ other more. elim (below_or_here right is index other more) [ inl before ↦ inl before | inr there ↦ inr (one_inner right is index other node.name there here) ])
        (λ other x before given same. not_before right is index node.name here (subst (IsInnerBelow right index) (sym given.0 ∙ same) before))

  pub all_fresh : (nodes : List Node) → FreshBelow right right.slots nodes → AreFresh right.graph nodes
  all_fresh nodes whole = record {
    are = all_in (IsFresh right.graph) nodes (λ node there. let (name, below, given) = whole.are node there in given.1);
    each = λ name inner.
        let (node, there, given) = whole.each name (all_below right is name inner) in
        (node, contained_where_in node nodes there, given.0);
    once = whole.once;
  }

  -- Places

  module _ (index : ℕ) (nodes : List Node) (places : List ℕ) (placed : ArePlaced right index nodes places) where
    abbrev longer : List ℕ
    longer = places ++ length nodes ∷ []

    place_before : (k : ℕ) → k < index → get_or longer k 0 ≡ get_or places k 0
    place_before k below = get_or_append_left places (length nodes ∷ []) 0 k (subst (λ n. k < n) (sym placed.count) below)

    place_here : (k : ℕ) → k ≡ index → get_or longer k 0 ≡ length nodes
    place_here k same = get_or_push places (length nodes) 0 k (placed.count ∙ sym same)

    more_places : length longer ≡ index + 1
    more_places = length_push places (length nodes) ∙ ap (λ n. n + 1) placed.count

    pub no_more_placed : ((name : Name) → ¬ (IsInnerAt right index name)) → ArePlaced right (index + 1) nodes longer
    no_more_placed none = record {
      count = more_places;
      within = λ k name below there. elim (cases_eq k index) [
        | inl same ↦ absurd (none name (subst (λ i. IsInnerAt right i name) same there))
        | inr other ↦ let before : k < index = omega arith in subst (λ n. n < length nodes) (sym (place_before k before)) (placed.within k name before there)
      ];
      named = λ k name below there. elim (cases_eq k index) [
        | inl same ↦ absurd (none name (subst (λ i. IsInnerAt right i name) same there))
        | inr other ↦ let before : k < index = omega arith in ap (fresh_name nodes) (place_before k before) ∙ placed.named k name before there
      ];
    }

    pub one_more_placed : (node : Node) → IsInnerAt right index node.name → ArePlaced right (index + 1) (nodes ++ node ∷ []) longer
    one_more_placed node here = record {
      count = more_places;
      within = λ k name below there. elim (cases_eq k index) [
        | inl same ↦ let at = place_here k same in omega (arith, length_push nodes node)
        | inr other ↦
            let before : k < index = omega arith in
            let at = place_before k before in
            let was : get_or places k 0 < length nodes = placed.within k name before there in
            omega (arith, length_push nodes node)
      ];
      named = λ k name below there. elim (cases_eq k index) [
        | inl same ↦
            ap (fresh_name (nodes ++ node ∷ [])) (place_here k same) ∙ ap (λ o. unwrap_or (option_map (λ (x : Node). x.name) o) []) (get_last nodes node)
            ∙ one_inner right is index node.name name here (subst (λ i. IsInnerAt right i name) same there)
        | inr other ↦
            let before : k < index = omega arith in
            ap (fresh_name (nodes ++ node ∷ [])) (place_before k before)
            ∙ ap (λ o. unwrap_or (option_map (λ (x : Node). x.name) o) []) (get_front nodes node (get_or places k 0) (placed.within k name before there))
            ∙ placed.named k name before there
      ];
    }
