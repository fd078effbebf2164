-- The ids of the nodes that go, gathered by the indices of left.
use Rattle.std.proofs.Common.{◌≡◌, ◌≢◌, ◌⊎◌, inl, inr, ℕ, ◌+◌, true, List, [], ◌∷◌, ◌++◌, sym, ap, subst, ◌∙◌, arith}
use Rattle.std.specs.List.{Contains}
use Rattle.std.specs.FinMap as finite
use Rattle.std.proofs.lemmas.Bool.{cases_eq}
use Rattle.std.proofs.lemmas.Option.{same_Some}
use Rattle.components.specs.Name.{Name}
use Rattle.circuits.specs.ReplacedGraph.{has_inner}
use Rattle.graph_core.specs.declared.place.NodeId.{NodeId}
use Rattle.graph_core.specs.GraphValue.{GraphValue, Denotes, IsGraph}
use Rattle.graph_core.specs.Place.{id_of, index_of}
use Rattle.subst_engine.specs.PartLists.{AreGone, GoneBelow, IsGone, IsInnerAt, IsInnerBelow}
use Rattle.subst_engine.proofs.Ends.{inner_there}
use Rattle.subst_engine.proofs.Gathering.{gather_none, gather_one}
use Rattle.subst_engine.proofs.ManyChanges.{all_in, contained_where_in}

-- Inner nodes by their indices

module _ (v : GraphValue) (is : IsGraph v) where
  pub one_index : (i j : ℕ) (name : Name) → IsInnerAt v i name → IsInnerAt v j name → i ≡ j
  one_index i j name first second = ap index_of (is.alone (id_of i) (id_of j) name first.denotes second.denotes)

  pub one_inner : (index : ℕ) (name other : Name) → IsInnerAt v index name → IsInnerAt v index other → name ≡ other
  one_inner index name other first second = same_Some name other (sym first.denotes ∙ second.denotes)

  -- the next one was not there
  pub not_before : (index : ℕ) (name : Name) → IsInnerAt v index name → ¬ (IsInnerBelow v index name)
  not_before index name here (k, below, there) = let same = one_index k index name there here in omega arith

  pub below_more : (index : ℕ) (name : Name) → IsInnerBelow v index name → IsInnerBelow v (index + 1) name
  below_more index name (k, below, there) = (k, omega arith, there)

  pub next_below : (index : ℕ) (name : Name) → IsInnerAt v index name → IsInnerBelow v (index + 1) name
  next_below index name here = (index, omega arith, here)

  pub below_or_here : (index : ℕ) (name : Name) → IsInnerBelow v (index + 1) name → IsInnerBelow v index name ⊎ IsInnerAt v index name
  below_or_here index name (k, below, there) = elim (cases_eq k index) [
    | inl same ↦ inr (subst (λ i. IsInnerAt v i name) same there)
    | inr other ↦ inl (k, omega arith, there)
  ]

  pub all_below : (name : Name) → has_inner v.graph name ≡ true → IsInnerBelow v v.slots name
  all_below name inner =
      let (body, found) = inner_there v.graph name inner in
      let (id, denotes) = is.live name body found in
      (index_of id, is.within id name denotes, record { denotes = denotes; inner = inner })

-- Ids that go

module _ (g left : GraphValue) (is_g : IsGraph g) (is : IsGraph left) where
  abbrev Gives : Name → NodeId → Type 0
  Gives name id = Denotes g id name

  abbrev Differ : NodeId → NodeId → Type 0
  Differ i j = i ≢ j

  module _ (index : ℕ) (gone : List NodeId) (so_far : GoneBelow g left index gone) where
    pub no_more_gone : ((name : Name) → ¬ (IsInnerAt left index name)) → GoneBelow g left (index + 1) gone
    no_more_gone none = gather_none Gives Differ (IsInnerBelow left index) (IsInnerBelow left (index + 1)) (below_more left is index) gone so_far
        (λ name more. elim (below_or_here left is index name more) [ inl before ↦ before | inr here ↦ absurd (none name here) ])

    pub one_more_gone : (name : Name) (id : NodeId) → IsInnerAt left index name → Denotes g id name → GoneBelow g left (index + 1) (gone ++ id ∷ [])
    one_more_gone name id here denotes = gather_one Gives Differ (IsInnerBelow left index) (IsInnerBelow left (index + 1)) (below_more left is index) gone so_far
        name id (next_below left is index name here) denotes
        (λ other more. elim (below_or_here left is index other more) [ inl before ↦ inl before | inr there ↦ inr (one_inner left is index other name there here) ])
        (λ other x before given same.
        let one : other ≡ name = same_Some other name (sym given ∙ ap (finite.get g.ids) same ∙ denotes) in
        not_before left is index name here (subst (IsInnerBelow left index) one before))

  pub all_gone : (gone : List NodeId) → GoneBelow g left left.slots gone → AreGone g left.graph gone
  all_gone gone whole = record {
    are = all_in (IsGone g left.graph) gone (λ id there. let (name, (k, below, inner), denotes) = whole.are id there in (name, denotes, inner.inner));
    each = λ id (name, denotes, inner).
        let (other, there, named) = whole.each name (all_below left is name inner) in
        subst (λ (x : NodeId). Contains gone x) (is_g.alone other id name named denotes) (contained_where_in other gone there);
    once = whole.once;
  }
