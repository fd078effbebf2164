-- Sets of the nodes of two sets.
use Rattle.std.proofs.Common.{◌≡◌, ◌⊎◌, inl, inr, ℕ, ◌+◌, ◌<◌, ◌≤◌, refl, sym, ap, subst, ◌∙◌, List, [], length, Some, arith}
use Rattle.std.specs.Prelude.{slice_get}
use Rattle.std.proofs.lemmas.Bool.{cases_eq}
use Rattle.std.proofs.lemmas.Option.{same_Some, slice_get_within}
use Rattle.components.specs.Name.{Name}
use Rattle.circuits.specs.Replacing.{In}
use Rattle.graph_core.specs.declared.place.NodeId.{NodeId}
use Rattle.graph_core.specs.GraphValue.{GraphValue, Denotes, IsGraph, name_by}
use Rattle.loop_find.specs.Feeding.{HasBoth}
use Rattle.loop_find.specs.NodeSets.{IsPut}
use Rattle.loop_find.specs.Walks.{AreAll}
use Rattle.loop_find.proofs.Choosing.{put_has, put_in, put_keeps}
use Rattle.loop_find.proofs.Places.{in_at, at_in}

-- the first nodes of the other are there
pub record Uniting (one other both : List NodeId) (next : ℕ) : Type 0 where
  pub each : (id : NodeId) → In id both → In id one ⊎ In id other
  pub first : (id : NodeId) → In id one → In id both
  pub all : (k : ℕ) (id : NodeId) → k < next → slice_get other k ≡ Some id → In id both

pub uniting_first : (one other : List NodeId) → Uniting one other one 0
uniting_first one other = record { each = λ id i. inl i; first = λ id i. i; all = λ k id below. absurd (omega arith) }

pub uniting_more : (one other both after : List NodeId) (next : ℕ) (id : NodeId) → Uniting one other both next → slice_get other next ≡ Some id → IsPut both id after → Uniting one other after (next + 1)
uniting_more one other both after next id so_far at put =
    record {
      each = λ x i. elim (put_in both after id put x i) [ inl old ↦ so_far.each x old | inr same ↦ inr (subst (λ y. In y other) (sym same) (at_in other next id at)) ];
      first = λ x i. put_keeps both after id put x (so_far.first x i);
      all = λ k x below got. elim (cases_eq k next) [
        | inl same ↦ subst (λ y. In y after) (same_Some id x (sym at ∙ ap (slice_get other) (sym same) ∙ got)) (put_has both after id put)
        | inr apart ↦ put_keeps both after id put x (so_far.all k x (omega arith) got)
      ];
    }

pub uniting_last : (one other both : List NodeId) (next : ℕ) → Uniting one other both next → length other ≤ next → HasBoth one other both
uniting_last one other both next done past id = (
  done.each id,
  λ either. elim either [
    | inl i ↦ done.first id i
    | inr i ↦
        let (place, at) = in_at id other i in
        let less : place < length other = slice_get_within other place id at in
        done.all place id (omega arith) at
  ],
)

-- both to an empty set
pub both_from_none : (none one other first both : List NodeId) → none ≡ [] → HasBoth none one first → HasBoth first other both → HasBoth one other both
both_from_none none one other first both empty a b id = (
  λ i. elim ((b id).0 i) [
    | inl j ↦ elim ((a id).0 j) [ inl k ↦ elim (subst (In id) empty k) [ ] | inr k ↦ inl k ]
    | inr j ↦ inr j
  ],
  λ either. elim either [ inl i ↦ (b id).1 (inl ((a id).1 (inr i))) | inr i ↦ (b id).1 (inr i) ],
)

module _ (g : GraphValue) (P Q : Name → Type 0) (one other both : List NodeId) (ones : AreAll g P one) (others : AreAll g Q other) (has : HasBoth one other both) where
  pub both_are : AreAll g (λ n. P n ⊎ Q n) both
  both_are id = (
    λ i. elim ((has id).0 i) [
      | inl j ↦ let (n, denotes, p) = (ones id).0 j in (n, denotes, inl p)
      | inr j ↦ let (n, denotes, q) = (others id).0 j in (n, denotes, inr q)
    ],
    λ picked. elim picked.2 [ inl p ↦ (has id).1 (inl ((ones id).1 (picked.0, picked.1, p))) | inr q ↦ (has id).1 (inr ((others id).1 (picked.0, picked.1, q))) ],
  )

  -- with one node more
  module _ (ok : IsGraph g) (mark : NodeId) (live : Denotes g mark (name_by g.ids mark)) (after : List NodeId) (put : IsPut both mark after) where
    pub with_one_more : AreAll g (λ n. P n ⊎ (Q n ⊎ (n ≡ name_by g.ids mark))) after
    with_one_more id = (
      λ i. elim (put_in both after mark put id i) [
        | inl old ↦ elim ((has id).0 old) [
          | inl j ↦ let (n, denotes, p) = (ones id).0 j in (n, denotes, inl p)
          | inr j ↦ let (n, denotes, q) = (others id).0 j in (n, denotes, inr (inl q))
        ]
        | inr same ↦ (name_by g.ids mark, subst (λ x. Denotes g x (name_by g.ids mark)) (sym same) live, inr (inr refl))
      ],
      λ picked. elim picked.2 [
        | inl p ↦ put_keeps both after mark put id ((has id).1 (inl ((ones id).1 (picked.0, picked.1, p))))
        | inr (inl q) ↦ put_keeps both after mark put id ((has id).1 (inr ((others id).1 (picked.0, picked.1, q))))
        | inr (inr same) ↦ subst (λ x. In x after) (ok.alone mark id (name_by g.ids mark) live (subst (Denotes g id) same picked.1)) (put_has both after mark put)
      ],
    )
