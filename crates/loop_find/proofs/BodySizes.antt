-- Bodies that have too many nodes, or weigh too much.
use Rattle.std.proofs.Common.{◌≡◌, ◌⊎◌, inl, inr, ℕ, ◌+◌, ◌<◌, ◌≤◌, Bool, true, false, not, List, [], length, drop, get_or, refl, ap, subst, arith}
use Rattle.std.proofs.lemmas.Bool.{cases_lt, false≢true}
use Rattle.std.proofs.lemmas.List.{drop_more}
use Rattle.components.specs.Name.{Name}
use Rattle.circuits.specs.Circuit.{circuit_of}
use Rattle.circuits.specs.Replacing.{In}
use Rattle.loop_laws.specs.Reached.{Reached.first, Reached.later}
use Rattle.loop_laws.specs.Faults.{InBody, Row}
use Rattle.loop_laws.specs.declared.fault.LoopFaultKind.TheVariants.{BodyTooBig}
use Rattle.loop_laws.specs.Weight.{weight, weight_of}
use Rattle.loop_laws.proofs.Constants.{constant_kind}
use Rattle.loop_laws.proofs.Counting.{no_heavier, ones, weights}
use Rattle.graph_core.specs.declared.place.NodeId.{NodeId}
use Rattle.graph_core.specs.GraphValue.{GraphValue, Denotes, IsGraph, name_by}
use Rattle.loop_find.specs.Marks.{names_by}
use Rattle.loop_find.specs.NodeSets.{AreDifferent}
use Rattle.loop_find.specs.Walks.{AreAll}
use Rattle.loop_find.proofs.MarkWalks.{holds_of, live_of}
use Rattle.loop_find.proofs.NodeCounts.{as_many, in_names, names_in, names_differ}
use Rattle.loop_find.proofs.RowNodes.{fed_lives}
use Rattle.loop_find.proofs.Walking.{id_of_node, itself}

module _ (g : GraphValue) where
  -- a node, with those behind it
  pub weight_step : (ids : List NodeId) (i : ℕ) (d : NodeId) → i < length ids →
      weight_of (circuit_of g.graph) (names_by g (drop i ids)) ≡ weight ((circuit_of g.graph).kind_at (name_by g.ids (get_or ids i d))) + weight_of (circuit_of g.graph) (names_by g (drop (i + 1) ids))
  weight_step ids i d less = ap (λ xs. weight_of (circuit_of g.graph) (names_by g xs)) (drop_more ids i d less)

  module _ (ok : IsGraph g) (m : Name) (goes_back : Bool) (ids : List NodeId) (body : AreAll g (InBody (circuit_of g.graph) m goes_back) ids) (different : AreDifferent ids) where
    lives : (n : Name) → InBody (circuit_of g.graph) m goes_back n → (id : NodeId) × Denotes g id n
    lives n (inl (first i q lane fed passed)) = fed_lives g ok n i q fed
    lives n (inl (later i q on fed passed)) = fed_lives g ok n i q fed
    lives n (inr (ns, i, fs)) = let k = constant_kind (circuit_of g.graph) [] ns n fs.constant i in id_of_node g ok n k.0 k.1

    is_big : (4096 < length (names_by g ids)) ⊎ (16384 < weight_of (circuit_of g.graph) (names_by g ids)) → Row (circuit_of g.graph) m goes_back BodyTooBig m
    is_big big = (
      refl,
      names_by g ids,
      names_differ g ok ids (live_of g (InBody (circuit_of g.graph) m goes_back) ids body) different,
      λ n i. let (id, j, same) = names_in g ids n i in subst (InBody (circuit_of g.graph) m goes_back) same (holds_of g (InBody (circuit_of g.graph) m goes_back) ids body id j),
      big,
    )

    pub too_many_nodes : 4096 < length ids → Row (circuit_of g.graph) m goes_back BodyTooBig m
    too_many_nodes more = is_big (inl (let same = as_many g ids in omega (arith, same, more)))

    pub too_heavy : 16384 < weight_of (circuit_of g.graph) (names_by g ids) → Row (circuit_of g.graph) m goes_back BodyTooBig m
    too_heavy more = is_big (inr more)

    among : (n : Name) → InBody (circuit_of g.graph) m goes_back n → In n (names_by g ids)
    among n inside =
        let (id, denotes) = lives n inside in
        subst (λ k. In k (names_by g ids)) (itself g id n denotes) (in_names g ids id ((body id).1 (n, denotes, inside)))

    pub not_big : length ids ≤ 4096 → weight_of (circuit_of g.graph) (names_by g ids) ≤ 16384 → Row (circuit_of g.graph) m goes_back BodyTooBig m → ⊥
    not_big few light (same, ns, once, each, big) =
        let counted = no_heavier (λ x. 1) ns (names_by g ids) once (λ n i. among n (each n i)) in
        let weighed = no_heavier (λ x. weight ((circuit_of g.graph).kind_at x)) ns (names_by g ids) once (λ n i. among n (each n i)) in
        let a = ones ns in
        let b = ones (names_by g ids) in
        let k = as_many g ids in
        let v = weights (circuit_of g.graph) ns in
        let w = weights (circuit_of g.graph) (names_by g ids) in
        elim big [
          | inl more ↦ omega (arith, counted, a, b, k, few, more)
          | inr more ↦ omega (arith, weighed, v, w, light, more)
        ]

    -- by what is told of the weight
    pub told_big : length ids ≤ 4096 → (t : Bool) →
        (t ≡ true → weight_of (circuit_of g.graph) (names_by g ids) ≤ 16384) × (weight_of (circuit_of g.graph) (names_by g ids) ≤ 16384 → t ≡ true) →
        (not t ≡ true → Row (circuit_of g.graph) m goes_back BodyTooBig m) × (Row (circuit_of g.graph) m goes_back BodyTooBig m → not t ≡ true)
    told_big few true says = (λ e. absurd (false≢true e), λ row. absurd (not_big few (says.0 refl) row))
    told_big few false says = (
      λ e. elim (cases_lt 16384 (weight_of (circuit_of g.graph) (names_by g ids))) [ inl more ↦ too_heavy more | inr light ↦ absurd (false≢true (says.1 light)) ],
      λ row. refl,
    )
