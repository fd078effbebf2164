-- Lanes that have too many fields together.
use Rattle.std.proofs.Common.{◌≡◌, ℕ, ◌+◌, ◌<◌, ◌≤◌, Bool, true, false, not, List, length, drop, get_or, inl, inr, refl, ap, subst, arith}
use Rattle.std.proofs.lemmas.Bool.{cases_lt, false≢true}
use Rattle.std.proofs.lemmas.List.{drop_more}
use Rattle.components.specs.Name.{Name}
use Rattle.circuits.specs.Circuit.{circuit_of}
use Rattle.circuits.specs.Replacing.{In}
use Rattle.loop_laws.specs.Reached.{IsLane}
use Rattle.loop_laws.specs.Faults.{Row}
use Rattle.loop_laws.specs.declared.fault.LoopFaultKind.TheVariants.{TooWide}
use Rattle.loop_laws.specs.Weight.{fields_at, fields_of}
use Rattle.loop_laws.proofs.Counting.{no_heavier, fields_sum}
use Rattle.graph_core.specs.declared.place.NodeId.{NodeId}
use Rattle.graph_core.specs.GraphValue.{GraphValue, IsGraph, name_by}
use Rattle.loop_find.specs.Marks.{names_by}
use Rattle.loop_find.specs.NodeSets.{AreDifferent}
use Rattle.loop_find.specs.Walks.{AreAll}
use Rattle.loop_find.proofs.MarkWalks.{holds_of, live_of}
use Rattle.loop_find.proofs.NodeCounts.{in_names, names_in, names_differ}
use Rattle.loop_find.proofs.RowNodes.{fed_lives}
use Rattle.loop_find.proofs.Walking.{itself}

module _ (g : GraphValue) where
  -- a node, with those behind it
  pub fields_step : (ids : List NodeId) (i : ℕ) (d : NodeId) → i < length ids →
      fields_of (circuit_of g.graph) (names_by g (drop i ids)) ≡ fields_at ((circuit_of g.graph).kind_at (name_by g.ids (get_or ids i d))) + fields_of (circuit_of g.graph) (names_by g (drop (i + 1) ids))
  fields_step ids i d less = ap (λ xs. fields_of (circuit_of g.graph) (names_by g xs)) (drop_more ids i d less)

  module _ (ok : IsGraph g) (m : Name) (goes_back : Bool) (ids : List NodeId) (lanes : AreAll g (IsLane (circuit_of g.graph) m) ids) (different : AreDifferent ids) where
    is_wide : 127 < fields_of (circuit_of g.graph) (names_by g ids) → Row (circuit_of g.graph) m goes_back TooWide m
    is_wide more = (
      refl,
      names_by g ids,
      names_differ g ok ids (live_of g (IsLane (circuit_of g.graph) m) ids lanes) different,
      λ n i. let (id, j, same) = names_in g ids n i in subst (IsLane (circuit_of g.graph) m) same (holds_of g (IsLane (circuit_of g.graph) m) ids lanes id j),
      more,
    )

    among : (n : Name) → IsLane (circuit_of g.graph) m n → In n (names_by g ids)
    among n lane =
        let (id, denotes) = fed_lives g ok n 1 lane.source lane.fed in
        subst (λ k. In k (names_by g ids)) (itself g id n denotes) (in_names g ids id ((lanes id).1 (n, denotes, lane)))

    not_wide : fields_of (circuit_of g.graph) (names_by g ids) ≤ 127 → Row (circuit_of g.graph) m goes_back TooWide m → ⊥
    not_wide slim (same, ns, once, each, more) =
        let counted = no_heavier (λ x. fields_at ((circuit_of g.graph).kind_at x)) ns (names_by g ids) once (λ n i. among n (each n i)) in
        let a = fields_sum (circuit_of g.graph) ns in
        let b = fields_sum (circuit_of g.graph) (names_by g ids) in
        omega (arith, counted, a, b, slim, more)

    -- by what is told of the fields
    pub told_wide : (t : Bool) → (t ≡ true → fields_of (circuit_of g.graph) (names_by g ids) ≤ 127) × (fields_of (circuit_of g.graph) (names_by g ids) ≤ 127 → t ≡ true) →
        (not t ≡ true → Row (circuit_of g.graph) m goes_back TooWide m) × (Row (circuit_of g.graph) m goes_back TooWide m → not t ≡ true)
    told_wide true says = (λ e. absurd (false≢true e), λ row. absurd (not_wide (says.0 refl) row))
    told_wide false says = (
      λ e. elim (cases_lt 127 (fields_of (circuit_of g.graph) (names_by g ids))) [ inl more ↦ is_wide more | inr light ↦ absurd (false≢true (says.1 light)) ],
      λ row. refl,
    )
