-- How many nodes there are of which something holds.
use Rattle.std.proofs.Common.{◌≡◌, ◌≢◌, ℕ, suc, ◌<◌, ◌≤◌, refl, sym, ap, subst, ◌∙◌, Bool, List, [], ◌∷◌, length, Some, arith}
use Rattle.std.specs.List.{AllByRecursion}
use Rattle.std.proofs.lemmas.Option.{same_Some}
use Rattle.components.specs.Name.{Name}
use Rattle.circuits.specs.Circuit.{circuit_of}
use Rattle.circuits.specs.Replacing.{In, In.head, In.tail, NoneTwice}
use Rattle.loop_laws.specs.Reached.{IsLane}
use Rattle.loop_laws.specs.Faults.{Row}
use Rattle.loop_laws.specs.declared.fault.LoopFaultKind.TheVariants.{TooManyLanes}
use Rattle.loop_laws.proofs.Counting.{no_heavier, ones}
use Rattle.graph_core.specs.declared.place.NodeId.{NodeId}
use Rattle.graph_core.specs.GraphValue.{GraphValue, Denotes, IsGraph, name_by}
use Rattle.loop_find.specs.NodeSets.{AreDifferent, HavePlaces}
use Rattle.loop_find.specs.Marks.{names_by}
use Rattle.loop_find.specs.Walks.{AreAll, AreLive}
use Rattle.loop_find.proofs.MarkWalks.{holds_of, live_of}
use Rattle.loop_find.proofs.Places.{in_at}
use Rattle.loop_find.proofs.RowNodes.{fed_lives}
use Rattle.loop_find.proofs.Walking.{itself}

pub are_different : (ids : List NodeId) (places : List ℕ) → HavePlaces ids places → AreDifferent ids
are_different ids places have j k id at other = same_Some j k (sym (have j id at) ∙ have k id other)

module _ (g : GraphValue) where
  pub in_names : (ids : List NodeId) (id : NodeId) → In id ids → In (name_by g.ids id) (names_by g ids)
  in_names [] id i = elim i [ ]
  in_names (x ∷ ids) id (head e) = head (ap (name_by g.ids) e)
  in_names (x ∷ ids) id (tail i) = tail (in_names ids id i)

  pub names_in : (ids : List NodeId) (n : Name) → In n (names_by g ids) → (id : NodeId) × In id ids × (name_by g.ids id ≡ n)
  names_in [] n i = elim i [ ]
  names_in (x ∷ ids) n (head e) = (x, head refl, sym e)
  names_in (x ∷ ids) n (tail i) = let (id, j, same) = names_in ids n i in (id, tail j, same)

  pub as_many : (ids : List NodeId) → length (names_by g ids) ≡ length ids
  as_many [] = refl
  as_many (x ∷ ids) = ap suc (as_many ids)

  all_of : (P : Name → Type 0) (ns : List Name) → ((n : Name) → In n ns → P n) → AllByRecursion P ns
  all_of P [] each = tt
  all_of P (n ∷ ns) each = (each n (head refl), all_of P ns (λ k i. each k (tail i)))

  module _ (is : IsGraph g) where
    pub names_differ : (ids : List NodeId) → AreLive g ids → AreDifferent ids → NoneTwice (names_by g ids)
    names_differ [] live different = tt
    names_differ (x ∷ ids) live different = (
      all_of (λ n. name_by g.ids x ≢ n) (names_by g ids) apart,
      names_differ ids (λ id i. live id (tail i)) (λ j k id at other. suc_same j k (different (suc j) (suc k) id at other)),
    )
      where
        suc_same : (j k : ℕ) → suc j ≡ suc k → j ≡ k
        suc_same j k e = omega arith

        apart : (n : Name) → In n (names_by g ids) → name_by g.ids x ≢ n
        apart n i same =
            let (y, j, is_y) = names_in ids n i in
            let one : x ≡ y = is.alone x y (name_by g.ids x) (live x (head refl)) (subst (Denotes g y) (is_y ∙ sym same) (live y (tail j))) in
            let (k, at) = in_at y ids j in
            let bad : 0 ≡ suc k = different 0 (suc k) x refl (at ∙ ap Some (sym one)) in
            omega (arith, bad)

    module _ (mark : NodeId) (lanes : List NodeId) (are : AreAll g (IsLane (circuit_of g.graph) (name_by g.ids mark)) lanes) (different : AreDifferent lanes) (goes_back : Bool) where
      pub too_many : 62 < length lanes → Row (circuit_of g.graph) (name_by g.ids mark) goes_back TooManyLanes (name_by g.ids mark)
      too_many more = (
        refl,
        names_by g lanes,
        names_differ lanes (live_of g (IsLane (circuit_of g.graph) (name_by g.ids mark)) lanes are) different,
        λ n i.
            let (id, j, same) = names_in lanes n i in
            subst (IsLane (circuit_of g.graph) (name_by g.ids mark)) same (holds_of g (IsLane (circuit_of g.graph) (name_by g.ids mark)) lanes are id j),
        subst (λ k. 62 < k) (sym (as_many lanes)) more,
      )

      pub few : length lanes ≤ 62 → ¬ (Row (circuit_of g.graph) (name_by g.ids mark) goes_back TooManyLanes (name_by g.ids mark))
      few less (same, ns, once, each, more) =
          let fits = no_heavier (λ x. 1) ns (names_by g lanes) once (λ n i. among n (each n i)) in
          let a = ones ns in
          let b = ones (names_by g lanes) in
          let k = as_many lanes in
          omega (arith, fits, a, b, k, less, more)
        where
          among : (n : Name) → IsLane (circuit_of g.graph) (name_by g.ids mark) n → In n (names_by g lanes)
          among n lane =
              let (id, denotes) = fed_lives g is n 1 lane.source lane.fed in
              subst (λ k. In k (names_by g lanes)) (itself g id n denotes) (in_names lanes id ((are id).1 (n, denotes, lane)))
