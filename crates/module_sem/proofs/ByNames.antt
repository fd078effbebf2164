-- Where graphs can be plugged, their circuits can.
use Rattle.std.proofs.Common.{◌≡◌, ◌≢◌, ◌⊎◌, inl, inr, Bool, true, false, if◌then◌else◌, suc, List, [], ◌∷◌, map, refl, sym, subst, arith}
use Rattle.std.proofs.lemmas.List.Elements.{All-head, All-tail}
use Rattle.std.specs.List.{All, AllPairs, AllByRecursion}
use Rattle.circuits.specs.Circuit.{circuit_of}
use Rattle.circuits.specs.Plug.{Apart, CanPlug, Joins, UsesNoneTwice}
use Rattle.graph_core.specs.GraphValue.{GraphValue, IsGraph}
use Rattle.module_sem.specs.declared.link.Link.{Link}
use Rattle.module_sem.specs.GraphLinks.{AreOfDifferentEnds, CanPlugGraphs, IsJoin, by_names}
use Rattle.module_sem.proofs.Ends.{same_end}

module _ (c g : GraphValue) where
  -- a link joins an Exit of the one to an Entry of the other
  joins_one : (l : Link) (b : Bool) → l.outer_exit ≡ b → IsJoin c g l → Joins (by_names c g l) (circuit_of c.graph) (circuit_of g.graph) ⊎ Joins (by_names c g l) (circuit_of g.graph) (circuit_of c.graph)
  joins_one l true is join = inl (subst (λ b. Joins (by_names c g l) (circuit_of (if b then c else g).graph) (circuit_of (if b then g else c).graph)) is join)
  joins_one l false is join = inr (subst (λ b. Joins (by_names c g l) (circuit_of (if b then c else g).graph) (circuit_of (if b then g else c).graph)) is join)

  joins_each : (links : List Link) → All (IsJoin c g) links → AllByRecursion (λ l. Joins l (circuit_of c.graph) (circuit_of g.graph) ⊎ Joins l (circuit_of g.graph) (circuit_of c.graph)) (map (by_names c g) links)
  joins_each [] each = tt
  joins_each (l ∷ links) each = (joins_one l l.outer_exit refl (All-head (IsJoin c g) l links each), joins_each links (All-tail (IsJoin c g) l links each))

  module _ (is_c : IsGraph c) (is_g : IsGraph g) (apart : Apart (circuit_of c.graph) (circuit_of g.graph)) where
    abbrev HasOtherEnds : Link → Link → Type 0
    HasOtherEnds l m = ((by_names c g m).exit ≢ (by_names c g l).exit) × ((by_names c g m).entry ≢ (by_names c g l).entry)

    -- links whose ids differ have ends of different names
    other_ends : (l m : Link) → IsJoin c g l → IsJoin c g m → AreOfDifferentEnds l m → HasOtherEnds l m
    other_ends l m join other differ = (
      λ same.
          let (way, id) = same_end c g is_c is_g apart m.outer_exit l.outer_exit m.exit l.exit _ _ other.exit join.exit same in
          (differ (sym way)).0 (sym id),
      λ same.
          let (way, id) = same_end g c is_g is_c (λ n k e at_g at_c. apart n e k at_c at_g) m.outer_exit l.outer_exit m.entry l.entry _ _ other.entry join.entry same in
          (differ (sym way)).1 (sym id),
    )

    none_twice : (links : List Link) → All (IsJoin c g) links → AllPairs AreOfDifferentEnds links → UsesNoneTwice (map (by_names c g) links)
    none_twice [] each pairs = tt
    none_twice (l ∷ links) each pairs = (
      others links (All-tail (IsJoin c g) l links each) (λ k d below. pairs 0 (suc k) d (omega arith) (omega arith)),
      none_twice links (All-tail (IsJoin c g) l links each) (λ i j d less below. pairs (suc i) (suc j) d (omega arith) (omega arith)),
    )
      where
        others : (ms : List Link) → All (IsJoin c g) ms → All (AreOfDifferentEnds l) ms → AllByRecursion (λ m. (m.exit ≢ (by_names c g l).exit) × (m.entry ≢ (by_names c g l).entry)) (map (by_names c g) ms)
        others [] all differ = tt
        others (m ∷ ms) all differ = (
          other_ends l m (All-head (IsJoin c g) l links each) (All-head (IsJoin c g) m ms all) (All-head (AreOfDifferentEnds l) m ms differ),
          others ms (All-tail (IsJoin c g) m ms all) (All-tail (AreOfDifferentEnds l) m ms differ),
        )

pub can_plug_circuits : (c : GraphValue) (links : List Link) (g : GraphValue) → IsGraph c → IsGraph g → CanPlugGraphs c links g → CanPlug (circuit_of c.graph) (map (by_names c g) links) (circuit_of g.graph)
can_plug_circuits c links g is_c is_g can =
    record {
      apart = can.apart;
      joins = joins_each c g links can.joins;
      once = none_twice c g is_c is_g can.apart links can.joins can.once;
    }
