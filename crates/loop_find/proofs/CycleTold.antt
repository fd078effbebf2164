-- What is told of the loops of all marks.
use Rattle.std.proofs.Common.{ℕ, sym, ◌∙◌, List, Bool, Result, Ok, Err, IfOk, arith}
use Rattle.circuits.specs.Circuit.{Typed, circuit_of}
use Rattle.circuits.specs.Replacing.{In}
use Rattle.digraph.specs.Cycles.{TellsCycles}
use Rattle.graph_core.specs.Place.{index_of}
use Rattle.graph_core.specs.GraphValue.{GraphValue, IsGraph, name_by}
use Rattle.loop_find.specs.declared.shape.LoopShape.{LoopShape}
use Rattle.loop_find.specs.declared.spots.Spot.{Spot}
use Rattle.loop_find.specs.Crossings.{IsGraphOfPlaces}
use Rattle.loop_find.specs.OnCycle.{AreLoops, AreToldOf, TellsOnCycle}
use Rattle.loop_find.specs.Spots.{AreSpots}
use Rattle.loop_find.proofs.Places.{at_in}
use Rattle.loop_find.proofs.CycleNumbers.{cycle_told, mark_live}

module _ (g : GraphValue) (ok : IsGraph g) (ty : Typed (circuit_of g.graph)) (shapes : List LoopShape) (ls : AreLoops g shapes) (spots : List Spot) (are : AreSpots g shapes spots)
    (rows : List (List ℕ)) (is_graph : IsGraphOfPlaces g spots rows) (on : List Bool) (tells : TellsCycles rows on) where
  pub all_told : (told : List Bool) → AreToldOf on shapes told → TellsOnCycle g shapes told
  all_told told (size, each) =
      record {
        size = size;
        exact = λ loops all k s at.
            let i : In s shapes = at_in shapes k s at in
            let less = ok.within s.mark (name_by g.ids s.mark) (mark_live g ok ty shapes ls s i) in
            let same_size = is_graph.size in
            let cycle = cycle_told g ok ty shapes ls loops all spots are rows is_graph s i in
            let exact = tells.exact (index_of s.mark) (omega (arith, less, same_size)) in
            (λ t. cycle.0 (exact.0 (sym (each k s at) ∙ t)), λ c. each k s at ∙ exact.1 (cycle.1 c));
      }

pub if_ok_so : {V E : Type 0} (P Q : V → Type 0) (r : Result V E) → ((v : V) → P v → Q v) → IfOk r P → IfOk r Q
if_ok_so P Q (Ok v) so p = so v p
if_ok_so P Q (Err e) so p = tt
