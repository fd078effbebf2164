use Rattle.loop_find.proofs.CycleEdges.{CrossedBelow}
use Rattle.loop_find.proofs.cycles.graph_of_places.Given as goal

abbrev pub invariant-loop-index : goal.invariant-loop-index
invariant-loop-index l = CrossedBelow l.g l.spots l.index l.graph
