use Rattle.graph_core.proofs.InOrder.{SoFar}
use Rattle.graph_core.proofs.by_name.ids_by_name.Given as goal

abbrev pub invariant-loop-index : goal.invariant-loop-index
invariant-loop-index l = SoFar l.g l.ids.entries l.index
