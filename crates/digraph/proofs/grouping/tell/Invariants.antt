use Rattle.digraph.proofs.GroupsTold.{TellsBelow}
use Rattle.digraph.proofs.grouping.tell.Given as goal

abbrev pub invariant-loop-vertex : goal.invariant-loop-vertex
invariant-loop-vertex l = TellsBelow l.group l.vertex-index l.cyclic l.initial.told.items l.told.items
