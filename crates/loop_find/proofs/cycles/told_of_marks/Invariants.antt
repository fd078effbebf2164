use Rattle.loop_find.proofs.CycleEdges.{ToldBelow}
use Rattle.loop_find.proofs.cycles.told_of_marks.Given as goal

abbrev pub invariant-loop-shape : goal.invariant-loop-shape
invariant-loop-shape l = ToldBelow l.on l.loops l.told.items l.shape-index
