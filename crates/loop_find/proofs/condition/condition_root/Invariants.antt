use Rattle.loop_find.proofs.Conditions.{RootedBelow}
use Rattle.loop_find.proofs.condition.condition_root.Given as goal

abbrev pub invariant-loop-lane : goal.invariant-loop-lane
invariant-loop-lane l = RootedBelow l.g l.lanes l.root l.lane-index
