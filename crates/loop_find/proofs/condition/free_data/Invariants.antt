use Rattle.graph_core.specs.GraphValue.{name_by}
use Rattle.loop_find.proofs.Conditions.{FreeBelow}
use Rattle.loop_find.proofs.condition.free_data.Given as goal

abbrev pub invariant-loop-lane : goal.invariant-loop-lane
invariant-loop-lane l = FreeBelow l.g (name_by l.g.ids l.fn.mark) l.goes_back l.lanes l.lane-index
