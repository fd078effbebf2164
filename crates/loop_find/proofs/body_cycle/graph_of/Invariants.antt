use Rattle.std.proofs.Common.{◌-◌, length}
use Rattle.loop_find.proofs.BodyEdges.{EdgesBelow}
use Rattle.loop_find.proofs.body_cycle.graph_of.Given as goal

abbrev pub invariant-loop-place : goal.invariant-loop-place
invariant-loop-place l = EdgesBelow l.g l.set.ids l.place l.graph

abbrev pub decreases-loop-place : goal.decreases-loop-place
decreases-loop-place l = length l.set.ids - l.place
