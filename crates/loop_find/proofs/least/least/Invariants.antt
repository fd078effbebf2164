use Rattle.std.proofs.Common.{◌-◌, length}
use Rattle.loop_find.proofs.WalkSteps.{Least}
use Rattle.loop_find.proofs.least.least.Given as goal

abbrev pub invariant-loop-next : goal.invariant-loop-next
invariant-loop-next l = Least l.g l.set.ids l.next l.found

abbrev pub decreases-loop-next : goal.decreases-loop-next
decreases-loop-next l = length l.set.ids - l.next
