use Rattle.std.proofs.Common.{◌≡◌, ◌-◌, length}
use Rattle.loop_find.proofs.WalkSteps.{Stepping}
use Rattle.loop_find.proofs.walk.step.Given as goal

abbrev pub invariant-loop-next : goal.invariant-loop-next
invariant-loop-next l = record {
  so_far : Stepping l.g l.way l.from.ids l.seen.ids l.next;
  room : l.seen.room ≡ l.fn.seen.room;
}

abbrev pub decreases-loop-next : goal.decreases-loop-next
decreases-loop-next l = length l.from.ids - l.next
