use Rattle.std.proofs.Common.{◌≡◌, ◌-◌}
use Rattle.loop_find.proofs.WalkSteps.{Underway}
use Rattle.loop_find.proofs.walk.walk.Given as goal

abbrev pub invariant-loop-next : goal.invariant-loop-next
invariant-loop-next l = record {
  so_far : Underway l.g l.way l.initial.seen.ids l.seen.ids l.next;
  room : l.seen.room ≡ l.initial.seen.room;
}

abbrev pub decreases-loop-next : goal.decreases-loop-next
decreases-loop-next l = l.seen.room - l.next
