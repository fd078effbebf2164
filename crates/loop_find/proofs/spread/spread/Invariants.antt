use Rattle.std.proofs.Common.{◌≡◌, ◌-◌}
use Rattle.loop_find.proofs.SpreadSteps.{Spreading}
use Rattle.loop_find.proofs.spread.spread.Given as goal

abbrev pub invariant-loop-next : goal.invariant-loop-next
invariant-loop-next l = record {
  so_far : Spreading l.g l.within.ids l.initial.seen.ids l.seen.ids l.next;
  room : l.seen.room ≡ l.initial.seen.room;
}

abbrev pub decreases-loop-next : goal.decreases-loop-next
decreases-loop-next l = l.seen.room - l.next
