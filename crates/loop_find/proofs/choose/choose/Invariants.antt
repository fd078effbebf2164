use Rattle.std.proofs.Common.{◌≡◌, ◌-◌, length}
use Rattle.loop_find.proofs.WalkSteps.{Choosing}
use Rattle.loop_find.proofs.choose.choose.Given as goal

abbrev pub invariant-loop-next : goal.invariant-loop-next
invariant-loop-next l = record {
  so_far : Choosing l.g l.test l.set.ids l.from.ids l.chosen.ids l.next;
  room : l.chosen.room ≡ l.fn.chosen.room;
}

abbrev pub decreases-loop-next : goal.decreases-loop-next
decreases-loop-next l = length l.from.ids - l.next
