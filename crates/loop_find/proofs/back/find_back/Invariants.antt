use Rattle.std.proofs.Common.{◌≡◌, ◌-◌, length}
use Rattle.loop_find.proofs.BackSteps.{Backwards}
use Rattle.loop_find.proofs.back.find_back.Given as goal

abbrev pub invariant-loop-back : goal.invariant-loop-back
invariant-loop-back l = record {
  so_far : Backwards l.g l.fn.target l.back.ids l.source;
  room : l.back.room ≡ l.fn.back.room;
}

abbrev pub decreases-loop-back : goal.decreases-loop-back
decreases-loop-back l = l.back.room - length l.back.ids
