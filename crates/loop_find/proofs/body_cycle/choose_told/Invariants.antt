use Rattle.std.proofs.Common.{◌≡◌, ◌-◌, length}
use Rattle.loop_find.proofs.BodyEdges.{Telling}
use Rattle.loop_find.proofs.body_cycle.choose_told.Given as goal

abbrev pub invariant-loop-place : goal.invariant-loop-place
invariant-loop-place l = record {
  so_far : Telling l.set.ids l.on l.found.ids l.place;
  room : l.found.room ≡ l.fn.found.room;
}

abbrev pub decreases-loop-place : goal.decreases-loop-place
decreases-loop-place l = length l.set.ids - l.place
