use Rattle.std.proofs.Common.{◌≡◌}
use Rattle.loop_find.proofs.WalkSteps.{Entering}
use Rattle.loop_find.proofs.walk.enter_followers.Given as goal

abbrev pub invariant-loop-port : goal.invariant-loop-port
invariant-loop-port l = record {
  so_far : Entering l.g l.way l.id l.initial.seen.ids l.seen.ids l.port;
  room : l.seen.room ≡ l.initial.seen.room;
}
