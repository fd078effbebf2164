use Rattle.std.proofs.Common.{◌≡◌}
use Rattle.loop_find.specs.Spreading.{Brings}
use Rattle.loop_find.proofs.SpreadSteps.{TargetBelow}
use Rattle.loop_find.proofs.spread.enter_targets.Given as goal

abbrev pub invariant-loop-port : goal.invariant-loop-port
invariant-loop-port l = record {
  so_far : Brings l.g (TargetBelow l.g l.within.ids l.id l.port) l.initial.seen.ids l.seen.ids;
  room : l.seen.room ≡ l.initial.seen.room;
}
