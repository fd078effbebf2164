use Rattle.std.proofs.Common.{◌≡◌, ◌-◌, length}
use Rattle.loop_find.proofs.RootWalks.{Tracing}
use Rattle.loop_find.proofs.root.find_root.Given as goal

abbrev pub invariant-loop-trail : goal.invariant-loop-trail
invariant-loop-trail l = record {
  so_far : Tracing l.g l.fn.target l.trail.ids l.source;
  room : l.trail.room ≡ l.fn.trail.room;
}

abbrev pub decreases-loop-trail : goal.decreases-loop-trail
decreases-loop-trail l = l.trail.room - length l.trail.ids
