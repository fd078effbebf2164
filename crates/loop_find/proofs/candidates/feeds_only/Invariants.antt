use Rattle.loop_find.proofs.FeedingSteps.{FeedsBelow}
use Rattle.loop_find.proofs.candidates.feeds_only.Given as goal

abbrev pub invariant-loop-port : goal.invariant-loop-port
invariant-loop-port l = FeedsBelow l.g l.takers.ids l.seen.ids l.id l.port
