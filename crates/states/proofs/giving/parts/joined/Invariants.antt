use Rattle.std.proofs.Common.{◌≡◌, ◌++◌, drop}
use Rattle.std.specs.List.{concat}
use Rattle.states.specs.Giving.{heads}
use Rattle.states.proofs.giving.parts.joined.Given as goal

abbrev pub invariant-loop-queue : goal.invariant-loop-queue
invariant-loop-queue l = l.fields.items ++ concat (heads (drop l.queue-index l.queues)) ≡ concat (heads l.queues)
