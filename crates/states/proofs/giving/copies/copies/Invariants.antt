use Rattle.std.proofs.Common.{◌≡◌, replicate, Some}
use Rattle.states.specs.Giving.{head_of}
use Rattle.states.specs.Place.{queue_at}
use Rattle.states.proofs.giving.copies.copies.Given as goal

abbrev pub invariant-loop-output : goal.invariant-loop-output
invariant-loop-output l = l.given.items ≡ replicate l._output (Some (head_of (queue_at l.queues 0)))
