use Rattle.std.proofs.Common.{arith}
use Rattle.states.proofs.Lists.{each_dropped}
use Rattle.states.proofs.place.Place.take_each.Goals as goal

pub returns : goal.returns
returns c =
    let done = c.loop-input.invariant in
    let queues = each_dropped c.loop-input.self.queues c.args.self.now.queues done.count (λ k below. done.done k (omega (arith, below, done.count))) in
    λ i. record { queues = queues i; slots = done.slots i }
