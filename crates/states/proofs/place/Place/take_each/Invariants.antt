use Rattle.std.proofs.Common.{◌≡◌, ◌<◌, ◌≤◌, ℕ, length, drop}
use Rattle.states.specs.Place.{queue_at}
use Rattle.states.proofs.place.Place.take_each.Given as goal

abbrev pub invariant-loop-input : goal.invariant-loop-input
invariant-loop-input l = record {
  slots : l.self.slots ≡ l.initial.self.slots;
  count : length l.self.queues ≡ length l.initial.self.queues;
  done : (k : ℕ) → k < l.input → queue_at l.self.queues k ≡ drop 1 (queue_at l.initial.self.queues k);
  left : (k : ℕ) → l.input ≤ k → queue_at l.self.queues k ≡ queue_at l.initial.self.queues k;
}
