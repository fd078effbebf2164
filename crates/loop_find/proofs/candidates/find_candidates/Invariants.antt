use Rattle.std.proofs.Common.{◌≡◌, ◌-◌, length}
use Rattle.loop_find.proofs.FeedingSteps.{Feeding}
use Rattle.loop_find.proofs.candidates.find_candidates.Given as goal

abbrev pub invariant-loop-next : goal.invariant-loop-next
invariant-loop-next l = record {
  so_far : Feeding l.g l.takers.ids l.seen.ids l.next 0;
  room : l.seen.room ≡ l.fn.seen.room;
}

abbrev pub decreases-loop-next : goal.decreases-loop-next
decreases-loop-next l = length l.takers.ids - l.next

abbrev pub invariant-loop-place : goal.invariant-loop-place
invariant-loop-place l = record {
  so_far : Feeding l.g l.takers.ids l.seen.ids (length l.takers.ids) l.place;
  room : l.seen.room ≡ l.fn.seen.room;
}

abbrev pub decreases-loop-place : goal.decreases-loop-place
decreases-loop-place l = l.seen.room - l.place
