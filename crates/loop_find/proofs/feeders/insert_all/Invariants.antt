use Rattle.std.proofs.Common.{◌≡◌, ◌-◌, length}
use Rattle.loop_find.proofs.Unions.{Uniting}
use Rattle.loop_find.proofs.feeders.insert_all.Given as goal

abbrev pub invariant-loop-next : goal.invariant-loop-next
invariant-loop-next l = record {
  so_far : Uniting l.initial.seen.ids l.from.ids l.seen.ids l.next;
  room : l.seen.room ≡ l.initial.seen.room;
}

abbrev pub decreases-loop-next : goal.decreases-loop-next
decreases-loop-next l = length l.from.ids - l.next
