use Rattle.std.proofs.Common.{◌≡◌, ◌-◌, length}
use Rattle.loop_find.proofs.OrderSteps.{Ordering}
use Rattle.loop_find.proofs.order.order_body.Given as goal

abbrev pub invariant-loop-id : goal.invariant-loop-id
invariant-loop-id l = record {
  so_far : Ordering l.g l.body.ids l.placed.ids l.ready.entries;
  room : l.placed.room ≡ l.fn.placed.room;
}

abbrev pub decreases-loop-id : goal.decreases-loop-id
decreases-loop-id l = l.placed.room - length l.placed.ids
