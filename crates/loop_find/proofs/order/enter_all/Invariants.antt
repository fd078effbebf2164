use Rattle.std.proofs.Common.{◌-◌, length}
use Rattle.loop_find.specs.BodyOrders.{Queues}
use Rattle.loop_find.proofs.OrderSteps.{IsAmong}
use Rattle.loop_find.proofs.order.enter_all.Given as goal

abbrev pub invariant-loop-next : goal.invariant-loop-next
invariant-loop-next l = Queues l.g l.body.ids l.placed.ids (IsAmong l.g l.body.ids l.next) l.fn.ready.entries l.ready.entries

abbrev pub decreases-loop-next : goal.decreases-loop-next
decreases-loop-next l = length l.body.ids - l.next
