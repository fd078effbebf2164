use Rattle.loop_find.specs.BodyOrders.{Queues}
use Rattle.loop_find.proofs.OrderSteps.{IsFedFromBelow}
use Rattle.loop_find.proofs.order.enter_targets.Given as goal

abbrev pub invariant-loop-port : goal.invariant-loop-port
invariant-loop-port l = Queues l.g l.body.ids l.placed.ids (IsFedFromBelow l.g l.id l.port) l.initial.ready.entries l.ready.entries
