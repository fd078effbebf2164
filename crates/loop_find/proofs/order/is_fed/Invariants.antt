use Rattle.loop_find.proofs.OrderSteps.{IsFedBelow}
use Rattle.loop_find.proofs.order.is_fed.Given as goal

abbrev pub invariant-loop-port : goal.invariant-loop-port
invariant-loop-port l = IsFedBelow l.g l.body.ids l.placed.ids l.id l.port
