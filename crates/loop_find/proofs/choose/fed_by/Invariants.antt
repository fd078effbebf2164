use Rattle.loop_find.proofs.Choosing.{FedBelow}
use Rattle.loop_find.proofs.choose.fed_by.Given as goal

abbrev pub invariant-loop-port : goal.invariant-loop-port
invariant-loop-port l = FedBelow l.g l.set.ids l.id l.port
