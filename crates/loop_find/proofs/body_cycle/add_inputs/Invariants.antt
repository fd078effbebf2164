use Rattle.loop_find.specs.Crossings.{Adds}
use Rattle.loop_find.proofs.BodyEdges.{InputsBelow}
use Rattle.loop_find.proofs.body_cycle.add_inputs.Given as goal

abbrev pub invariant-loop-port : goal.invariant-loop-port
invariant-loop-port l = Adds (InputsBelow l.g l.set.ids l.id l.place l.port) l.initial.graph l.graph
