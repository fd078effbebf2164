use Rattle.loop_find.specs.Crossings.{Adds}
use Rattle.loop_find.proofs.CycleEdges.{CrossesBelow}
use Rattle.loop_find.proofs.cycles.add_wires.Given as goal

abbrev pub invariant-loop-port : goal.invariant-loop-port
invariant-loop-port l = Adds (CrossesBelow l.g l.spots l.id l.port) l.initial.graph l.graph
