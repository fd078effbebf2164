use Rattle.graph_core.specs.GraphValue.{name_by}
use Rattle.states.specs.Starting.{AreHeld}
use Rattle.states.proofs.starting.start_queues.Given as goal

abbrev pub invariant-loop-input : goal.invariant-loop-input
invariant-loop-input l = AreHeld l.g (name_by l.g.ids l.node) l.input l.queues.items
