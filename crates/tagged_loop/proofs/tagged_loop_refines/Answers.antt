use Rattle.tagged_loop.proofs.LoopGraphs.{refines, is_rule}
use Rattle.tagged_loop.proofs.tagged_loop_refines.Goals as goal

pub returns-clause-rule : goal.returns-clause-rule
returns-clause-rule c =
    is_rule (record { operators = c.value_fits.ensures; functions = c.fun_value_fits.ensures }) c.graph_typed_as_circuit.ensures.graph

pub returns-clause-refines : goal.returns-clause-refines
returns-clause-refines c = refines (record { operators = c.value_fits.ensures; functions = c.fun_value_fits.ensures })
