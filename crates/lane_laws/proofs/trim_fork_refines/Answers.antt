use Rattle.lane_laws.proofs.TrimForkGraphs.{trim_fork_is_rule, trim_fork_refines}
use Rattle.lane_laws.proofs.trim_fork_refines.Goals as goal

pub returns-clause-rule : goal.returns-clause-rule
returns-clause-rule c = trim_fork_is_rule (record { operators = c.value_fits.ensures; functions = c.fun_value_fits.ensures }) c.graph_typed_as_circuit.ensures.graph

pub returns-clause-refines : goal.returns-clause-refines
returns-clause-refines c = trim_fork_refines (record { operators = c.value_fits.ensures; functions = c.fun_value_fits.ensures })
