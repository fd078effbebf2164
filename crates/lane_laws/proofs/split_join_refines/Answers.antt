use Rattle.lane_laws.proofs.SplitJoinGraphs.{split_join_is_rule, split_join_refines}
use Rattle.lane_laws.proofs.split_join_refines.Goals as goal

pub returns-clause-rule : goal.returns-clause-rule
returns-clause-rule c = split_join_is_rule (record { operators = c.value_fits.ensures; functions = c.fun_value_fits.ensures }) c.graph_typed_as_circuit.ensures.graph

pub returns-clause-refines : goal.returns-clause-refines
returns-clause-refines c = split_join_refines (record { operators = c.value_fits.ensures; functions = c.fun_value_fits.ensures })
