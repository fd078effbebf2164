use Rattle.lane_laws.proofs.MuxGraphs.{mux_combine_is_rule, mux_combine_refines}
use Rattle.lane_laws.proofs.mux_combine_refines.Goals as goal

pub returns-clause-rule : goal.returns-clause-rule
returns-clause-rule c = mux_combine_is_rule (record { operators = c.value_fits.ensures; functions = c.fun_value_fits.ensures }) c.graph_typed_as_circuit.ensures.graph

pub returns-clause-refines : goal.returns-clause-refines
returns-clause-refines c = mux_combine_refines (record { operators = c.value_fits.ensures; functions = c.fun_value_fits.ensures })
