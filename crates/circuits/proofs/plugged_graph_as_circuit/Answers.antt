use Rattle.circuits.proofs.PluggedGraphs.{plugged_circuit, plugged_typed}
use Rattle.circuits.proofs.plugged_graph_as_circuit.Goals as goal

pub returns-clause-circuit : goal.returns-clause-circuit
returns-clause-circuit c = plugged_circuit

pub returns-clause-typed : goal.returns-clause-typed
returns-clause-typed c = plugged_typed
