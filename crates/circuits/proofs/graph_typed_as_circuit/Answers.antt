use Rattle.circuits.proofs.GraphCircuits.{circuit_typed, graph_typed}
use Rattle.circuits.proofs.graph_typed_as_circuit.Goals as goal

pub returns-clause-circuit : goal.returns-clause-circuit
returns-clause-circuit c = circuit_typed

pub returns-clause-graph : goal.returns-clause-graph
returns-clause-graph c = graph_typed
