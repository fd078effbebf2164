use Rattle.circuits.proofs.ReplacedGraph.Lookups.{node_at, circuit_is}
use Rattle.circuits.proofs.ReplacedGraph.Consumers.{fed_is_consumer}
use Rattle.circuits.proofs.replaced_graph_as_circuit.Goals as goal

pub returns-clause-consumer : goal.returns-clause-consumer
returns-clause-consumer c = fed_is_consumer

pub returns-clause-nodes : goal.returns-clause-nodes
returns-clause-nodes c = node_at

pub returns-clause-circuit : goal.returns-clause-circuit
returns-clause-circuit c = circuit_is
