use Rattle.circuit_examples.proofs.LoneWire.{wire_typed, wire_shows, wire_shows_no_other}
use Rattle.circuit_examples.proofs.wire_shows_tokens.Goals as goal

pub returns-clause-typed : goal.returns-clause-typed
returns-clause-typed c = wire_typed c.graph_typed_as_circuit.ensures.graph

pub returns-clause-token : goal.returns-clause-token
returns-clause-token c = wire_shows

pub returns-clause-no_other : goal.returns-clause-no_other
returns-clause-no_other c = wire_shows_no_other
