use Rattle.circuit_examples.proofs.LoneInit.{init_typed, init_rests, init_drains, init_drains_only}
use Rattle.circuit_examples.proofs.init_drains_bits.Goals as goal

pub returns-clause-typed : goal.returns-clause-typed
returns-clause-typed c = λ value mark. init_typed value mark c.graph_typed_as_circuit.ensures.graph

pub returns-clause-rests : goal.returns-clause-rests
returns-clause-rests c = init_rests

pub returns-clause-drains : goal.returns-clause-drains
returns-clause-drains c = λ value mark given gotten ok. (init_drains_only c.one_rest.ensures.one value mark given gotten, λ h. init_drains value mark given gotten ok h.0 h.1)
