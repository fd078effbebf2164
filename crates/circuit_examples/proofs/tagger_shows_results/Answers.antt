use Rattle.circuit_examples.proofs.LoneTagger.{tagger_typed, tagger_shows}
use Rattle.circuit_examples.proofs.TaggerRefuses.{tagger_refuses}
use Rattle.circuit_examples.proofs.tagger_shows_results.Goals as goal

pub returns-clause-typed : goal.returns-clause-typed
returns-clause-typed c = tagger_typed c.graph_typed_as_circuit.ensures.graph

pub returns-clause-in_order : goal.returns-clause-in_order
returns-clause-in_order c = tagger_shows

pub returns-clause-no_other : goal.returns-clause-no_other
returns-clause-no_other c = tagger_refuses
