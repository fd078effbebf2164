-- The laws of circuits are what the calls ensure.
use Rattle.rewrite.proofs.StrippedByTurns.{stripped_typed}
use Rattle.rewrite.proofs.Refining as refining
use Rattle.rewrite.proofs.laws.stripped_refines.Goals as goal

pub returns-clause-typed : goal.returns-clause-typed
returns-clause-typed c = stripped_typed

pub returns-clause-refines : goal.returns-clause-refines
returns-clause-refines c =
    refining.stripped_refines c.refines_itself.ensures c.refines_in_steps.ensures c.graph_typed_as_circuit.ensures.circuit c.graph_buffer_shows_nothing.ensures.dropped

pub returns-clause-refined : goal.returns-clause-refined
returns-clause-refined c =
    refining.stripped_is_refined c.refines_itself.ensures c.refines_in_steps.ensures c.graph_typed_as_circuit.ensures.circuit c.graph_buffer_shows_nothing.ensures.put
