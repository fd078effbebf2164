use Rattle.circuit_examples.proofs.BufferLeftOut.{left_out_is_rule, left_out_matches, old_part_is_part, left_out_gives, left_out_refines}
use Rattle.circuit_examples.proofs.rule_leaves_buffer_out.Goals as goal

pub returns-clause-rule : goal.returns-clause-rule
returns-clause-rule c = λ shape. left_out_is_rule shape c.graph_typed_as_circuit.ensures.graph c.graph_buffer_shows_nothing.ensures.dropped

pub returns-clause-matches : goal.returns-clause-matches
returns-clause-matches c = left_out_matches

pub returns-clause-part : goal.returns-clause-part
returns-clause-part c = λ shape.
    old_part_is_part shape c.graph_typed_as_circuit.ensures.circuit c.graph_typed_as_circuit.ensures.graph c.replaced_graph_as_circuit.ensures.consumer

pub returns-clause-gives : goal.returns-clause-gives
returns-clause-gives c = λ shape. left_out_gives shape c.graph_typed_as_circuit.ensures.graph c.dropped_is_replaced.ensures.graph

pub returns-clause-refines : goal.returns-clause-refines
returns-clause-refines c = λ shape.
    left_out_refines shape c.graph_typed_as_circuit.ensures.graph c.graph_buffer_shows_nothing.ensures.dropped c.dropped_is_replaced.ensures.graph c.graph_replacement_refines.ensures.refines
