use Rattle.pure_extract.proofs.DropBufferLaws.Sound.{matches, leaves_out, takes_one}
use Rattle.pure_extract.proofs.drop_buffer.drop_buffer_leaves_out.Goals as goal

pub returns-clause-matches : goal.returns-clause-matches
returns-clause-matches c = matches c.dropped_is_replaced.ensures.matches

pub returns-clause-gives : goal.returns-clause-gives
returns-clause-gives c = leaves_out c.graph_typed_as_circuit.ensures.circuit c.dropped_is_replaced.ensures.graph

pub returns-clause-one : goal.returns-clause-one
returns-clause-one c = takes_one
