use Rattle.pure_extract.proofs.DropBufferLaws.Sound.{sound}
use Rattle.pure_extract.proofs.drop_buffer.drop_buffer_is_sound.Goals as goal

pub returns : goal.returns
returns c = sound c.graph_typed_as_circuit.ensures.circuit c.graph_typed_as_circuit.ensures.graph c.buffer_shows_nothing.ensures.dropped
