use Rattle.read_back.proofs.WrittenDocument.{canonical_prints}
use Rattle.read_back.proofs.laws.canonical_document_prints.Goals as goal

pub returns : goal.returns
returns c = canonical_prints c.ports_are_shapes.ensures (record { printed = c.printed_is_text.ensures.text; plain = c.text_is_plain.ensures })
