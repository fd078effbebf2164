use Rattle.dot_text.proofs.AtOnce.{stands_within}
use Rattle.dot_text.proofs.reader.read_doc.Goals as goal

pub returns-in-Ok-Found-clause-within : goal.returns-in-Ok-Found-clause-within
returns-in-Ok-Found-clause-within c =
    stands_within c.args.bytes.now c.args.from c.in-Ok-Found.to c.in-Ok-Found.doc c.requires (rw c.in-Ok-Found.field-0-is at c.in-Ok-Found.ensures)
