use Rattle.dot_text.proofs.Utf8.{stands_utf8}
use Rattle.dot_text.proofs.laws.document_is_utf8.Goals as goal

pub returns : goal.returns
returns c = stands_utf8
