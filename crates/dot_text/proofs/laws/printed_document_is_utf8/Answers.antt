use Rattle.dot_text.proofs.PrintedUtf8.{printed_utf8}
use Rattle.dot_text.proofs.laws.printed_document_is_utf8.Goals as goal

pub returns : goal.returns
returns c = printed_utf8
