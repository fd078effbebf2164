use Rattle.dot_text.proofs.Printed.{printed_stands_before}
use Rattle.dot_text.proofs.laws.printed_document_stands.Goals as goal

pub returns : goal.returns
returns c = printed_stands_before
