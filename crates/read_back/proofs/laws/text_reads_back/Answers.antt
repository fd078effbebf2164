use Rattle.read_back.proofs.TextBack.{text_reads_back}
use Rattle.read_back.proofs.laws.text_reads_back.Goals as goal

pub returns : goal.returns
returns c =
    text_reads_back c.printed_document_stands.ensures c.printed_document_is_utf8.ensures c.canonical_document_reads_back.ensures c.canonical_document_prints.ensures
