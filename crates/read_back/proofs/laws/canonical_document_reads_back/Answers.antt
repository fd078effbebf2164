-- The laws of the crates below are what the calls ensure.
use Rattle.read_back.proofs.CanonicalGraph.{canonical_reads_back}
use Rattle.read_back.proofs.laws.canonical_document_reads_back.Goals as goal

pub returns : goal.returns
returns c =
    canonical_reads_back (record {
      words = c.words_read_back.ensures;
      shapes = c.ports_are_shapes.ensures;
      says = c.reads_ports.ensures;
      back = c.reads_back.ensures;
      rows = c.rows_read_back.ensures;
      values = c.numbers_read_back.ensures.hexadecimal;
      tags = c.numbers_read_back.ensures.tags;
      functions = c.printed_is_text.ensures.text;
    })
