-- The canonical text of a graph is an input of the graph.
use Rattle.std.proofs.Common.{ℕ, List, [], ◌++◌, length, codes, refl, length-append}
use Rattle.std.proofs.Math.Seq.{drop-append_seam}
use Rattle.dot_text.specs.Laws.{PrintedStands, PrintedIsUtf8}
use Rattle.dot_text.specs.Lexical.{Skipped.blank}
use Rattle.dot_text.specs.Blanks.{Blanks.none as no_blank, Blanks.skip, FirstByte.ended, SkipsTo}
use Rattle.dot_text.specs.Printing.{printed}
use Rattle.graph_print.specs.CanonicalText.{canonical_document}
use Rattle.read_back.specs.CanonicalReading.{CanonicalReadsBack}
use Rattle.read_back.specs.CanonicalTexts.{CanonicalPrints}
use Rattle.read_back.specs.ReadBack.{TextReadsBack}

-- the last LF is a blank, and nothing stands behind it
line_end : (lines : List ℕ) → SkipsTo (lines ++ codes "\n") (length lines) (length (lines ++ codes "\n"))
line_end lines = record {
  blanks = skip (record { text = codes "\n"; rest = []; is = drop-append_seam lines (codes "\n"); skipped = blank 10 refl; ends = length-append lines (codes "\n") }) no_blank;
  first = ended refl;
}

pub text_reads_back : PrintedStands → PrintedIsUtf8 → CanonicalReadsBack → CanonicalPrints → TextReadsBack
text_reads_back stands utf8 reads prints g can =
    let document = canonical_document g in
    let both = prints g can.within can.quoted can.utf8 in
    record {
      document = document;
      holds = record { end = length (printed document); stands = stands document (codes "\n") both.0 (utf8 document both.1); behind = line_end (printed document) };
      reads = reads g can.within;
    }
