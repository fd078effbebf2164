-- What is printed of a graph that was read can be read again.
use Rattle.std.proofs.Common.{sym, ap, subst, ◌∙◌}
use Rattle.dot_text.specs.Laws.{OneDocument, StandingPrints, StandingIsUtf8}
use Rattle.graph_print.specs.CanonicalText.{text_of}
use Rattle.graph_read.specs.GraphReading.{graph_reading}
use Rattle.graph_read.specs.GraphLaws.{ReadIsTyped, ReadHasAllowedNames}
use Rattle.read_back.specs.CanonicalReading.{ReadFits}
use Rattle.read_back.specs.CanonicalTexts.{ReadTexts}
use Rattle.read_back.specs.Input.{IsInputOf}
use Rattle.read_back.specs.ReadBack.{TextReadsBack, ReadCanBeRead, PrintReadsBack, InputIsOneGraph, PrintOfPrint, TextTellsGraph}
use Rattle.read_back.proofs.ReadNodes.{same_answer}

pub read_can_be_read : StandingPrints → StandingIsUtf8 → ReadIsTyped → ReadHasAllowedNames → ReadFits → ReadTexts → ReadCanBeRead
read_can_be_read prints utf8 typed named fits texts g bytes input =
    let document = input.document in
    let stands = input.holds.stands in
    let right = typed document g input.reads in
    let is_utf8 = utf8 bytes 0 document input.holds.end stands in
    let fit = fits document g input.reads in
    let written = texts document g input.reads in
    record {
      within = record { typed = right.0; names = named document g is_utf8 input.reads; few = right.1; values = fit.0; kept = fit.1 };
      quoted = written.0 (prints bytes 0 document input.holds.end stands);
      utf8 = written.1 is_utf8;
    }

pub print_reads_back : TextReadsBack → ReadCanBeRead → PrintReadsBack
print_reads_back back within g bytes input = back g (within g bytes input)

pub input_is_one_graph : OneDocument → InputIsOneGraph
input_is_one_graph one_document g h bytes a b =
    let same = one_document bytes 0 a.document b.document a.holds.end b.holds.end a.holds.stands b.holds.stands in
    same_answer g h (sym a.reads ∙ ap graph_reading same.0 ∙ b.reads)

pub print_of_print : PrintReadsBack → InputIsOneGraph → PrintOfPrint
print_of_print back one g h bytes input again = ap text_of (one h g (text_of g) again (back g bytes input))

pub text_tells_graph : TextReadsBack → InputIsOneGraph → TextTellsGraph
text_tells_graph back one g text can is =
    let input = subst (IsInputOf g) (sym is) (back g can) in
    record { is = is; back = input; alone = λ other again. one other g text again input }
