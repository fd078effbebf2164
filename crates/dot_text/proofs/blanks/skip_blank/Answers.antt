use Rattle.std.proofs.Common.{drop}
use Rattle.dot_text.specs.declared.blanks.Skip.TheVariants.{Bytes, Unclosed, Nothing}
use Rattle.dot_text.specs.Lexical.{begins_line}
use Rattle.dot_text.specs.Blanks.{Blanks.none as no_blank}
use Rattle.dot_text.specs.Skip.{BeginsBlank}
use Rattle.dot_text.proofs.Skipping.{blanks_more}
use Rattle.dot_text.proofs.BlankStarts.{blank_here, place_after, unclosed_here, first_here, at_place}
use Rattle.dot_text.proofs.blanks.skip_blank.Goals as goal

pub loop-count-init : goal.loop-count-init
loop-count-init c = (no_blank, c.requires)

pub loop-count-preserved : goal.loop-count-preserved
loop-count-preserved c =
    let begins : BeginsBlank (begins_line c.args.bytes.now c.loop-count.place) (drop c.loop-count.place c.args.bytes.now) c.in-Bytes.count =
    at_place c.args.bytes.now c.loop-count.place c.begins_line.result (Bytes c.in-Bytes.count) c.begins_line.ensures c.in-Bytes.ensures in (
      blanks_more c.loop-count.invariant.0 (blank_here c.args.bytes.now c.loop-count.place c.in-Bytes.count begins),
      (place_after c.args.bytes.now c.loop-count.place c.in-Bytes.count c.loop-count.invariant.1 begins).1,
    )

pub returns-in-Unclosed : goal.returns-in-Unclosed
returns-in-Unclosed c =
    record {
      blanks = c.loop-count.invariant.0;
      unclosed = unclosed_here c.args.bytes.now c.loop-count.place (at_place c.args.bytes.now c.loop-count.place c.begins_line.result Unclosed c.begins_line.ensures c.in-Unclosed.ensures);
    }

pub returns-in-Nothing : goal.returns-in-Nothing
returns-in-Nothing c =
    record {
      blanks = c.loop-count.invariant.0;
      first =
          first_here c.args.bytes.now c.loop-count.place c.loop-count.invariant.1
          (at_place c.args.bytes.now c.loop-count.place c.begins_line.result Nothing c.begins_line.ensures c.in-Nothing.ensures);
    }
