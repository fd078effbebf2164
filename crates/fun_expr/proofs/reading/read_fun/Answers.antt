use Rattle.std.proofs.Common.{sym, ◌∙◌}
use Rattle.std.specs.Prelude.{reverse}
use Rattle.fun_expr.proofs.Finishing.{no_text, goes_on_to}
use Rattle.fun_expr.proofs.Answered.{too_big, answered}
use Rattle.fun_expr.proofs.reading.read_fun.Goals as goal

pub returns-in-Err-clause-reads : goal.returns-in-Err-clause-reads
returns-in-Err-clause-reads c =
    let h = sym c.scan.ensures ∙ c.in-Err.is in
    (no_text c.args.text.now c.in-Err.byte h, goes_on_to c.args.text.now c.in-Err.byte h)

pub returns-then-not-is_within-clause-reads : goal.returns-then-not-is_within-clause-reads
returns-then-not-is_within-clause-reads c =
    too_big c.args.text.now c.in-Ok.extent (sym c.scan.ensures ∙ c.in-Ok.is) (λ both. let yes = c.is_within.ensures.1 both in cc)

pub returns-in-Ok-build-clause-reads : goal.returns-in-Ok-build-clause-reads
returns-in-Ok-build-clause-reads c =
    let builder = c.in-Ok-build.field-0 in
    answered c.tests_are_the_table.ensures.widths c.typed_widths_are_few.ensures c.args.text.now c.args.input.now c.in-Ok.extent (reverse builder.frames.items) builder.binds.items builder.outs.items
    (sym c.scan.ensures ∙ c.in-Ok.is) (c.is_within.ensures.0 c.if-not-is_within.false) c.in-Ok-build.ensures c.judged.ensures.shape c.judged.result c.judged.ensures.verdict
