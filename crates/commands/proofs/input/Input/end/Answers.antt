use Rattle.std.proofs.Common.{◌≡◌, length, rules, arith}
use Rattle.std.proofs.lemmas.Bool.Decides.{nat_tests}
use Rattle.dot_text.specs.Blanks.{SkipsTo, SkipFails}
use Rattle.commands.specs.Parts.{nothing_more, unclosed, more}
use Rattle.commands.proofs.Verdicts.{before_end}
use Rattle.commands.proofs.input.Input.end.Goals as goal

pub returns-in-Ok : goal.returns-in-Ok
returns-in-Ok c =
    let s = c.args.self.now in
    let skips : SkipsTo s.bytes s.place (length s.bytes) = search rules in
    nothing_more skips

pub returns-in-Ok-2 : goal.returns-in-Ok-2
returns-in-Ok-2 c =
    let s = c.args.self.now in
    let skips : SkipsTo s.bytes s.place c.in-Ok.place = search rules in
    let not_end = c.if-place-len.false in
    let bytes : c.deref.result.now ≡ s.bytes = search rules in
    more c.in-Ok.place skips (before_end s.bytes s.place c.in-Ok.place skips (λ same. absurd (grind (arith, nat_tests, not_end, same, bytes))))

pub returns-in-Err : goal.returns-in-Err
returns-in-Err c =
    let s = c.args.self.now in
    let fails : SkipFails s.bytes s.place c.in-Err.place = search rules in
    unclosed c.in-Err.place fails
