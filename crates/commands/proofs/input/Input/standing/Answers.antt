use Rattle.std.proofs.Common.{◌∙◌, Err, ap, rules}
use Rattle.dot_text.specs.Documents.{Stands, Place}
use Rattle.commands.specs.Parts.{stands, nothing}
use Rattle.commands.proofs.input.Input.standing.Goals as goal

pub returns-in-Ok-clause-judged : goal.returns-in-Ok-clause-judged
returns-in-Ok-clause-judged c =
    let s = c.args.self.now in
    let there : Stands s.bytes s.place c.in-Ok.standing.0 c.in-Ok.standing.1 = search rules in
    stands c.in-Ok.standing.0 c.in-Ok.standing.1 there

pub returns-in-Err-Syntax-clause-judged : goal.returns-in-Err-Syntax-clause-judged
returns-in-Err-Syntax-clause-judged c =
    let s = c.args.self.now in
    let is = c.in-Err-Syntax.is ∙ ap Err c.in-Err-Syntax.field-0-is in
    let at = c.read_doc.ensures.fault c.in-Err-Syntax.place is in
    let there : Place s.bytes s.place c.in-Err-Syntax.place = search (rules, at) in
    nothing c.in-Err-Syntax.place there
