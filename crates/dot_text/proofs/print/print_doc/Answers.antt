use Rattle.std.proofs.Common.{arith, ap, ◌∙◌, sym, subst, ◌≡◌, ◌++◌, codes, string_bytes, IsUtf8}
use Rattle.std.proofs.lemmas.Grind.{common_steps}
use Rattle.std.proofs.lemmas.Str.{IsUtf8-string_bytes}
use Rattle.dot_text.specs.Printing.{printed}
use Rattle.dot_text.proofs.Lines.{lines_stand}
use Rattle.dot_text.proofs.print.print_doc.Goals as goal

pub returns-clause-stands : goal.returns-clause-stands
returns-clause-stands c = λ h.
    let is = c.into_bytes.ensures.value in
    let lines : string_bytes c.push_str-2.new.self ≡ printed c.args.doc.now ++ codes "\n" = grind (arith, common_steps) in
    lines_stand c.args.doc.now c.into_bytes.result.items (ap (λ v. v.items) is ∙ lines) (subst (λ v. IsUtf8 v.items) (sym is) (IsUtf8-string_bytes c.push_str-2.new.self)) h
