use Rattle.std.proofs.Common.{arith, ap, ◌∙◌, sym, ◌++◌, string_bytes}
use Rattle.std.proofs.lemmas.Bool.Decides.{nat_tests}
use Rattle.dot_text.proofs.Lines.{escaped_char}
use Rattle.dot_text.proofs.print.push_escaped_char.Goals as goal

pub returns-in_ok-push : goal.returns-in_ok-push
returns-in_ok-push c = c.in_ok-push.ensures.bytes ∙ ap (λ z. string_bytes c.args.out.now ++ z) (sym (escaped_char c.args.c (grind (arith, nat_tests))))
