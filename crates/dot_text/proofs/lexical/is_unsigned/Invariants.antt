use Rattle.std.proofs.Common.{◌≡◌, drop, false}
use Rattle.dot_text.specs.Lexical.{is_unsigned}
use Rattle.dot_text.proofs.lexical.is_unsigned.Given as goal

abbrev pub invariant-loop-at : goal.invariant-loop-at
invariant-loop-at l = is_unsigned false l.bytes ≡ is_unsigned l.some (drop l.at l.bytes)
