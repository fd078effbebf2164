use Rattle.std.proofs.Common.{◌≡◌, ◌++◌, string_bytes}
use Rattle.std.specs.Str.Iter.{chars_rest}
use Rattle.dot_text.specs.Printing.{escaped}
use Rattle.dot_text.proofs.print.push_escaped.Given as goal

abbrev pub invariant-loop-c : goal.invariant-loop-c
invariant-loop-c l = string_bytes l.out ++ escaped (chars_rest l.c-iterator) ≡ string_bytes l.fn.out ++ escaped l.fn.text
