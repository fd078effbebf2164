use Rattle.std.proofs.Common.{◌≡◌, ◌++◌, take, string_bytes}
use Rattle.drawn_rules.specs.EndNames.{letters_from}
use Rattle.drawn_rules.proofs.end_names.push_letters.Given as goal

abbrev pub invariant-loop-place : goal.invariant-loop-place
invariant-loop-place l = string_bytes l.text ≡ string_bytes l.fn.text ++ letters_from 1 (take l.place l.names)
