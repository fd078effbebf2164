use Rattle.std.proofs.Common.{◌≡◌, ◌++◌, drop, string_bytes}
use Rattle.token_sim.specs.ReportText.{behind_dots}
use Rattle.token_sim.proofs.report.push_behind_dots.Given as goal

abbrev pub invariant-loop-number : goal.invariant-loop-number
invariant-loop-number l = string_bytes l.text ++ behind_dots (drop l.number-index l.numbers) ≡ string_bytes l.fn.text ++ behind_dots l.numbers
