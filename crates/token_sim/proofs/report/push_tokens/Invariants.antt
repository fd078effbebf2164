use Rattle.std.proofs.Common.{◌≡◌, ◌++◌, drop, string_bytes}
use Rattle.token_sim.specs.ReportText.{tokens_text}
use Rattle.token_sim.proofs.report.push_tokens.Given as goal

abbrev pub invariant-loop-token : goal.invariant-loop-token
invariant-loop-token l = string_bytes l.text ++ tokens_text (drop l.token-index l.tokens) ≡ string_bytes l.fn.text ++ tokens_text l.tokens
