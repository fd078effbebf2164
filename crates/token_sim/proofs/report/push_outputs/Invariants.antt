use Rattle.std.proofs.Common.{◌≡◌, ◌++◌, drop, string_bytes}
use Rattle.token_sim.specs.ReportText.{outputs_text}
use Rattle.token_sim.proofs.report.push_outputs.Given as goal

abbrev pub invariant-loop-output : goal.invariant-loop-output
invariant-loop-output l = string_bytes l.text ++ outputs_text l.g (drop l.output-index l.outputs) ≡ string_bytes l.fn.text ++ outputs_text l.g l.outputs
