use Rattle.std.proofs.Common.{drop, map, Bor, List, ℕ}
use Rattle.std.specs.Prelude.{◌↔◌}
use Rattle.loop_body.specs.Judging.{AllDiffer}
use Rattle.loop_body.proofs.Naming.{AllNew}
use Rattle.loop_body.proofs.different.all_differ.Given as goal

-- all differ exactly where the rest do, and are none of those that were seen
abbrev pub invariant-loop-text : goal.invariant-loop-text
invariant-loop-text l = AllDiffer (map (λ (text : Bor (List ℕ)). text.now) l.texts) ↔ AllNew l.seen.keys (drop l.text-index l.texts)
