use Rattle.std.proofs.Common.{◌≢◌, ◌<◌, ℕ}
use Rattle.drawn_rules.specs.Labels.{nth}
use Rattle.mux_branch_rules.proofs.mux_tree.position.Given as goal

abbrev pub invariant-loop-index : goal.invariant-loop-index
invariant-loop-index l = (place : ℕ) → place < l.index → nth l.names place ≢ l.name
