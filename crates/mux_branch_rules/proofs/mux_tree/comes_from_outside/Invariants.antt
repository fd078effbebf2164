use Rattle.std.proofs.Common.{◌≡◌, ◌+◌, ◌≤◌, ℕ, Some, length}
use Rattle.mux_branch_rules.specs.MuxTree.{ends}
use Rattle.mux_branch_rules.proofs.mux_tree.comes_from_outside.Given as goal

abbrev pub invariant-loop : goal.invariant-loop
invariant-loop l = (left : ℕ) → left + l.counter ≡ length l.sources → ends left l.sources (Some l.at) ≡ ends (length l.sources) l.sources (Some l.fn.source)
