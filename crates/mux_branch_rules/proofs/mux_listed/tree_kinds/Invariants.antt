use Rattle.std.proofs.Common.{◌≡◌, ◌++◌, drop, length}
use Rattle.mux_branch_rules.specs.MuxSides.{tree_kinds}
use Rattle.mux_branch_rules.proofs.mux_listed.tree_kinds.Given as goal

abbrev pub invariant-loop-index : goal.invariant-loop-index
invariant-loop-index l = (l.kinds.items ++ tree_kinds l.g.graph (drop l.index l.names) ≡ tree_kinds l.g.graph l.names) × (length l.kinds.items ≡ l.index)
