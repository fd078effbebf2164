use Rattle.std.proofs.Common.{◌≡◌, take}
use Rattle.mux_branch_rules.specs.BranchCombine.{lanes_of}
use Rattle.mux_branch_rules.proofs.lanes.lanes_at.Given as goal

abbrev pub invariant-loop-index : goal.invariant-loop-index
invariant-loop-index l = l.lanes.items ≡ lanes_of l.g.graph (take l.index l.branches)
