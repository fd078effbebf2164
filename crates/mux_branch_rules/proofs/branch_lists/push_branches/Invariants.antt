use Rattle.std.proofs.Common.{◌≡◌, ◌++◌, take}
use Rattle.mux_branch_rules.specs.BranchSides.{branch_nodes}
use Rattle.mux_branch_rules.proofs.branch_lists.push_branches.Given as goal

abbrev pub invariant-loop-index : goal.invariant-loop-index
invariant-loop-index l = l.nodes.items ≡ l.fn.nodes.items ++ branch_nodes (take l.index l.branches) (take l.index l.lanes)
