use Rattle.std.proofs.Common.{◌≡◌, ◌++◌, take}
use Rattle.mux_branch_rules.specs.MuxSides.{tree_nodes}
use Rattle.mux_branch_rules.proofs.mux_lists.push_tree.Given as goal

abbrev pub invariant-loop-index : goal.invariant-loop-index
invariant-loop-index l = l.nodes.items ≡ l.fn.nodes.items ++ tree_nodes (take l.index l.names) (take l.index l.kinds)
