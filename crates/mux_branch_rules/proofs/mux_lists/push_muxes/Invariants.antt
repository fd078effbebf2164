use Rattle.std.proofs.Common.{◌≡◌, ◌++◌, take}
use Rattle.mux_branch_rules.specs.MuxSides.{mux_nodes}
use Rattle.mux_branch_rules.proofs.mux_lists.push_muxes.Given as goal

abbrev pub invariant-loop-index : goal.invariant-loop-index
invariant-loop-index l = l.nodes.items ≡ l.fn.nodes.items ++ mux_nodes (take l.index l.muxes) (take l.index l.lanes)
