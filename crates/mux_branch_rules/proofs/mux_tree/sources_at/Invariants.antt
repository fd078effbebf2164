use Rattle.std.proofs.Common.{take}
use Rattle.mux_branch_rules.specs.MuxTree.{AreSources}
use Rattle.mux_branch_rules.proofs.mux_tree.sources_at.Given as goal

abbrev pub invariant-loop-index : goal.invariant-loop-index
invariant-loop-index l = AreSources l.g.graph l.names l.tree (take l.index l.names) l.sources.items
