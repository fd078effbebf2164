use Rattle.std.proofs.Common.{◌≡◌, ◌++◌, take}
use Rattle.mux_branch_rules.specs.MuxSides.{source_wires}
use Rattle.mux_branch_rules.proofs.mux_lists.push_sources.Given as goal

abbrev pub invariant-loop-index : goal.invariant-loop-index
invariant-loop-index l = l.wires.items ≡ l.fn.wires.items ++ source_wires l.place (take l.index l.sources)
