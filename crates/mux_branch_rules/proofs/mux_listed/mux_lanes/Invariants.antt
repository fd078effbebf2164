use Rattle.std.proofs.Common.{◌≡◌, take}
use Rattle.mux_branch_rules.specs.MuxSides.{AreMuxes, mux_lanes}
use Rattle.mux_branch_rules.proofs.mux_listed.mux_lanes.Given as goal

abbrev pub invariant-loop-index : goal.invariant-loop-index
invariant-loop-index l = (l.lanes.items ≡ mux_lanes l.g.graph (take l.index l.muxes)) × AreMuxes l.g.graph (take l.index l.muxes)
