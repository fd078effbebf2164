use Rattle.std.proofs.Common.{◌≡◌, drop}
use Rattle.graph_core.specs.Arena.{cut_ends}
use Rattle.graph_core.proofs.arena.cut_all.Given as goal

abbrev pub invariant-loop-end : goal.invariant-loop-end
invariant-loop-end l = cut_ends l.cells l.side (drop l.end-index l.ends) ≡ cut_ends l.initial.cells l.side l.ends
