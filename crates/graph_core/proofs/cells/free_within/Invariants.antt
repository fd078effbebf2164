use Rattle.graph_core.proofs.SlotLemmas.{Walked}
use Rattle.graph_core.proofs.cells.free_within.Given as goal

abbrev pub invariant-loop-count : goal.invariant-loop-count
invariant-loop-count l = Walked l.slots l.fn.free l.count l.at
