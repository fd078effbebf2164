use Rattle.module_sem.proofs.Besides.{HasWires}
use Rattle.module_sem.proofs.beside.add_wires.Given as goal

abbrev pub invariant-loop-index : goal.invariant-loop-index
invariant-loop-index l = HasWires l.initial.h.graph l.g l.index l.h.graph
