use Rattle.module_sem.proofs.Besides.{HasNodes}
use Rattle.module_sem.proofs.beside.add_nodes.Given as goal

abbrev pub invariant-loop-index : goal.invariant-loop-index
invariant-loop-index l = HasNodes l.initial.h.graph l.g l.index l.h.graph
