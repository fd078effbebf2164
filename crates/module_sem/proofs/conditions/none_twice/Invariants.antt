use Rattle.module_sem.specs.GraphLinks.{AreOfDifferentEnds}
use Rattle.module_sem.proofs.Pairs.{FirstPairs}
use Rattle.module_sem.proofs.conditions.none_twice.Given as goal

abbrev pub invariant-loop-index : goal.invariant-loop-index
invariant-loop-index l = FirstPairs AreOfDifferentEnds l.links l.index
