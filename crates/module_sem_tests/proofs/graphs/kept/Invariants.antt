use Rattle.std.proofs.Common.{◌≡◌, map, take}
use Rattle.module_sem_tests.proofs.graphs.kept.Given as goal

abbrev pub invariant-loop-pair : goal.invariant-loop-pair
invariant-loop-pair l = l.kept.items ≡ map (λ pair. pair.now) (take l.pair-index l.pair-items)
