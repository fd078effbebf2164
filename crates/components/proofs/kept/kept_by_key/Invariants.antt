use Rattle.components.proofs.KeptPairs.{ArePairs, so_far}
use Rattle.components.proofs.kept.kept_by_key.Given as goal

abbrev pub invariant-loop-pair : goal.invariant-loop-pair
invariant-loop-pair l = ArePairs l.kept.entries (so_far l.kind l.pairs l.pair-index)
