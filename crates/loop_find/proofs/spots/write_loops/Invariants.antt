use Rattle.std.proofs.Common.{◌≡◌, drop}
use Rattle.loop_find.specs.Spots.{all_writes, written}
use Rattle.loop_find.proofs.spots.write_loops.Given as goal

abbrev pub invariant-loop-shape : goal.invariant-loop-shape
invariant-loop-shape l = written (all_writes (drop l.shape-index l.loops)) l.spots.items ≡ written (all_writes l.loops) l.initial.spots.items
