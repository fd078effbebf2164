use Rattle.std.proofs.Common.{Contains}
use Rattle.std.specs.List.{AllWithin}
use Rattle.components.proofs.same.are_among.Given as goal

abbrev pub invariant-loop-pair : goal.invariant-loop-pair
invariant-loop-pair l = AllWithin (Contains l.list) l.kept 0 l.pair-index
