use Rattle.std.proofs.Common.{◌≡◌, ◌+◌, drop, length}
use Rattle.std.specs.List.{concat}
use Rattle.components.proofs.kind.has_fields_within.Given as goal

abbrev pub invariant-loop-shape : goal.invariant-loop-shape
invariant-loop-shape l = length (concat l.shapes) + l.left ≡ l.most + length (concat (drop l.shape-index l.shapes))
