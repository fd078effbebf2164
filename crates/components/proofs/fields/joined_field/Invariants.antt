use Rattle.std.proofs.Common.{◌≡◌, drop, slice_get}
use Rattle.std.specs.List.{concat}
use Rattle.components.proofs.fields.joined_field.Given as goal

abbrev pub invariant-loop-shape : goal.invariant-loop-shape
invariant-loop-shape l = slice_get (concat l.shapes) l.index ≡ slice_get (concat (drop l.shape-index l.shapes)) l.left
