use Rattle.std.proofs.Common.{◌≡◌, ℕ, ◌<◌, length, slice_get}
use Rattle.components.specs.Kind.{ports}
use Rattle.components.specs.Name.{port_get}
use Rattle.components.specs.Fields.{field_of}
use Rattle.components.proofs.port_shapes.port_widths.Given as goal

abbrev pub invariant-loop-index : goal.invariant-loop-index
invariant-loop-index l = (length l.widths.items ≡ l.index) × ((k : ℕ) → k < l.index → field_of (port_get (ports l.kind l.side) l.port) k ≡ slice_get l.widths.items k)
