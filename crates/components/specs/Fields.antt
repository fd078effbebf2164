-- The fields of a port.
use Rattle.std.specs.Prelude.{ℕ, Option, Some, None, slice_get}
use Rattle.components.specs.Kind.{Shape}

-- the width of the field with this index, counted from 0, where the port is there and has such a field
abbrev pub field_of : Option Shape → ℕ → Option ℕ
field_of None index = None
field_of (Some shape) index = slice_get shape index
