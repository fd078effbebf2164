-- The shapes of Exits and of Entries.
use Rattle.std.specs.Prelude.{Option, Some, None}
use Rattle.components.specs.declared.kind.Kind.{Kind}
use Rattle.components.specs.declared.kind.Kind.TheVariants.{Entry, Exit}
use Rattle.components.specs.Kind.{Shape}

-- the shape of a node that is an Exit
abbrev pub exit_shape : Option Kind → Option Shape
exit_shape (Some (Exit shape)) = Some shape
exit_shape _ = None

-- the shape of a node that is an Entry
abbrev pub entry_shape : Option Kind → Option Shape
entry_shape (Some (Entry shape)) = Some shape
entry_shape _ = None
