-- Laws of the table of components.
use Rattle.std.specs.Prelude.{◌≤◌, length, All}
use Rattle.port_types.specs.Shape.{IsShape}
use Rattle.port_types.specs.declared.side.Side.{Side}
use Rattle.components.specs.declared.kind.Kind.{Kind}
use Rattle.components.specs.Kind.{ports, KindOk}

-- a kind that meets its row has at most 64 ports on a side, and each has a shape
abbrev pub PortsAreShapes : Type 0
PortsAreShapes = (kind : Kind) (side : Side) → KindOk kind → (length (ports kind side) ≤ 64) × All IsShape (ports kind side)
