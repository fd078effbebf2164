use Rattle.std.proofs.Common.{◌≤◌, length, rules}
use Rattle.std.specs.Prelude.{All}
use Rattle.port_types.specs.Shape.{IsShape}
use Rattle.components.proofs.PortShapes.{joined_shape}
use Rattle.components.proofs.kind.are_parts.Goals as goal
use Rattle.components.proofs.kind.are_parts.Goals.{then-not-is_empty, else-not-is_empty, then-shapes, else-shapes}

pub returns-then-are_shapes : goal.returns-then-are_shapes
returns-then-are_shapes c =
    let some : 1 ≤ length c.args.shapes.now = elim c.if-shapes.branch [ then-shapes w ↦ search rules | else-shapes w ↦ search rules ] in
    let few : length c.args.shapes.now ≤ 64 = elim c.if-shapes.branch [ then-shapes w ↦ search rules | else-shapes w ↦ search rules ] in
    let all : All IsShape c.args.shapes.now = elim c.if-shapes.branch [ then-shapes w ↦ search rules | else-shapes w ↦ search rules ] in (
      λ yes. record { count = (some, few); parts = all; whole = joined_shape c.args.shapes.now some all (c.has_fields_within.ensures.0 yes) },
      λ parts. c.has_fields_within.ensures.1 parts.whole.few,
    )
