use Rattle.std.proofs.Common.{sym, true≢false}
use Rattle.components.proofs.PortShapes.{port_is_shape}
use Rattle.components.proofs.port_shapes.port_shape.Goals as goal

pub unreachable-requires : goal.unreachable-requires
unreachable-requires c =
    let ok = port_is_shape c.args.kind.now c.requires.ok c.args.side c.args.port c.in_ok-port_widths.field-0.items c.in_ok-port_widths.ensures in
    true≢false (sym ((c.in-None.ensures).shape.1 ok))
