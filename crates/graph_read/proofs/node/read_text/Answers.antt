use Rattle.std.proofs.Common.{map}
use Rattle.std.proofs.lemmas.List.Elements.{All-map, All-same}
use Rattle.port_types.specs.Shape.{IsShape}
use Rattle.port_types.specs.declared.port.Port.{Port}
use Rattle.graph_read.proofs.node.read_text.Goals as goal

pub returns-in_ok-shapes_of-in-Ok-clause-shapes : goal.returns-in_ok-shapes_of-in-Ok-clause-shapes
returns-in_ok-shapes_of-in-Ok-clause-shapes c =
    let read = (c.reads_ports.ensures c.args.side c.args.text.now c.in-Ok.ports).0 c.in-Ok.ensures.reading in
    All-same IsShape c.in_ok-shapes_of-in-Ok.field-0 (map (λ port. port.shape) c.in-Ok.ports) c.in_ok-shapes_of-in-Ok.ensures
    (All-map IsShape (λ (port : Port). port.shape) c.in-Ok.ports read.1.shapes)
