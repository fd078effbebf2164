use Rattle.std.proofs.Common.{arith}
use Rattle.std.proofs.lemmas.Bool.{leb-true}
use Rattle.components.specs.Kind.{ports}
use Rattle.components.proofs.PortNumbers.{there_where_counted, none_at_zero}
use Rattle.components.proofs.port_shapes.has_port.Goals as goal

pub returns-then-port-ge1 : goal.returns-then-port-ge1
returns-then-port-ge1 c =
    there_where_counted (ports c.args.kind.now c.args.side) c.port_count.result c.args.port c.port_count.ensures c.if-port-ge1.true

pub returns-else-port-ge1 : goal.returns-else-port-ge1
returns-else-port-ge1 c =
    (λ some. absurd (omega (arith, c.if-port-ge1.false, leb-true 1 c.args.port some)), λ is_there. absurd (none_at_zero (ports c.args.kind.now c.args.side) c.args.port c.if-port-ge1.false is_there))
