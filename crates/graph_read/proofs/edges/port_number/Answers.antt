use Rattle.std.proofs.Common.{◌≤◌, length, arith}
use Rattle.components.specs.Kind.{ports}
use Rattle.graph_read.proofs.PortNames.{is_port_there, other_port, no_port}
use Rattle.graph_read.proofs.edges.port_number.Goals as goal

pub returns-in_err-number : goal.returns-in_err-number
returns-in_err-number c =
    let few : length (ports c.args.kind.now c.args.side) ≤ 255 = omega (arith, c.port_count-count.ensures, c.port_count-count.type_inv) in
    rw c.from_residual.ensures (no_port c.args.side c.args.text.now (ports c.args.kind.now c.args.side) few c.in_err-number.ensures)

pub returns-then-number-count : goal.returns-then-number-count
returns-then-number-count c =
    let named = c.in_ok-number.ensures in
    let few : c.in_ok-number.number ≤ 255 = omega (arith, c.port_count-count.type_inv, c.if-number-count.true) in
    is_port_there c.args.side c.args.text.now (ports c.args.kind.now c.args.side) c.in_ok-number.number named.0 (omega (arith, c.port_count-count.ensures, c.if-number-count.true)) few named.1

pub returns-else-number-count : goal.returns-else-number-count
returns-else-number-count c =
    let named = c.in_ok-number.ensures in
    let fits = rw c.in_ok-number.was at c.read_port_name.type_inv in
    let few : c.in_ok-number.number ≤ 255 = omega (arith, fits) in
    other_port c.args.side c.args.text.now (ports c.args.kind.now c.args.side) c.in_ok-number.number (omega (arith, c.port_count-count.ensures, c.if-number-count.false)) few named.1
