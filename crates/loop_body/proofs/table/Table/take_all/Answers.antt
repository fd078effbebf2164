use Rattle.std.proofs.Common.{[], ◌++◌, map, get_or, ap, ◌∙◌}
use Rattle.std.specs.Prelude.{unwrap_or}
use Rattle.loop_body.specs.declared.body_port.BodyPort.{BodyPort}
use Rattle.loop_body.specs.Body.{flat}
use Rattle.loop_body.specs.BodyFunction.{wire_at}
use Rattle.loop_body.proofs.Taking.{taken_next, others_still, item_is}
use Rattle.loop_body.proofs.table.Table.take_all.Goals as goal

pub loop-port-preserved : goal.loop-port-preserved
loop-port-preserved c =
    let inv = c.loop-port.invariant in
    let none : BodyPort = record { node = 0; port = 0 } in
    let port = get_or c.args.ports.now c.loop-port.port-index none in
    let is = item_is c.args.ports.now c.loop-port.port-index none port c.loop-port-test.true in
    let more = c.in_ok-append.ensures ∙ ap (λ o. c.loop-port.wires.items ++ unwrap_or o []) c.take-wire.ensures.wire in
    let next = taken_next c.loop-port.self c.take-wire.new.self c.args.ports.now c.loop-port.port-index port c.loop-port.wires.items c.append.new.wires.items
    (flat (map (wire_at c.args.self.now) c.args.ports.now)) c.loop-port-test.true is c.take-wire.ensures.others more inv.0 inv.1 in (
      next.0,
      next.1,
      others_still c.args.self.now c.loop-port.self c.take-wire.new.self c.args.ports.now c.loop-port.port-index port c.loop-port-test.true is c.take-wire.ensures.others inv.2,
      c.take-wire.ensures.rows ∙ inv.3,
    )
