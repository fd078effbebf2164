use Rattle.loop_body.proofs.Steps.{node_step}
use Rattle.loop_body.proofs.function.put_node.Goals as goal

pub returns : goal.returns
returns c =
    node_step c.args.fields c.args.kind.now c.args.ports.now c.args.table.now c.take_all.new.self c.push.new.self c.args.binds.now.items c.node_row.new.binds.items c.in_ok-wires.wires.items c.in_ok-row.row
    c.in_ok-wires.ensures.wires c.in_ok-wires.ensures.others c.in_ok-wires.ensures.rows c.in_ok-row.ensures c.in_ok-push.ensures
