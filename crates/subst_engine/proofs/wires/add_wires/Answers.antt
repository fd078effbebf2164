use Rattle.std.proofs.Common.{◌+◌, arith}
use Rattle.subst_engine.proofs.WireLists.{first_wires, input_there, last_wire, next_wire}
use Rattle.subst_engine.proofs.wires.add_wires.Goals as goal

pub loop-port-init : goal.loop-port-init
loop-port-init c = first_wires c.args.g.now c.args.left.now.graph c.args.right.now c.is_graph.ensures c.args.fresh.now.nodes.items c.args.index c.args.wires.now.items c.requires.before

pub new_wire-requires-clause-there : goal.new_wire-requires-clause-there
new_wire-requires-clause-there c =
    input_there c.args.right.now c.in-Some.node c.loop-port.port c.input_count-port-end.result c.input_count-port-end.ensures c.loop-port.auto.port c.loop-port-test.true

pub loop-port-preserved : goal.loop-port-preserved
loop-port-preserved c =
    next_wire c.args.g.now c.args.left.now.graph c.args.right.now c.is_graph.ensures c.args.fresh.now.nodes.items c.args.index c.in-Some.node c.in-Some.ensures.0 c.in-Some.ensures.1
    c.requires.can c.replaced_graph_as_circuit.ensures.consumer c.loop-port.port c.new_wire.result c.loop-port.wires.items c.push.new.self.items c.loop-port.invariant c.new_wire.ensures c.in_ok-push.ensures.items

pub returns-in-Some : goal.returns-in-Some
returns-in-Some c =
    last_wire c.args.g.now c.args.left.now.graph c.args.right.now c.is_graph.ensures c.args.fresh.now.nodes.items c.args.index c.in-Some.node c.in-Some.ensures.0 c.in-Some.ensures.1
    c.loop-port.port c.input_count-port-end.result c.loop-port.wires.items c.input_count-port-end.ensures (omega arith) c.loop-port.invariant

pub returns-in_ok-push : goal.returns-in_ok-push
returns-in_ok-push c =
    last_wire c.args.g.now c.args.left.now.graph c.args.right.now c.is_graph.ensures c.args.fresh.now.nodes.items c.args.index c.in-Some.node c.in-Some.ensures.0 c.in-Some.ensures.1
    (c.loop-port.port + 1) c.input_count-port-end.result c.push.new.self.items c.input_count-port-end.ensures (omega arith)
    (next_wire c.args.g.now c.args.left.now.graph c.args.right.now c.is_graph.ensures c.args.fresh.now.nodes.items c.args.index c.in-Some.node c.in-Some.ensures.0 c.in-Some.ensures.1
    c.requires.can c.replaced_graph_as_circuit.ensures.consumer c.loop-port.port c.new_wire.result c.loop-port.wires.items c.push.new.self.items c.loop-port.invariant c.new_wire.ensures c.in_ok-push.ensures.items)
