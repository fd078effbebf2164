use Rattle.std.proofs.Common.{◌+◌, ◌<◌, length, arith}
use Rattle.components.specs.Kind.{ins}
use Rattle.components.specs.Node.{body_of}
use Rattle.loop_find.specs.Crossings.{Adds}
use Rattle.loop_find.proofs.BodyEdges.{InputsBelow, inputs_first, inputs_more, inputs_last}
use Rattle.loop_find.proofs.Walking.{node_stands}
use Rattle.loop_find.proofs.body_cycle.add_inputs.Goals as goal

pub loop-port-init : goal.loop-port-init
loop-port-init c =
    inputs_first c.args.g.now c.is_graph.ensures c.args.set.now.ids c.args.id c.args.place (body_of c.in-Some.node.now) (node_stands c.args.g.now c.args.id c.in-Some.node.now c.in-Some.ensures) c.args.graph.now

pub loop-port-preserved : goal.loop-port-preserved
loop-port-preserved c =
    inputs_more c.args.g.now c.is_graph.ensures c.args.set.now.ids c.args.id c.args.place (body_of c.in-Some.node.now) (node_stands c.args.g.now c.args.id c.in-Some.node.now c.in-Some.ensures)
    c.args.graph.now c.loop-port.graph c.add_input.new.graph c.loop-port.port c.loop-port.invariant c.in_ok-add_input.ensures

pub returns-in-Some : goal.returns-in-Some
returns-in-Some c =
    let past : length (ins c.in-Some.node.now.kind) < c.loop-port.port = omega arith in
    inputs_last c.args.g.now c.is_graph.ensures c.args.set.now.ids c.args.id c.args.place (body_of c.in-Some.node.now) (node_stands c.args.g.now c.args.id c.in-Some.node.now c.in-Some.ensures)
    c.args.graph.now c.loop-port.graph c.loop-port.port past c.loop-port.invariant

pub returns-in_ok-add_input : goal.returns-in_ok-add_input
returns-in_ok-add_input c =
    let done : Adds (InputsBelow c.args.g.now c.args.set.now.ids c.args.id c.args.place (c.loop-port.port + 1)) c.args.graph.now c.add_input.new.graph =
    inputs_more c.args.g.now c.is_graph.ensures c.args.set.now.ids c.args.id c.args.place (body_of c.in-Some.node.now) (node_stands c.args.g.now c.args.id c.in-Some.node.now c.in-Some.ensures)
    c.args.graph.now c.loop-port.graph c.add_input.new.graph c.loop-port.port c.loop-port.invariant c.in_ok-add_input.ensures in
    let past : length (ins c.in-Some.node.now.kind) < c.loop-port.port + 1 = omega arith in
    inputs_last c.args.g.now c.is_graph.ensures c.args.set.now.ids c.args.id c.args.place (body_of c.in-Some.node.now) (node_stands c.args.g.now c.args.id c.in-Some.node.now c.in-Some.ensures)
    c.args.graph.now c.add_input.new.graph (c.loop-port.port + 1) past done
