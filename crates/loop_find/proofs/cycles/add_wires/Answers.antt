use Rattle.std.proofs.Common.{◌+◌, ◌<◌, length, arith}
use Rattle.components.specs.Kind.{ins}
use Rattle.components.specs.Node.{body_of}
use Rattle.loop_find.specs.Crossings.{Adds}
use Rattle.loop_find.proofs.CycleEdges.{CrossesBelow, below_first, below_more, below_all}
use Rattle.loop_find.proofs.Walking.{node_stands}
use Rattle.loop_find.proofs.cycles.add_wires.Goals as goal

pub loop-port-init : goal.loop-port-init
loop-port-init c =
    below_first c.args.g.now c.is_graph.ensures c.args.spots.now c.args.id (body_of c.in-Some.node.now) (node_stands c.args.g.now c.args.id c.in-Some.node.now c.in-Some.ensures) c.args.graph.now

pub loop-port-preserved : goal.loop-port-preserved
loop-port-preserved c =
    below_more c.args.g.now c.is_graph.ensures c.args.spots.now c.args.id c.loop-port.port c.args.graph.now c.loop-port.graph c.add_wire.new.graph c.loop-port.invariant c.in_ok-add_wire.ensures

pub returns-in-Some : goal.returns-in-Some
returns-in-Some c =
    let past : length (ins c.in-Some.node.now.kind) < c.loop-port.port = omega arith in
    below_all c.args.g.now c.is_graph.ensures c.args.spots.now c.args.id (body_of c.in-Some.node.now) (node_stands c.args.g.now c.args.id c.in-Some.node.now c.in-Some.ensures) c.loop-port.port past
    c.args.graph.now c.loop-port.graph c.loop-port.invariant

pub returns-in_ok-add_wire : goal.returns-in_ok-add_wire
returns-in_ok-add_wire c =
    let done : Adds (CrossesBelow c.args.g.now c.args.spots.now c.args.id (c.loop-port.port + 1)) c.args.graph.now c.add_wire.new.graph =
    below_more c.args.g.now c.is_graph.ensures c.args.spots.now c.args.id c.loop-port.port c.args.graph.now c.loop-port.graph c.add_wire.new.graph c.loop-port.invariant c.in_ok-add_wire.ensures in
    let past : length (ins c.in-Some.node.now.kind) < c.loop-port.port + 1 = omega arith in
    below_all c.args.g.now c.is_graph.ensures c.args.spots.now c.args.id (body_of c.in-Some.node.now) (node_stands c.args.g.now c.args.id c.in-Some.node.now c.in-Some.ensures) (c.loop-port.port + 1) past
    c.args.graph.now c.add_wire.new.graph done
