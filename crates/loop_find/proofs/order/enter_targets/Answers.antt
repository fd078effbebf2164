use Rattle.std.proofs.Common.{◌+◌, ◌<◌, length, arith}
use Rattle.components.specs.Kind.{outs}
use Rattle.components.specs.Node.{body_of}
use Rattle.loop_find.specs.BodyOrders.{Queues}
use Rattle.loop_find.proofs.OrderSteps.{IsFedFromBelow}
use Rattle.loop_find.proofs.OrderTree.{targets_first, targets_more, targets_last}
use Rattle.loop_find.proofs.Walking.{node_stands}
use Rattle.loop_find.proofs.order.enter_targets.Goals as goal

pub loop-port-init : goal.loop-port-init
loop-port-init c =
    targets_first c.args.g.now c.args.body.now.ids c.args.placed.now.ids c.is_graph.ensures c.args.id (body_of c.in-Some.node.now) (node_stands c.args.g.now c.args.id c.in-Some.node.now c.in-Some.ensures) c.args.ready.now.entries

pub loop-port-preserved : goal.loop-port-preserved
loop-port-preserved c =
    targets_more c.args.g.now c.args.body.now.ids c.args.placed.now.ids c.is_graph.ensures c.args.id (body_of c.in-Some.node.now) (node_stands c.args.g.now c.args.id c.in-Some.node.now c.in-Some.ensures)
    c.args.ready.now.entries c.loop-port.ready.entries c.enter_target.new.ready.entries c.loop-port.port c.loop-port.invariant c.in_ok-enter_target.ensures

pub returns-in-Some : goal.returns-in-Some
returns-in-Some c =
    let past : length (outs c.in-Some.node.now.kind) < c.loop-port.port = omega arith in
    targets_last c.args.g.now c.args.body.now.ids c.args.placed.now.ids c.is_graph.ensures c.args.id (body_of c.in-Some.node.now) (node_stands c.args.g.now c.args.id c.in-Some.node.now c.in-Some.ensures)
    c.args.ready.now.entries c.loop-port.ready.entries c.loop-port.port past c.loop-port.invariant

pub returns-in_ok-enter_target : goal.returns-in_ok-enter_target
returns-in_ok-enter_target c =
    let done : Queues c.args.g.now c.args.body.now.ids c.args.placed.now.ids (IsFedFromBelow c.args.g.now c.args.id (c.loop-port.port + 1)) c.args.ready.now.entries c.enter_target.new.ready.entries =
    targets_more c.args.g.now c.args.body.now.ids c.args.placed.now.ids c.is_graph.ensures c.args.id (body_of c.in-Some.node.now) (node_stands c.args.g.now c.args.id c.in-Some.node.now c.in-Some.ensures)
    c.args.ready.now.entries c.loop-port.ready.entries c.enter_target.new.ready.entries c.loop-port.port c.loop-port.invariant c.in_ok-enter_target.ensures in
    let past : length (outs c.in-Some.node.now.kind) < c.loop-port.port + 1 = omega arith in
    targets_last c.args.g.now c.args.body.now.ids c.args.placed.now.ids c.is_graph.ensures c.args.id (body_of c.in-Some.node.now) (node_stands c.args.g.now c.args.id c.in-Some.node.now c.in-Some.ensures)
    c.args.ready.now.entries c.enter_target.new.ready.entries (c.loop-port.port + 1) past done
