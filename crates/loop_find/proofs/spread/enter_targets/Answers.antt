use Rattle.std.proofs.Common.{◌+◌, ◌<◌, length, arith, refl, ◌∙◌}
use Rattle.components.specs.Kind.{outs}
use Rattle.components.specs.Node.{body_of}
use Rattle.loop_find.specs.Spreading.{Brings}
use Rattle.loop_find.proofs.SpreadSteps.{TargetBelow}
use Rattle.loop_find.proofs.Spreading.{targets_first, targets_more, targets_last}
use Rattle.loop_find.proofs.Walking.{node_stands}
use Rattle.loop_find.proofs.spread.enter_targets.Goals as goal

pub loop-port-init : goal.loop-port-init
loop-port-init c =
    record {
      so_far =
          targets_first c.args.g.now c.is_graph.ensures c.args.within.now.ids c.args.id (body_of c.in-Some.node.now) (node_stands c.args.g.now c.args.id c.in-Some.node.now c.in-Some.ensures) c.args.seen.now.ids;
      room = refl;
    }

pub loop-port-preserved : goal.loop-port-preserved
loop-port-preserved c =
    record {
      so_far =
          targets_more c.args.g.now c.is_graph.ensures c.args.within.now.ids c.args.id (body_of c.in-Some.node.now) (node_stands c.args.g.now c.args.id c.in-Some.node.now c.in-Some.ensures)
          c.args.seen.now.ids c.loop-port.seen.ids c.enter_target.new.seen.ids c.loop-port.port c.loop-port.invariant.so_far c.in_ok-enter_target.ensures.brings;
      room = c.in_ok-enter_target.ensures.room ∙ c.loop-port.invariant.room;
    }

pub returns-in-Some-clause-brings : goal.returns-in-Some-clause-brings
returns-in-Some-clause-brings c =
    let past : length (outs c.in-Some.node.now.kind) < c.loop-port.port = omega arith in
    targets_last c.args.g.now c.is_graph.ensures c.args.within.now.ids c.args.id (body_of c.in-Some.node.now) (node_stands c.args.g.now c.args.id c.in-Some.node.now c.in-Some.ensures)
    c.args.seen.now.ids c.loop-port.seen.ids c.loop-port.port past c.loop-port.invariant.so_far

pub returns-in_ok-enter_target-clause-brings : goal.returns-in_ok-enter_target-clause-brings
returns-in_ok-enter_target-clause-brings c =
    let done : Brings c.args.g.now (TargetBelow c.args.g.now c.args.within.now.ids c.args.id (c.loop-port.port + 1)) c.args.seen.now.ids c.enter_target.new.seen.ids =
    targets_more c.args.g.now c.is_graph.ensures c.args.within.now.ids c.args.id (body_of c.in-Some.node.now) (node_stands c.args.g.now c.args.id c.in-Some.node.now c.in-Some.ensures)
    c.args.seen.now.ids c.loop-port.seen.ids c.enter_target.new.seen.ids c.loop-port.port c.loop-port.invariant.so_far c.in_ok-enter_target.ensures.brings in
    let past : length (outs c.in-Some.node.now.kind) < c.loop-port.port + 1 = omega arith in
    targets_last c.args.g.now c.is_graph.ensures c.args.within.now.ids c.args.id (body_of c.in-Some.node.now) (node_stands c.args.g.now c.args.id c.in-Some.node.now c.in-Some.ensures)
    c.args.seen.now.ids c.enter_target.new.seen.ids (c.loop-port.port + 1) past done
