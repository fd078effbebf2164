use Rattle.std.proofs.Common.{◌+◌, ◌<◌, length, arith, refl, ◌∙◌}
use Rattle.components.specs.Kind.{outs}
use Rattle.components.specs.Node.{body_of}
use Rattle.loop_find.proofs.WalkSteps.{Entering}
use Rattle.loop_find.proofs.Walking.{entering_first, entering_more, entered_all, node_stands}
use Rattle.loop_find.proofs.walk.enter_followers.Goals as goal

pub loop-port-init : goal.loop-port-init
loop-port-init c = record { so_far = entering_first c.args.g.now c.is_graph.ensures c.args.way c.args.id c.args.seen.now.ids; room = refl }

pub loop-port-preserved : goal.loop-port-preserved
loop-port-preserved c =
    record {
      so_far =
          entering_more c.args.g.now c.is_graph.ensures c.args.way c.args.id c.args.seen.now.ids c.loop-port.seen.ids c.enter_follower.new.seen.ids c.loop-port.port c.loop-port.invariant.so_far
          c.in_ok-enter_follower.ensures.grows c.in_ok-enter_follower.ensures.has;
      room = c.in_ok-enter_follower.ensures.room ∙ c.loop-port.invariant.room;
    }

pub returns-in-Some-clause-has : goal.returns-in-Some-clause-has
returns-in-Some-clause-has c =
    let past : length (outs c.in-Some.node.now.kind) < c.loop-port.port = omega arith in
    entered_all c.args.g.now c.is_graph.ensures c.args.way c.args.id c.args.seen.now.ids c.loop-port.seen.ids (body_of c.in-Some.node.now) c.loop-port.port
    (node_stands c.args.g.now c.args.id c.in-Some.node.now c.in-Some.ensures) past c.loop-port.invariant.so_far

pub returns-in_ok-enter_follower-clause-grows : goal.returns-in_ok-enter_follower-clause-grows
returns-in_ok-enter_follower-clause-grows c =
    (entering_more c.args.g.now c.is_graph.ensures c.args.way c.args.id c.args.seen.now.ids c.loop-port.seen.ids c.enter_follower.new.seen.ids c.loop-port.port c.loop-port.invariant.so_far
    c.in_ok-enter_follower.ensures.grows c.in_ok-enter_follower.ensures.has).grows

pub returns-in_ok-enter_follower-clause-has : goal.returns-in_ok-enter_follower-clause-has
returns-in_ok-enter_follower-clause-has c =
    let done : Entering c.args.g.now c.args.way c.args.id c.args.seen.now.ids c.enter_follower.new.seen.ids (c.loop-port.port + 1) =
    entering_more c.args.g.now c.is_graph.ensures c.args.way c.args.id c.args.seen.now.ids c.loop-port.seen.ids c.enter_follower.new.seen.ids c.loop-port.port c.loop-port.invariant.so_far
    c.in_ok-enter_follower.ensures.grows c.in_ok-enter_follower.ensures.has in
    let past : length (outs c.in-Some.node.now.kind) < c.loop-port.port + 1 = omega arith in
    entered_all c.args.g.now c.is_graph.ensures c.args.way c.args.id c.args.seen.now.ids c.enter_follower.new.seen.ids (body_of c.in-Some.node.now) (c.loop-port.port + 1)
    (node_stands c.args.g.now c.args.id c.in-Some.node.now c.in-Some.ensures) past done
