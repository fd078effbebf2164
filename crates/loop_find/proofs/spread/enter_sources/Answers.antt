use Rattle.std.proofs.Common.{◌+◌, ◌<◌, length, arith, refl, ◌∙◌}
use Rattle.components.specs.Kind.{ins}
use Rattle.components.specs.Node.{body_of}
use Rattle.loop_find.specs.Spreading.{Brings}
use Rattle.loop_find.proofs.SpreadSteps.{SourceBelow}
use Rattle.loop_find.proofs.Spreading.{sources_first, sources_more, sources_last}
use Rattle.loop_find.proofs.Walking.{node_stands}
use Rattle.loop_find.proofs.spread.enter_sources.Goals as goal

pub loop-port-init : goal.loop-port-init
loop-port-init c =
    record {
      so_far =
          sources_first c.args.g.now c.is_graph.ensures c.args.within.now.ids c.args.id (body_of c.in-Some.node.now) (node_stands c.args.g.now c.args.id c.in-Some.node.now c.in-Some.ensures) c.args.seen.now.ids;
      room = refl;
    }

pub loop-port-preserved : goal.loop-port-preserved
loop-port-preserved c =
    record {
      so_far =
          sources_more c.args.g.now c.is_graph.ensures c.args.within.now.ids c.args.id (body_of c.in-Some.node.now) (node_stands c.args.g.now c.args.id c.in-Some.node.now c.in-Some.ensures)
          c.args.seen.now.ids c.loop-port.seen.ids c.enter_source.new.seen.ids c.loop-port.port c.loop-port.invariant.so_far c.in_ok-enter_source.ensures.brings;
      room = c.in_ok-enter_source.ensures.room ∙ c.loop-port.invariant.room;
    }

pub returns-in-Some-clause-brings : goal.returns-in-Some-clause-brings
returns-in-Some-clause-brings c =
    let past : length (ins c.in-Some.node.now.kind) < c.loop-port.port = omega arith in
    sources_last c.args.g.now c.is_graph.ensures c.args.within.now.ids c.args.id (body_of c.in-Some.node.now) (node_stands c.args.g.now c.args.id c.in-Some.node.now c.in-Some.ensures)
    c.args.seen.now.ids c.loop-port.seen.ids c.loop-port.port past c.loop-port.invariant.so_far

pub returns-in_ok-enter_source-clause-brings : goal.returns-in_ok-enter_source-clause-brings
returns-in_ok-enter_source-clause-brings c =
    let done : Brings c.args.g.now (SourceBelow c.args.g.now c.args.within.now.ids c.args.id (c.loop-port.port + 1)) c.args.seen.now.ids c.enter_source.new.seen.ids =
    sources_more c.args.g.now c.is_graph.ensures c.args.within.now.ids c.args.id (body_of c.in-Some.node.now) (node_stands c.args.g.now c.args.id c.in-Some.node.now c.in-Some.ensures)
    c.args.seen.now.ids c.loop-port.seen.ids c.enter_source.new.seen.ids c.loop-port.port c.loop-port.invariant.so_far c.in_ok-enter_source.ensures.brings in
    let past : length (ins c.in-Some.node.now.kind) < c.loop-port.port + 1 = omega arith in
    sources_last c.args.g.now c.is_graph.ensures c.args.within.now.ids c.args.id (body_of c.in-Some.node.now) (node_stands c.args.g.now c.args.id c.in-Some.node.now c.in-Some.ensures)
    c.args.seen.now.ids c.enter_source.new.seen.ids (c.loop-port.port + 1) past done
