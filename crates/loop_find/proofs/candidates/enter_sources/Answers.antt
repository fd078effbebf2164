use Rattle.std.proofs.Common.{◌≡◌, ◌+◌, ◌<◌, length, arith, refl, ◌∙◌}
use Rattle.components.specs.Kind.{ins}
use Rattle.components.specs.Name.{Port}
use Rattle.components.specs.Node.{body_of}
use Rattle.graph_core.specs.GraphValue.{name_by}
use Rattle.loop_find.specs.Feeding.{Considers}
use Rattle.loop_find.proofs.Feeding.{inputs_first, inputs_more, inputs_last}
use Rattle.loop_find.proofs.Walking.{node_stands}
use Rattle.loop_find.proofs.candidates.enter_sources.Goals as goal

pub loop-port-init : goal.loop-port-init
loop-port-init c =
    record {
      so_far =
          inputs_first c.args.g.now c.args.takers.now.ids c.is_graph.ensures c.args.id (body_of c.in-Some.node.now) (node_stands c.args.g.now c.args.id c.in-Some.node.now c.in-Some.ensures) c.args.seen.now.ids;
      room = refl;
    }

pub loop-port-preserved : goal.loop-port-preserved
loop-port-preserved c =
    record {
      so_far =
          inputs_more c.args.g.now c.args.takers.now.ids c.is_graph.ensures c.args.id (body_of c.in-Some.node.now) (node_stands c.args.g.now c.args.id c.in-Some.node.now c.in-Some.ensures)
          c.args.seen.now.ids c.loop-port.seen.ids c.enter_source.new.seen.ids c.loop-port.port c.loop-port.invariant.so_far c.in_ok-enter_source.ensures.considers;
      room = c.in_ok-enter_source.ensures.room ∙ c.loop-port.invariant.room;
    }

pub returns-in-Some-clause-considers : goal.returns-in-Some-clause-considers
returns-in-Some-clause-considers c =
    let past : length (ins c.in-Some.node.now.kind) < c.loop-port.port = omega arith in
    inputs_last c.args.g.now c.args.takers.now.ids c.is_graph.ensures c.args.id (body_of c.in-Some.node.now) (node_stands c.args.g.now c.args.id c.in-Some.node.now c.in-Some.ensures)
    c.args.seen.now.ids c.loop-port.seen.ids c.loop-port.port past c.loop-port.invariant.so_far

pub returns-in_ok-enter_source-clause-considers : goal.returns-in_ok-enter_source-clause-considers
returns-in_ok-enter_source-clause-considers c =
    let done : Considers c.args.g.now c.args.takers.now.ids (λ (p : Port). (p.node ≡ name_by c.args.g.now.ids c.args.id) × (p.port < c.loop-port.port + 1)) c.args.seen.now.ids c.enter_source.new.seen.ids =
    inputs_more c.args.g.now c.args.takers.now.ids c.is_graph.ensures c.args.id (body_of c.in-Some.node.now) (node_stands c.args.g.now c.args.id c.in-Some.node.now c.in-Some.ensures)
    c.args.seen.now.ids c.loop-port.seen.ids c.enter_source.new.seen.ids c.loop-port.port c.loop-port.invariant.so_far c.in_ok-enter_source.ensures.considers in
    let past : length (ins c.in-Some.node.now.kind) < c.loop-port.port + 1 = omega arith in
    inputs_last c.args.g.now c.args.takers.now.ids c.is_graph.ensures c.args.id (body_of c.in-Some.node.now) (node_stands c.args.g.now c.args.id c.in-Some.node.now c.in-Some.ensures)
    c.args.seen.now.ids c.enter_source.new.seen.ids (c.loop-port.port + 1) past done
