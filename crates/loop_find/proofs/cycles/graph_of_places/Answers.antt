use Rattle.std.proofs.Common.{[], length, ap, ◌∙◌, arith}
use Rattle.loop_find.proofs.SpotsFound.{length_of_repeated}
use Rattle.loop_find.proofs.CycleEdges.{crossed_none, crossed_more, crossed_all, no_edge}
use Rattle.loop_find.proofs.cycles.graph_of_places.Goals as goal

pub loop-index-init : goal.loop-index-init
loop-index-init c =
    crossed_none c.args.g.now c.is_graph.ensures c.args.spots.now c.in_ok-graph.graph
    (ap length c.in_ok-graph.ensures ∙ length_of_repeated c.slots.result [] ∙ c.slots.ensures) (λ u w e. no_edge c.slots.result c.in_ok-graph.graph c.in_ok-graph.ensures u w e)

pub loop-index-preserved : goal.loop-index-preserved
loop-index-preserved c = crossed_more c.args.g.now c.is_graph.ensures c.args.spots.now c.loop-index.index c.loop-index.graph c.add_at.new.graph c.loop-index.invariant c.in_ok-add_at.ensures

pub returns : goal.returns
returns c = crossed_all c.args.g.now c.is_graph.ensures c.args.spots.now c.loop-index.index c.loop-index.graph c.loop-index.invariant (omega (arith, c.loop-index-test.false, c.slots-index-end.ensures))
