use Rattle.std.proofs.Common.{◌≤◌, [], length, ap, ◌∙◌, arith}
use Rattle.loop_find.proofs.SpotsFound.{length_of_repeated}
use Rattle.loop_find.proofs.CycleEdges.{no_edge}
use Rattle.loop_find.proofs.BodyEdges.{edges_first, edges_more, edges_last}
use Rattle.loop_find.proofs.Places.{at_in}
use Rattle.loop_find.proofs.body_cycle.graph_of.Goals as goal

pub loop-place-init : goal.loop-place-init
loop-place-init c =
    edges_first c.args.g.now c.is_graph.ensures c.args.set.now.ids c.in_ok-graph.graph
    (ap length c.in_ok-graph.ensures ∙ length_of_repeated c.len.result [] ∙ c.len.ensures) (λ u w e. no_edge c.len.result c.in_ok-graph.graph c.in_ok-graph.ensures u w e)

pub add_inputs-requires-clause-live : goal.add_inputs-requires-clause-live
add_inputs-requires-clause-live c = c.requires c.at.result (at_in c.args.set.now.ids c.loop-place.place c.at.result c.at.ensures)

pub loop-place-preserved : goal.loop-place-preserved
loop-place-preserved c =
    edges_more c.args.g.now c.is_graph.ensures c.args.set.now.ids c.loop-place.graph c.add_inputs.new.graph c.loop-place.place c.at.result c.at.ensures
    (c.requires c.at.result (at_in c.args.set.now.ids c.loop-place.place c.at.result c.at.ensures)) c.loop-place.invariant c.in_ok-add_inputs.ensures

pub returns : goal.returns
returns c =
    let past : length c.args.set.now.ids ≤ c.loop-place.place = omega arith in
    edges_last c.args.g.now c.is_graph.ensures c.args.set.now.ids c.loop-place.graph c.loop-place.place past c.loop-place.invariant
