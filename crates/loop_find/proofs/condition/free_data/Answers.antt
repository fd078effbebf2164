use Rattle.std.proofs.Common.{◌∙◌, Some, sym, ap, arith}
use Rattle.std.proofs.lemmas.Bool.{false≢true}
use Rattle.graph_core.specs.GraphValue.{name_by}
use Rattle.loop_find.proofs.Conditions.{data_fed, bound_data, free_below_more, all_free, no_first}
use Rattle.loop_find.proofs.CycleEdges.{got_or}
use Rattle.loop_find.proofs.condition.free_data.Goals as goal

pub source_of-source-requires : goal.source_of-source-requires
source_of-source-requires c =
    let x = c.lane-item.result in
    let at = got_or c.args.lanes.now c.loop-lane.lane-index x c.loop-lane-test.true ∙ ap Some (sym c.lane-item.is) in
    data_fed c.args.g.now c.requires.typed (name_by c.args.g.now.ids c.args.mark) c.args.goes_back x (c.requires.lanes.each c.loop-lane.lane-index x at)

pub returns-then-not-contains : goal.returns-then-not-contains
returns-then-not-contains c =
    let x = c.lane-item.result in
    let at = got_or c.args.lanes.now c.loop-lane.lane-index x c.loop-lane-test.true ∙ ap Some (sym c.lane-item.is) in
    bound_data c.args.g.now (name_by c.args.g.now.ids c.args.mark) c.args.goes_back c.args.lanes.now c.requires.lanes c.args.feeders.now.ids c.requires.feeders c.loop-lane.lane-index x
    c.source_of-source.result at c.source_of-source.ensures.fed c.source_of-source.ensures.live (λ i. false≢true (sym c.if-not-contains.true ∙ c.contains.ensures.1 i))

pub loop-lane-preserved : goal.loop-lane-preserved
loop-lane-preserved c =
    let x = c.lane-item.result in
    let at = got_or c.args.lanes.now c.loop-lane.lane-index x c.loop-lane-test.true ∙ ap Some (sym c.lane-item.is) in
    free_below_more c.args.g.now (name_by c.args.g.now.ids c.args.mark) c.args.goes_back c.args.lanes.now c.requires.lanes c.args.feeders.now.ids c.requires.feeders c.loop-lane.lane-index x
    c.source_of-source.result c.loop-lane.invariant at c.source_of-source.ensures.fed (c.contains.ensures.0 c.if-not-contains.false)

pub returns-in-Some : goal.returns-in-Some
returns-in-Some c =
    all_free c.args.g.now (name_by c.args.g.now.ids c.args.mark) c.args.goes_back c.args.lanes.now c.requires.lanes c.args.feeders.now.ids c.requires.feeders c.loop-lane.lane-index c.in-Some.lane.now
    c.loop-lane.invariant (omega arith) (sym c.in-Some.ensures.value)

pub returns-in-None : goal.returns-in-None
returns-in-None c n row =
    no_first c.args.g.now (name_by c.args.g.now.ids c.args.mark) c.args.goes_back c.args.lanes.now c.requires.lanes (sym c.in-None.ensures.value) n row.0
