use Rattle.std.proofs.Common.{◌≤◌, ◌∙◌, Some, length, sym, ap, refl, arith}
use Rattle.std.proofs.lemmas.Bool.{false≢true}
use Rattle.graph_core.specs.GraphValue.{name_by}
use Rattle.loop_find.proofs.Conditions.{branch_fed, mark_fed, rooted_more, odd_condition, odd_mark, even_conditions}
use Rattle.loop_find.proofs.CycleEdges.{got_or}
use Rattle.loop_find.proofs.Walking.{named}
use Rattle.loop_find.proofs.condition.condition_root.Goals as goal

pub has_root-requires-clause-fed : goal.has_root-requires-clause-fed
has_root-requires-clause-fed c =
    let x = c.lane-item.result in
    let at = got_or c.args.lanes.now c.loop-lane.lane-index x c.loop-lane-test.true ∙ ap Some (sym c.lane-item.is) in
    branch_fed c.args.g.now c.requires.typed (name_by c.args.g.now.ids c.args.mark) c.args.goes_back x (c.requires.lanes.each c.loop-lane.lane-index x at)

pub returns-then-not-has_root : goal.returns-then-not-has_root
returns-then-not-has_root c =
    let x = c.lane-item.result in
    let at = got_or c.args.lanes.now c.loop-lane.lane-index x c.loop-lane-test.true ∙ ap Some (sym c.lane-item.is) in
    odd_condition c.args.g.now (name_by c.args.g.now.ids c.args.mark) c.args.goes_back c.args.lanes.now c.requires.lanes c.args.root c.requires.root c.loop-lane.lane-index x c.loop-lane.invariant at
    (λ root. false≢true (sym c.if-not-has_root.true ∙ c.has_root.ensures.1 root))

pub loop-lane-preserved : goal.loop-lane-preserved
loop-lane-preserved c =
    let x = c.lane-item.result in
    let at = got_or c.args.lanes.now c.loop-lane.lane-index x c.loop-lane-test.true ∙ ap Some (sym c.lane-item.is) in
    rooted_more c.args.g.now (name_by c.args.g.now.ids c.args.mark) c.args.goes_back c.args.lanes.now c.requires.lanes c.args.root c.requires.root c.loop-lane.lane-index x c.loop-lane.invariant at
    (c.has_root.ensures.0 c.if-not-has_root.false)

pub has_root-requires-2-clause-fed : goal.has_root-requires-2-clause-fed
has_root-requires-2-clause-fed c = mark_fed c.args.g.now c.requires.typed c.args.mark c.requires.mark

pub returns-then-has_root : goal.returns-then-has_root
returns-then-has_root c =
    let all : length c.args.lanes.now ≤ c.loop-lane.lane-index = omega arith in
    even_conditions c.args.g.now (name_by c.args.g.now.ids c.args.mark) c.args.goes_back c.args.lanes.now c.requires.lanes c.args.root c.requires.root c.loop-lane.lane-index c.loop-lane.invariant all
    (c.has_root-2.ensures.0 c.if-has_root.true)

pub returns : goal.returns
returns c =
    let all : length c.args.lanes.now ≤ c.loop-lane.lane-index = omega arith in
    odd_mark c.args.g.now (name_by c.args.g.now.ids c.args.mark) c.args.goes_back c.args.lanes.now c.requires.lanes c.args.root c.requires.root c.loop-lane.lane-index c.loop-lane.invariant all
    c.args.mark (named c.args.g.now c.is_graph.ensures c.args.mark (name_by c.args.g.now.ids c.args.mark) _ c.requires.mark.2 refl) refl
    (λ root. false≢true (sym c.if-has_root.false ∙ c.has_root-2.ensures.1 root))
