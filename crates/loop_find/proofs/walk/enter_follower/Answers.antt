use Rattle.graph_core.specs.GraphValue.{port_of}
use Rattle.loop_find.proofs.Oks.{on_both}
use Rattle.loop_find.proofs.Walking.{entered_grows, entered_has, target_live}
use Rattle.loop_find.proofs.walk.enter_follower.Goals as goal

pub enter-requires-clause-live : goal.enter-requires-clause-live
enter-requires-clause-live c = target_live c.args.g.now c.is_graph.ensures c.in-Some.target (port_of c.args.g.now c.args.source) c.in-Some.ensures

pub returns-in-Some-clause-grows : goal.returns-in-Some-clause-grows
returns-in-Some-clause-grows c =
    on_both c.enter.result (entered_grows c.args.g.now c.is_graph.ensures c.args.way c.args.source c.in-Some.target c.in-Some.ensures c.args.seen.now.ids c.enter.new.seen.ids)
    c.enter.ensures.put c.enter.ensures.left

pub returns-in-Some-clause-has : goal.returns-in-Some-clause-has
returns-in-Some-clause-has c =
    on_both c.enter.result (entered_has c.args.g.now c.is_graph.ensures c.args.way c.args.source c.in-Some.target c.in-Some.ensures c.args.seen.now.ids c.enter.new.seen.ids)
    c.enter.ensures.put c.enter.ensures.left
