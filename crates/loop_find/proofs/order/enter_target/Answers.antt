use Rattle.graph_core.specs.GraphValue.{port_of}
use Rattle.loop_find.proofs.Oks.{on_ok}
use Rattle.loop_find.proofs.OrderTree.{queues_target}
use Rattle.loop_find.proofs.Walking.{target_live}
use Rattle.loop_find.proofs.order.enter_target.Goals as goal

pub enter-requires : goal.enter-requires
enter-requires c = target_live c.args.g.now c.is_graph.ensures c.in-Some.target (port_of c.args.g.now c.args.source) c.in-Some.ensures

pub returns-in-Some : goal.returns-in-Some
returns-in-Some c =
    on_ok c.enter.result
    (queues_target c.args.g.now c.args.body.now.ids c.args.placed.now.ids c.is_graph.ensures c.args.source c.in-Some.target c.in-Some.ensures c.args.ready.now.entries c.enter.new.ready.entries)
    c.enter.ensures
