use Rattle.loop_find.proofs.Oks.{on_ok}
use Rattle.graph_core.specs.GraphValue.{port_of}
use Rattle.loop_find.proofs.RootWalks.{rooted_are}
use Rattle.loop_find.proofs.root.find_rooted.Goals as goal

pub returns-clause-all : goal.returns-clause-all
returns-clause-all c =
    on_ok c.walk.result
    (rooted_are c.args.g.now c.is_graph.ensures c.requires.typed (port_of c.args.g.now c.args.root) c.requires.ends c.enter_behind.new.behind.ids c.in_ok-enter_behind.ensures.all c.walk.new.seen.ids) c.walk.ensures.all
