use Rattle.loop_find.proofs.Oks.{on_ok}
use Rattle.loop_find.proofs.MarkWalks.{reached_are}
use Rattle.loop_find.proofs.tree.find_reached.Goals as goal

pub returns-clause-all : goal.returns-clause-all
returns-clause-all c = on_ok c.walk.result (reached_are c.args.g.now c.args.mark c.is_graph.ensures c.args.lanes.now.ids c.requires.lanes c.step.new.seen.ids c.in_ok-step.ensures.all c.walk.new.seen.ids) c.walk.ensures.all
