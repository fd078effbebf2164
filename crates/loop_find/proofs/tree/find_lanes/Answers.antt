use Rattle.loop_find.proofs.Oks.{on_ok}
use Rattle.loop_find.proofs.MarkWalks.{lanes_are}
use Rattle.loop_find.proofs.tree.find_lanes.Goals as goal

pub returns-clause-all : goal.returns-clause-all
returns-clause-all c = on_ok c.step.result (lanes_are c.args.g.now c.args.mark c.args.tree.now.ids c.requires.tree c.is_graph.ensures c.step.new.seen.ids) c.step.ensures.all
