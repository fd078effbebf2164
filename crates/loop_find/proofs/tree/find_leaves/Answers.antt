use Rattle.loop_find.proofs.Oks.{on_ok}
use Rattle.loop_find.proofs.MarkWalks.{leaves_are}
use Rattle.loop_find.proofs.tree.find_leaves.Goals as goal

pub returns-clause-all : goal.returns-clause-all
returns-clause-all c = λ goes_back. on_ok c.step.result (leaves_are c.args.g.now c.args.mark c.args.tree.now.ids c.requires.tree c.is_graph.ensures goes_back c.step.new.seen.ids) c.step.ensures.all
