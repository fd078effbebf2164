use Rattle.graph_core.specs.GraphValue.{name_by}
use Rattle.loop_find.proofs.Oks.{on_ok}
use Rattle.loop_find.proofs.Feeding.{laid_live}
use Rattle.loop_find.proofs.FeedersFound.{feeders_are}
use Rattle.loop_find.proofs.feeders.find_feeders.Goals as goal

pub choose-requires-clause-live : goal.choose-requires-clause-live
choose-requires-clause-live c = laid_live c.args.g.now c.args.takers.now.ids c.find_candidates.new.seen.ids c.in_ok-find_candidates.ensures.all.laid

pub choose-requires-2-clause-live : goal.choose-requires-2-clause-live
choose-requires-2-clause-live c = laid_live c.args.g.now c.args.takers.now.ids c.find_candidates.new.seen.ids c.in_ok-find_candidates.ensures.all.laid

pub returns-clause-all : goal.returns-clause-all
returns-clause-all c =
    on_ok c.choose-2.result
    (feeders_are c.args.g.now c.is_graph.ensures c.requires.typed (name_by c.args.g.now.ids c.args.mark) c.requires.mark c.args.goes_back c.args.takers.now.ids c.requires.takers
    c.find_candidates.new.seen.ids c.in_ok-find_candidates.ensures.all c.choose.new.chosen.ids c.in_ok-choose.ensures.all c.spread.new.seen.ids c.in_ok-spread.ensures.all c.choose-2.new.chosen.ids)
    c.choose-2.ensures.all
