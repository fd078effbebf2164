use Rattle.graph_core.specs.GraphValue.{name_by}
use Rattle.loop_find.proofs.Oks.{on_ok}
use Rattle.loop_find.proofs.Spreading.{joined_both}
use Rattle.loop_find.proofs.spread.enter_joined.Goals as goal

pub returns-clause-brings : goal.returns-clause-brings
returns-clause-brings c =
    on_ok c.enter_sources.result
    (joined_both c.args.g.now c.is_graph.ensures c.args.within.now.ids c.args.seen.now.ids c.enter_targets.new.seen.ids c.enter_sources.new.seen.ids (name_by c.args.g.now.ids c.args.id) c.in_ok-enter_targets.ensures.brings)
    c.enter_sources.ensures.brings
