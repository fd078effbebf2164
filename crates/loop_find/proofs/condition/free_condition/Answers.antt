use Rattle.std.proofs.Common.{sym, ◌∙◌}
use Rattle.std.proofs.lemmas.Bool.{false≢true}
use Rattle.graph_core.specs.GraphValue.{name_by}
use Rattle.loop_find.proofs.Conditions.{is_free, is_bound}
use Rattle.loop_find.proofs.condition.free_condition.Goals as goal

pub returns-then-contains : goal.returns-then-contains
returns-then-contains c =
    is_free c.args.g.now (name_by c.args.g.now.ids c.args.mark) c.args.goes_back c.args.lanes.now c.requires.lanes c.args.feeders.now.ids c.requires.feeders c.args.root c.requires.root
    (c.contains.ensures.0 c.if-contains.true)

pub returns : goal.returns
returns c =
    is_bound c.args.g.now (name_by c.args.g.now.ids c.args.mark) c.args.goes_back c.args.lanes.now c.requires.lanes c.args.feeders.now.ids c.requires.feeders c.args.root c.requires.root
    (λ i. false≢true (sym c.if-contains.false ∙ c.contains.ensures.1 i))
