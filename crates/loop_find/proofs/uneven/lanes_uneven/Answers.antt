use Rattle.graph_core.specs.GraphValue.{name_by}
use Rattle.loop_find.proofs.UnevenNodes.{uneven_judged}
use Rattle.loop_find.proofs.uneven.lanes_uneven.Goals as goal

pub returns-clause-node : goal.returns-clause-node
returns-clause-node c =
    uneven_judged c.args.g.now c.is_graph.ensures (name_by c.args.g.now.ids c.args.mark) c.args.goes_back c.args.inside.now.ids c.args.branches.now.ids c.requires.inside c.requires.branches
    c.step.new.seen.ids c.in_ok-step.ensures.all c.choose.new.chosen.ids c.choose-2.new.chosen.ids c.in_ok-choose.ensures.all c.in_ok-choose-2.ensures.all c.least-apart.result c.least-foreign.result
    c.earlier.result c.least-apart.ensures c.least-foreign.ensures c.earlier.ensures
