use Rattle.loop_find.specs.declared.choose.Test.TheVariants.{Foreign}
use Rattle.loop_find.specs.Judging.{Chosen}
use Rattle.loop_laws.specs.Faults.{InBody}
use Rattle.circuits.specs.Circuit.{circuit_of}
use Rattle.graph_core.specs.GraphValue.{name_by}
use Rattle.loop_find.proofs.MarkWalks.{live_of}
use Rattle.loop_find.proofs.RowNodes.{foreign_are, foreign_judged}
use Rattle.loop_find.proofs.rows.foreign_input.Goals as goal

pub choose-requires-clause-live : goal.choose-requires-clause-live
choose-requires-clause-live c = live_of c.args.g.now (InBody (circuit_of c.args.g.now.graph) (name_by c.args.g.now.ids c.args.mark) c.args.goes_back) c.args.body.now.ids c.requires.body

pub least-requires : goal.least-requires
least-requires c = live_of c.args.g.now (Chosen c.args.g.now Foreign c.args.inside.now.ids c.args.body.now.ids) c.choose.new.chosen.ids c.in_ok-choose.ensures.all

pub returns-clause-node : goal.returns-clause-node
returns-clause-node c =
    foreign_judged c.args.g.now c.is_graph.ensures (name_by c.args.g.now.ids c.args.mark) c.args.goes_back c.choose.new.chosen.ids
    (foreign_are c.args.g.now c.is_graph.ensures (name_by c.args.g.now.ids c.args.mark) c.args.goes_back c.args.body.now.ids c.args.inside.now.ids c.requires.body c.requires.inside c.choose.new.chosen.ids c.in_ok-choose.ensures.all)
    c.least.result c.least.ensures
