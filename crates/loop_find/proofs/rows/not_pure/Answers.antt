use Rattle.loop_find.specs.declared.choose.Test.TheVariants.{Impure}
use Rattle.loop_find.specs.Judging.{Chosen}
use Rattle.loop_laws.specs.Reached.{Reached}
use Rattle.circuits.specs.Circuit.{circuit_of}
use Rattle.graph_core.specs.GraphValue.{name_by}
use Rattle.loop_find.proofs.MarkWalks.{live_of}
use Rattle.loop_find.proofs.RowNodes.{impure_are, impure_judged}
use Rattle.loop_find.proofs.rows.not_pure.Goals as goal

pub choose-requires-clause-live : goal.choose-requires-clause-live
choose-requires-clause-live c = live_of c.args.g.now (Reached (circuit_of c.args.g.now.graph) (name_by c.args.g.now.ids c.args.mark)) c.args.reached.now.ids c.requires.reached

pub least-requires : goal.least-requires
least-requires c = live_of c.args.g.now (Chosen c.args.g.now Impure c.args.reached.now.ids c.args.reached.now.ids) c.choose.new.chosen.ids c.in_ok-choose.ensures.all

pub returns-clause-node : goal.returns-clause-node
returns-clause-node c =
    λ goes_back. impure_judged c.args.g.now c.is_graph.ensures (name_by c.args.g.now.ids c.args.mark) goes_back c.choose.new.chosen.ids
    (impure_are c.args.g.now c.is_graph.ensures (name_by c.args.g.now.ids c.args.mark) goes_back c.args.reached.now.ids c.args.reached.now.ids c.choose.new.chosen.ids c.requires.reached c.in_ok-choose.ensures.all)
    c.least.result c.least.ensures
