use Rattle.circuits.specs.Circuit.{circuit_of}
use Rattle.graph_core.specs.GraphValue.{name_by}
use Rattle.loop_laws.specs.Reached.{Reached}
use Rattle.loop_laws.specs.Feeders.{Feeder}
use Rattle.loop_find.proofs.Oks.{on_ok}
use Rattle.loop_find.proofs.Unions.{both_are}
use Rattle.loop_find.proofs.feeders.find_body.Goals as goal

pub returns-clause-all : goal.returns-clause-all
returns-clause-all c =
    let g = c.args.g.now in
    on_ok c.unite.result
    (both_are g (Reached (circuit_of g.graph) (name_by g.ids c.args.mark)) (Feeder (circuit_of g.graph) (name_by g.ids c.args.mark) c.args.goes_back) c.args.reached.now.ids c.args.feeders.now.ids c.unite.new.both.ids
    c.requires.reached c.requires.feeders)
    c.unite.ensures.both
