use Rattle.circuits.specs.Circuit.{circuit_of}
use Rattle.graph_core.specs.GraphValue.{name_by}
use Rattle.loop_laws.specs.Reached.{IsLane}
use Rattle.loop_laws.specs.Faults.{InBody}
use Rattle.loop_find.proofs.Oks.{on_ok}
use Rattle.loop_find.proofs.Unions.{both_are}
use Rattle.loop_find.proofs.feeders.find_inside.Goals as goal

pub returns-clause-all : goal.returns-clause-all
returns-clause-all c =
    let g = c.args.g.now in
    on_ok c.unite.result
    (both_are g (IsLane (circuit_of g.graph) (name_by g.ids c.args.mark)) (InBody (circuit_of g.graph) (name_by g.ids c.args.mark) c.args.goes_back) c.args.lanes.now.ids c.args.body.now.ids c.unite.new.both.ids
    c.requires.lanes c.requires.body)
    c.unite.ensures.both
