use Rattle.circuits.specs.Circuit.{circuit_of}
use Rattle.graph_core.specs.GraphValue.{name_by}
use Rattle.loop_laws.specs.Reached.{Reached}
use Rattle.loop_laws.specs.BackPath.{IsLaneBranch}
use Rattle.loop_find.proofs.Oks.{on_ok}
use Rattle.loop_find.proofs.Unions.{with_one_more}
use Rattle.loop_find.proofs.feeders.find_takers.Goals as goal

pub returns-clause-all : goal.returns-clause-all
returns-clause-all c =
    let g = c.args.g.now in
    on_ok c.insert.result
    (with_one_more g (Reached (circuit_of g.graph) (name_by g.ids c.args.mark)) (IsLaneBranch (circuit_of g.graph) (name_by g.ids c.args.mark) c.args.goes_back) c.args.reached.now.ids c.args.branches.now.ids c.unite.new.both.ids
    c.requires.reached c.requires.branches c.in_ok-unite.ensures.both c.is_graph.ensures c.args.mark c.requires.live c.insert.new.self.ids)
    c.insert.ensures.put
