use Rattle.std.proofs.Common.{sym}
use Rattle.graph_core.specs.GraphValue.{port_of}
use Rattle.loop_find.proofs.Oks.{on_ok}
use Rattle.loop_find.proofs.Walking.{source_live}
use Rattle.loop_find.proofs.Feeding.{considers_one, considers_unfed}
use Rattle.loop_find.proofs.candidates.enter_source.Goals as goal

pub consider-requires-clause-live : goal.consider-requires-clause-live
consider-requires-clause-live c = source_live c.args.g.now c.is_graph.ensures (port_of c.args.g.now c.args.target) c.in-Some.source (sym c.in-Some.ensures)

pub returns-in-Some-clause-considers : goal.returns-in-Some-clause-considers
returns-in-Some-clause-considers c =
    on_ok c.consider.result
    (considers_one c.args.g.now c.args.takers.now.ids c.args.target c.in-Some.source (sym c.in-Some.ensures)
    (source_live c.args.g.now c.is_graph.ensures (port_of c.args.g.now c.args.target) c.in-Some.source (sym c.in-Some.ensures)) c.args.seen.now.ids c.consider.new.seen.ids)
    c.consider.ensures.considered

pub returns-in-None-clause-considers : goal.returns-in-None-clause-considers
returns-in-None-clause-considers c = considers_unfed c.args.g.now c.args.takers.now.ids c.args.target (sym c.in-None.ensures) c.args.seen.now.ids
