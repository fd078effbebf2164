use Rattle.std.proofs.Common.{sym}
use Rattle.graph_core.specs.GraphValue.{port_of}
use Rattle.loop_find.proofs.Walking.{source_live}
use Rattle.loop_find.proofs.back.source_of.Goals as goal

pub returns-clause-live : goal.returns-clause-live
returns-clause-live c = source_live c.args.g.now c.is_graph.ensures (port_of c.args.g.now c.args.target) c.in-Some.source (sym c.in-Some.ensures)
