use Rattle.loop_find.proofs.CycleEdges.{none_at}
use Rattle.loop_find.proofs.cycles.add_at.Goals as goal

pub returns-in-None : goal.returns-in-None
returns-in-None c = none_at c.args.g.now c.is_graph.ensures c.args.spots.now c.args.index c.args.graph.now c.in-None.ensures
