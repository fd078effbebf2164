use Rattle.std.proofs.Common.{subst}
use Rattle.graph_core.specs.GraphValue.{IsGraph}
use Rattle.graph_core.proofs.Graphs.{graph_is}
use Rattle.graph_core.proofs.graph.Graph.is_graph.Goals as goal

pub returns : goal.returns
returns c = subst IsGraph c.self.view_is (graph_is c.self.inside.cells c.self.inside.names.ids c.self.invariant c.within.ensures.within c.within.ensures.room)
