use Rattle.graph_read.proofs.NodeLists.{IsReadSoFar}
use Rattle.graph_read.proofs.nodes.read_nodes.Given as goal

abbrev pub invariant-loop-index : goal.invariant-loop-index
invariant-loop-index l = IsReadSoFar l.statements l.index l.g
