use Rattle.digraph.proofs.EdgeLists.{TurnedBelow}
use Rattle.digraph.proofs.graph.Digraph.reversed.Given as goal

abbrev pub invariant-loop-from : goal.invariant-loop-from
invariant-loop-from l = TurnedBelow l.self l.from l.back
