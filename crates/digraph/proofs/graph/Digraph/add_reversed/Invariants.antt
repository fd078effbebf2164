use Rattle.digraph.proofs.EdgeLists.{Turned}
use Rattle.digraph.proofs.graph.Digraph.add_reversed.Given as goal

abbrev pub invariant-loop-to : goal.invariant-loop-to
invariant-loop-to l = Turned l.self l.from l.to-items l.initial.back l.to-index l.back
