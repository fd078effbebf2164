use Rattle.digraph.specs.Leaving.{IsToEnter}
use Rattle.digraph.proofs.leaving.Walk.new.Given as goal

abbrev pub invariant-loop-vertex : goal.invariant-loop-vertex
invariant-loop-vertex l = IsToEnter l.vertex l.tasks.items
