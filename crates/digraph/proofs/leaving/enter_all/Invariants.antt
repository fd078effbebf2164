use Rattle.std.proofs.Common.{◌≡◌, ◌++◌, map, take}
use Rattle.digraph.specs.declared.leaving.Task.TheVariants.{Enter}
use Rattle.digraph.proofs.leaving.enter_all.Given as goal

abbrev pub invariant-loop-vertex : goal.invariant-loop-vertex
invariant-loop-vertex l = l.tasks.items ≡ l.initial.tasks.items ++ map Enter (take l.vertex-index l.vertices)
