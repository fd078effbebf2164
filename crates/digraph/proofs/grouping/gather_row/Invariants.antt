use Rattle.digraph.specs.Grouping.{Gathers}
use Rattle.digraph.proofs.grouping.gather_row.Given as goal

abbrev pub invariant-loop-vertex : goal.invariant-loop-vertex
invariant-loop-vertex l = Gathers l.row l.vertex-index l.initial.grouped.items l.initial.group.items l.grouped.items l.group.items
