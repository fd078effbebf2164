use Rattle.std.proofs.Common.{◌≤◌, length}
use Rattle.digraph.specs.Grouping.{Grouping}
use Rattle.digraph.proofs.grouping.on_cycles.Given as goal

abbrev pub invariant-loop-place : goal.invariant-loop-place
invariant-loop-place l = (l.place ≤ length l.order.items) × Grouping l.graph l.order.items l.place l.groups.grouped.items l.groups.told.items

abbrev pub decreases-loop-place : goal.decreases-loop-place
decreases-loop-place l = l.place
