use Rattle.std.proofs.Common.{◌+◌, ◌-◌, length}
use Rattle.digraph.specs.Grouping.{Gathering, count_unmarked}
use Rattle.digraph.proofs.grouping.gather.Given as goal

abbrev pub invariant-loop-next : goal.invariant-loop-next
invariant-loop-next l = Gathering l.back l.root l.fn.grouped.items l.grouped.items l.group.items l.next

abbrev pub decreases-loop-next : goal.decreases-loop-next
decreases-loop-next l = count_unmarked l.grouped.items + length l.group.items - l.next
