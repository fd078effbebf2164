use Rattle.std.proofs.Common.{◌-◌, length}
use Rattle.loop_find.proofs.NameTree.{InTree}
use Rattle.loop_find.proofs.by_name.by_name.Given as goal

abbrev pub invariant-loop-next : goal.invariant-loop-next
invariant-loop-next l = InTree l.g l.set.ids l.names.entries l.next

abbrev pub decreases-loop-next : goal.decreases-loop-next
decreases-loop-next l = length l.set.ids - l.next
