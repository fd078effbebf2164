use Rattle.digraph.specs.Leaving.{Walking, to_do}
use Rattle.digraph.proofs.leaving.leave_order.Given as goal

abbrev pub invariant-loop-task : goal.invariant-loop-task
invariant-loop-task l = Walking l.graph l.walk.entered.items l.walk.tasks.items l.walk.left.items

abbrev pub decreases-loop-task : goal.decreases-loop-task
decreases-loop-task l = to_do l.graph l.walk.entered.items l.walk.tasks.items
