use Rattle.std.proofs.Common.{arith, subst}
use Rattle.digraph.proofs.DepthWalk.{is_begun, all_done}
use Rattle.digraph.specs.Leaving.{IsBegun}
use Rattle.digraph.proofs.leaving.leave_order.Goals as goal

pub loop-task-init : goal.loop-task-init
loop-task-init c =
    let walk = c.in_ok-walk.walk in
    let begins = subst (λ n. IsBegun n walk.entered.items walk.tasks.items walk.left.items) c.len.ensures c.in_ok-walk.ensures in
    is_begun c.args.graph.now walk.entered.items walk.tasks.items walk.left.items begins

pub returns : goal.returns
returns c = all_done c.args.graph.now c.loop-task.walk.entered.items c.loop-task.walk.tasks.items c.loop-task.walk.left.items (omega (arith, c.in_default.ensures.cases.0)) c.loop-task.invariant
