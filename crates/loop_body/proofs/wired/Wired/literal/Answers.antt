use Rattle.std.proofs.Common.{lit≤, sym}
use Rattle.loop_body.proofs.ExprTrees.{depth-lit}
use Rattle.loop_body.proofs.wired.Wired.literal.Goals as goal

pub invariant_of-result : goal.invariant_of-result
invariant_of-result c = (sym (depth-lit c.args.width c.args.number), lit≤ tt)
