use Rattle.std.proofs.Common.{lit≤, sym}
use Rattle.loop_body.proofs.ExprTrees.{depth-field}
use Rattle.loop_body.proofs.wired.Wired.field.Goals as goal

pub invariant_of-result : goal.invariant_of-result
invariant_of-result c = (sym (depth-field c.args.place), lit≤ tt)
