use Rattle.fun_expr.proofs.OpNames.{same_search}
use Rattle.fun_expr.proofs.step.op_named.Goals as goal

pub returns : goal.returns
returns c = same_search c.args.word.now c.op_of_short.result c.op_of_short.ensures.named
