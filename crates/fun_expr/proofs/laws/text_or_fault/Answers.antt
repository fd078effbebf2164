use Rattle.fun_expr.proofs.Finishing.{text_or_fault}
use Rattle.fun_expr.proofs.laws.text_or_fault.Goals as goal

pub returns : goal.returns
returns c = text_or_fault
