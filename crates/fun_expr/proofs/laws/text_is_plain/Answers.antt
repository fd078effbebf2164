use Rattle.fun_expr.proofs.PlainTexts.{text_is_plain}
use Rattle.fun_expr.proofs.laws.text_is_plain.Goals as goal

pub returns : goal.returns
returns c = text_is_plain
