-- What is known of the values that nodes make.
use Rattle.op_table.specs.Laws.{ValueFits}
use Rattle.fun_expr.specs.Laws.{FunValueFits}

-- each value fits its port
pub record ValuesFit : Type 0 where
  pub operators : ValueFits
  pub functions : FunValueFits
