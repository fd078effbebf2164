-- Expressions with the numbers that the code can hold.
use Rattle.std.proofs.Common.{◌≡◌, ℕ, List, map}
use Rattle.op_table.specs.declared.op.Op.{Op}
use Rattle.port_types.specs.Numeral.{in_word}
use Rattle.fun_expr.specs.declared.expr.Expr.{Expr}
use Rattle.fun_expr.specs.declared.expr.Expr.TheVariants.{Field, Lit, Apply}
use Rattle.fun_expr.specs.declared.expr.Expr.TheOpen.{Expr-F}
use Rattle.fun_expr.specs.declared.expr.Expr.TheFolds.{fold-Expr}
use Rattle.fun_expr.specs.Machine.{held_width}
use Rattle.fun_expr.specs.Building.{held_place, literal}
use Rattle.fun_expr.proofs.Trees.{at_field, at_lit, at_apply}

abbrev pub held_step : Expr-F Expr → Expr
held_step (Expr-F.Field place) = Field (held_place (in_word place))
held_step (Expr-F.Lit width number) = literal (held_width (in_word width)) (in_word number)
held_step (Expr-F.Apply op width args) = Apply op (held_width (in_word width)) args

unfoldable pub held : Expr → Expr
held = fold-Expr Expr held_step

pub held-field : (place : ℕ) → held (Field place) ≡ Field (held_place (in_word place))
unfolding held
held-field place = at_field held_step place

pub held-lit : (width number : ℕ) → held (Lit width number) ≡ literal (held_width (in_word width)) (in_word number)
unfolding held
held-lit width number = at_lit held_step width number

pub held-apply : (op : Op) (width : ℕ) (args : List Expr) → held (Apply op width args) ≡ Apply op (held_width (in_word width)) (map held args)
unfolding held
held-apply op width args = at_apply held_step op width args
