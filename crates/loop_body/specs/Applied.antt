-- What an operator makes of its arguments: an expression that may stand on a wire, or one that is to be bound.
use Rattle.std.specs.Prelude.{◌≡◌, ◌≤◌}
use Rattle.fun_expr.specs.declared.expr.Expr.{Expr}
use Rattle.fun_expr.specs.Expr.{expr_depth}
use Rattle.loop_body.specs.declared.wired.Applied.{Applied}
use Rattle.loop_body.specs.declared.wired.Applied.TheVariants.{Shallow, Deep}

-- it is this expression, to be bound exactly where it has 64 levels
abbrev pub IsApplied : Expr → Applied → Type 0
IsApplied e (Shallow wired) = (wired ≡ e) × (expr_depth e ≤ 63)
IsApplied e (Deep deep) = (deep ≡ e) × (expr_depth e ≡ 64)
