use Rattle.std.proofs.Common.{◌≡◌, ◌≤◌, map}
use Rattle.fun_expr.specs.Each.{largest}
use Rattle.fun_expr.specs.Expr.{expr_depth}
use Rattle.loop_body.proofs.wired.apply_to.Given as goal

-- the arguments so far, and the greatest number of their levels
abbrev pub invariant-loop-arg : goal.invariant-loop-arg
invariant-loop-arg l = (l.exprs ≡ l.yielded) × (l.levels ≡ largest (map expr_depth l.yielded)) × (l.levels ≤ 63)
