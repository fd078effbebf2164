use Rattle.std.proofs.Common.{◌≡◌, ◌+◌, drop}
use Rattle.fun_expr.specs.Each.{total}
use Rattle.fun_expr.specs.Expr.{expr_size}
use Rattle.loop_find.proofs.weight.+left_behind_expr.Given as goal

-- what is left is the size without the node itself and the arguments so far
abbrev pub invariant-loop-arg : goal.invariant-loop-arg
invariant-loop-arg l = l.left + total expr_size l.arg-items + 1 ≡ l.size + total expr_size (drop l.arg-index l.arg-items)
