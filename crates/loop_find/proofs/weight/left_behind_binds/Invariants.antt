use Rattle.std.proofs.Common.{◌≡◌, ◌+◌, drop}
use Rattle.fun_expr.specs.Each.{total}
use Rattle.fun_expr.specs.Expr.{expr_size}
use Rattle.loop_find.proofs.weight.left_behind_binds.Given as goal

-- what is left is the size without the binds so far
abbrev pub invariant-loop-bind : goal.invariant-loop-bind
invariant-loop-bind l = l.left + total expr_size l.binds ≡ l.size + total expr_size (drop l.bind-index l.binds)
