use Rattle.std.proofs.Common.{◌≡◌, take}
use Rattle.fun_expr.proofs.copying.+copy_expr.Given as goal

-- the arguments so far are copied
abbrev pub invariant-loop-arg : goal.invariant-loop-arg
invariant-loop-arg l = l.copies ≡ take l.arg-index l.arg-items
