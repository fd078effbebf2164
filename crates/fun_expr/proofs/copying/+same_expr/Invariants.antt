use Rattle.std.proofs.Common.{◌≡◌, take}
use Rattle.fun_expr.proofs.copying.+same_expr.Given as goal

-- the arguments so far are the same
abbrev pub invariant-loop-i : goal.invariant-loop-i
invariant-loop-i l = take l.i l.args ≡ take l.i l.others
