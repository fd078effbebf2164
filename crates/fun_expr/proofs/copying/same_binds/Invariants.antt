use Rattle.std.proofs.Common.{◌≡◌, take}
use Rattle.fun_expr.proofs.copying.same_binds.Given as goal

-- the binds so far are the same
abbrev pub invariant-loop-i : goal.invariant-loop-i
invariant-loop-i l = take l.i l.binds ≡ take l.i l.others
