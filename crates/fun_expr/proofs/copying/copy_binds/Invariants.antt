use Rattle.std.proofs.Common.{◌≡◌, take}
use Rattle.fun_expr.proofs.copying.copy_binds.Given as goal

-- the binds so far are copied
abbrev pub invariant-loop-bind : goal.invariant-loop-bind
invariant-loop-bind l = l.copies.items ≡ take l.bind-index l.binds
