use Rattle.std.proofs.Common.{◌≡◌, take}
use Rattle.fun_expr.proofs.typing.put_widths.Given as goal

-- the widths so far stand in front
abbrev pub invariant-loop-i : goal.invariant-loop-i
invariant-loop-i l = take l.i l.table ≡ take l.i l.widths
