use Rattle.std.proofs.Common.{◌≡◌, ◌+◌, take, drop}
use Rattle.fun_expr.specs.Function.{widths_after}
use Rattle.fun_expr.proofs.typing.are_typed_in.Given as goal

-- the binds that are left are typed behind the widths so far as all are behind the first ones
abbrev pub invariant-loop-bind : goal.invariant-loop-bind
invariant-loop-bind l =
    (l.before ≡ l.fn.first + l.bind-index) × (widths_after (take l.before l.table) (drop l.bind-index l.binds) ≡ widths_after (take l.fn.first l.initial.table) l.binds)
