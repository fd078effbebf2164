use Rattle.std.proofs.Common.{◌≡◌, map, take}
use Rattle.fun_expr.specs.Expr.{renumbered}
use Rattle.loop_body.proofs.binds.+renumber.Given as goal

-- the arguments so far are renumbered
abbrev pub invariant-loop-arg : goal.invariant-loop-arg
invariant-loop-arg l = l.made ≡ map (renumbered l.places) (take l.arg-index l.arg-items)
