use Rattle.std.proofs.Common.{◌≡◌, map, replicate}
use Rattle.fun_expr.specs.declared.expr.Expr.TheVariants.{Field}
use Rattle.loop_body.proofs.binds.copies.Given as goal

abbrev pub invariant-loop-copy : goal.invariant-loop-copy
invariant-loop-copy l = l.row ≡ replicate l._copy (map Field l.places)
