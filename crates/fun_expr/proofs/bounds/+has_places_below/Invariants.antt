use Rattle.std.proofs.Common.{◌≤◌, map, drop}
use Rattle.fun_expr.specs.Each.{largest}
use Rattle.fun_expr.specs.FunReading.{places_bound}
use Rattle.fun_expr.proofs.bounds.+has_places_below.Given as goal

-- if the places of the arguments that are left are below, all are
abbrev pub invariant-loop-arg : goal.invariant-loop-arg
invariant-loop-arg l = largest (map places_bound (drop l.arg-index l.arg-items)) ≤ l.fields → largest (map places_bound l.arg-items) ≤ l.fields
