use Rattle.std.proofs.Common.{◌≡◌, ◌+◌, ◌↔◌, drop}
use Rattle.fun_expr.specs.FunReading.{PlacesThere}
use Rattle.fun_expr.proofs.bounds.are_places_there.Given as goal

-- the places of the binds that are left are there just where all are
abbrev pub invariant-loop-bind : goal.invariant-loop-bind
invariant-loop-bind l = (l.there ≡ l.fields + l.bind-index) × (PlacesThere l.there (drop l.bind-index l.binds) l.outs ↔ PlacesThere l.fields l.binds l.outs)
