-- Binding expressions one by one.
use Rattle.std.specs.Prelude.{◌≡◌, ℕ, List, ◌++◌}
use Rattle.fun_expr.specs.declared.expr.Expr.{Expr}
use Rattle.fun_expr.specs.Expr.{place_of}
use Rattle.loop_body.specs.BodyFunction.{Places, place_then, bound_unless, next_place, settled}

-- the expression stands at the place, where the binds were these and are those
abbrev pub IsBound : ℕ → Expr → List Expr → ℕ → List Expr → Type 0
IsBound fields e before place after =
    (rest : List Expr → Places) → bound_unless (place_of e) (next_place fields before) e rest before ≡ place_then place (rest after)

-- these places in front
abbrev pub behind : List ℕ → Places → Places
behind places rest = record { binds = rest.binds; places = places ++ rest.places }

-- so far these expressions stand at these places; what follows is settled behind them
abbrev pub IsSettled : ℕ → List Expr → List Expr → List ℕ → List Expr → Type 0
IsSettled fields before es places after = (more : List Expr) → settled fields (es ++ more) before ≡ behind places (settled fields more after)
