-- What is counted while a text is read, and how far it is read.
use Rattle.std.specs.Prelude.{ℕ, ◌+◌, ◌==◌, max, Bool, true, false, not, if◌then◌else◌, List, [], ◌∷◌, Option, Some, None, Result, Ok, Err}
use Rattle.fun_expr.specs.declared.state.Spot.{Spot}
use Rattle.fun_expr.specs.declared.state.Spot.TheVariants.{Start, Expression}
use Rattle.fun_expr.specs.declared.state.State.{State}
use Rattle.fun_expr.specs.declared.scan.Extent.{Extent}
use Rattle.fun_expr.specs.Machine.{step, is_whole}

-- whether an expression begins with the byte
abbrev pub begins_expression : Spot → ℕ → Bool
begins_expression Start byte = not (byte == 45)
begins_expression Expression byte = true
begins_expression _ byte = false

-- with one expression more, within so many operators
abbrev pub with_expression : ℕ → Extent → Extent
with_expression nesting extent = record { size = extent.size + 1; depth = max extent.depth (nesting + 1) }

abbrev pub counted : State → ℕ → Extent → Extent
counted s byte extent = if begins_expression s.spot byte then with_expression s.nesting extent else extent

abbrev pub nothing_counted : Extent
nothing_counted = record { size = 0; depth = 0 }

abbrev pub go_on : ℕ → (State → Result Extent ℕ) → Option State → Result Extent ℕ
go_on at next None = Err at
go_on at next (Some s) = next s

-- what is counted of a text, or the place of the first byte that can't follow
abbrev pub scanned : State → Extent → ℕ → List ℕ → Result Extent ℕ
scanned s extent at [] = if is_whole s.spot then Ok extent else Err at
scanned s extent at (byte ∷ bytes) = go_on at (λ next. scanned next (counted s byte extent) (at + 1) bytes) (step s byte)
