-- What is built while a text is read. Numbers that the code can't hold become ones that no function has.
use Rattle.std.specs.Prelude.{ℕ, ◌-◌, ◌^◌, ◌==◌, if◌then◌else◌, List, [], ◌∷◌, ◌++◌, reverse, Option, Some, None, unwrap_or}
use Rattle.std.specs.Char.{is_ascii_digit}
use Rattle.op_table.specs.declared.op.Op.{Op}
use Rattle.fun_expr.specs.declared.expr.Expr.{Expr}
use Rattle.fun_expr.specs.declared.expr.Expr.TheVariants.{Field, Lit, Apply}
use Rattle.fun_expr.specs.declared.state.Number.{Number}
use Rattle.fun_expr.specs.declared.state.Number.TheVariants.{Place, LiteralWidth, Literal, OperatorWidth, Out}
use Rattle.fun_expr.specs.declared.state.Spot.{Spot}
use Rattle.fun_expr.specs.declared.state.Spot.TheVariants.{Digits, Closed}
use Rattle.fun_expr.specs.declared.state.State.{State}
use Rattle.fun_expr.specs.declared.builder.Frame.{Frame}
use Rattle.fun_expr.specs.declared.builder.Builder.{Builder}
use Rattle.fun_expr.specs.Machine.{held_width, step}

-- the operators that are open, the innermost first; the binds; the outs
pub record Parts : Type 0 where
  pub frames : List Frame
  pub binds : List Expr
  pub outs : List ℕ

abbrev pub parts_of : Builder → Parts
parts_of b = record { frames = reverse b.frames.items; binds = b.binds.items; outs = b.outs.items }

abbrev pub no_parts : Parts
no_parts = record { frames = []; binds = []; outs = [] }

-- a place that the code can hold
abbrev pub held_place : Option ℕ → ℕ
held_place value = unwrap_or value (2 ^ 64 - 1)

-- a literal that the code can hold
abbrev pub literal : ℕ → Option ℕ → Expr
literal width None = Lit 255 0
literal width (Some number) = Lit width number

-- an expression becomes an argument of the innermost operator, or else a bind
abbrev pub added : Expr → List Frame → List Expr → List ℕ → Parts
added e [] binds outs = record { frames = []; binds = binds ++ e ∷ []; outs = outs }
added e (frame ∷ frames) binds outs =
    record { frames = record { op = frame.op; width = frame.width; args = frame.args ++ e ∷ [] } ∷ frames; binds = binds; outs = outs }

abbrev pub add : Expr → Parts → Parts
add e p = added e p.frames p.binds p.outs

-- the innermost operator has all its arguments
abbrev pub closed : List Frame → List Expr → List ℕ → Parts
closed [] binds outs = record { frames = []; binds = binds; outs = outs }
closed (frame ∷ frames) binds outs = added (Apply frame.op frame.width frame.args) frames binds outs

-- behind an expression
abbrev pub closing : ℕ → Parts → Parts
closing byte p = if byte == 41 then closed p.frames p.binds p.outs else p

-- an operator is opened
abbrev pub opened : Op → ℕ → Parts → Parts
opened op width p = record { frames = record { op = op; width = width; args = [] } ∷ p.frames; binds = p.binds; outs = p.outs }

-- behind a numeral
abbrev pub number_built : Number → Option ℕ → ℕ → Parts → Parts
number_built Place value byte p = closing byte (add (Field (held_place value)) p)
number_built LiteralWidth value byte p = p
number_built (Literal width) value byte p = closing byte (add (literal width value) p)
number_built (OperatorWidth op) value byte p = opened op (held_width value) p
number_built Out value byte p = record { frames = p.frames; binds = p.binds; outs = p.outs ++ held_place value ∷ [] }

-- what a byte builds
abbrev pub byte_built : Spot → ℕ → Parts → Parts
byte_built (Digits number value) byte p = if is_ascii_digit byte then p else number_built number value byte p
byte_built Closed byte p = closing byte p
byte_built _ byte p = p

-- what the end of a text builds
abbrev pub end_built : Spot → Parts → Parts
end_built (Digits number value) p = number_built number value 0 p
end_built _ p = p

abbrev pub build_on : Parts → (State → Parts) → Option State → Parts
build_on p next None = p
build_on p next (Some s) = next s

-- what is built of a text
abbrev pub built : State → Parts → List ℕ → Parts
built s p [] = end_built s.spot p
built s p (byte ∷ bytes) = build_on p (λ next. built next (byte_built s.spot byte p) bytes) (step s byte)
