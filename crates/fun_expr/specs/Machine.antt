-- A reader of texts, byte by byte: where a byte leads, and which states end a text.
use Rattle.std.specs.Prelude.{ℕ, zero, suc, ◌+◌, ◌-◌, ◌*◌, ◌==◌, Bool, true, false, if◌then◌else◌, nat_lt, List, [], ◌∷◌, length, take, Option, Some, None, find, bytes_eq}
use Rattle.std.specs.Char.{is_ascii_digit}
use Rattle.op_table.specs.declared.op.Op.{Op}
use Rattle.op_table.specs.Operator.{op_word}
use Rattle.op_table.specs.Table.{ops}
use Rattle.port_types.specs.Numeral.{in_word}
use Rattle.port_types.specs.PortGrammar.{text_behind}
use Rattle.fun_expr.specs.declared.state.Number.{Number}
use Rattle.fun_expr.specs.declared.state.Number.TheVariants.{Place, LiteralWidth, Literal, OperatorWidth, Out}
use Rattle.fun_expr.specs.declared.state.Spot.{Spot}
use Rattle.fun_expr.specs.declared.state.Spot.TheVariants.{Start, Expression, Name, Numeral, Digits, Closed, Spaced, Dash, Arrow, Gap}
use Rattle.fun_expr.specs.declared.state.State.{State}

abbrev pub state : Spot → ℕ → State
state spot nesting = record { spot = spot; nesting = nesting }

abbrev pub leads : Spot → ℕ → Option State
leads spot nesting = Some (state spot nesting)

-- whether a word goes on with the byte
abbrev pub goes_on : ℕ → Option (List ℕ) → Bool
goes_on byte None = false
goes_on byte (Some []) = false
goes_on byte (Some (next ∷ more)) = next == byte

-- the first operator whose name begins with the front and then the byte
unfoldable pub first_named : List ℕ → ℕ → Option Op
first_named front byte = find (λ op. goes_on byte (text_behind front (op_word op))) ops

-- the operator of a name
unfoldable pub op_named : List ℕ → Option Op
op_named word = find (λ op. bytes_eq (op_word op) word) ops

abbrev pub named : ℕ → ℕ → Option Op → Option State
named letters nesting None = None
named letters nesting (Some op) = leads (Name op letters) nesting

abbrev pub operator : ℕ → Option Op → Option State
operator nesting None = None
operator nesting (Some op) = leads (Numeral (OperatorWidth op)) nesting

-- a byte in the name of an operator, behind its first letters
abbrev pub in_name : List ℕ → ℕ → ℕ → Option State
in_name front nesting byte = if byte == 58 then operator nesting (op_named front) else named (length front + 1) nesting (first_named front byte)

-- an expression begins with the byte
abbrev pub expression : ℕ → ℕ → Option State
expression nesting byte =
    if byte == 35 then leads (Numeral Place) nesting
    else (if is_ascii_digit byte then leads (Digits LiteralWidth (Some (byte - 48))) nesting else named 1 nesting (first_named [] byte))

-- behind an expression
abbrev pub behind : ℕ → ℕ → Option State
behind zero byte = if byte == 59 then leads Expression 0 else (if byte == 32 then leads Spaced 0 else None)
behind (suc nesting) byte = if byte == 44 then leads Expression (suc nesting) else (if byte == 41 then leads Closed nesting else None)

-- a width that the code can hold: one that is greater is as little a width as 255
abbrev pub held_width : Option ℕ → ℕ
held_width None = 255
held_width (Some number) = if nat_lt number 256 then number else 255

abbrev pub only_at : ℕ → ℕ → Spot → ℕ → Option State
only_at wanted byte spot nesting = if byte == wanted then leads spot nesting else None

-- behind a numeral
abbrev pub ended : Number → Option ℕ → ℕ → ℕ → Option State
ended Place value nesting byte = behind nesting byte
ended LiteralWidth value nesting byte = only_at 39 byte (Numeral (Literal (held_width value))) nesting
ended (Literal width) value nesting byte = behind nesting byte
ended (OperatorWidth op) value nesting byte = only_at 40 byte Expression (suc nesting)
ended Out value nesting byte = only_at 32 byte Gap nesting

-- the number with one more digit, if it is below 2 ^ 64
abbrev pub with_digit : Option ℕ → ℕ → Option ℕ
with_digit None byte = None
with_digit (Some number) byte = in_word (number * 10 + (byte - 48))

-- no digit may stand behind a 0 that begins a numeral
abbrev pub is_zero : Option ℕ → Bool
is_zero None = false
is_zero (Some number) = number == 0

abbrev pub numeral_on : Number → Option ℕ → ℕ → ℕ → Option State
numeral_on number value nesting byte = if is_zero value then None else leads (Digits number (with_digit value byte)) nesting

-- where a byte leads; None where it can't follow
abbrev pub step_from : ℕ → ℕ → Spot → Option State
step_from nesting byte Start = if byte == 45 then leads Dash nesting else expression nesting byte
step_from nesting byte Expression = expression nesting byte
step_from nesting byte (Name op letters) = in_name (take letters (op_word op)) nesting byte
step_from nesting byte (Numeral number) = if is_ascii_digit byte then leads (Digits number (Some (byte - 48))) nesting else None
step_from nesting byte (Digits number value) = if is_ascii_digit byte then numeral_on number value nesting byte else ended number value nesting byte
step_from nesting byte Closed = behind nesting byte
step_from nesting byte Spaced = only_at 45 byte Dash nesting
step_from nesting byte Dash = only_at 62 byte Arrow nesting
step_from nesting byte Arrow = only_at 32 byte Gap nesting
step_from nesting byte Gap = only_at 35 byte (Numeral Out) nesting

abbrev pub step : State → ℕ → Option State
step s byte = step_from s.nesting byte s.spot

-- nothing is read
abbrev pub begin : State
begin = state Start 0

abbrev pub ends_out : Number → Bool
ends_out Out = true
ends_out _ = false

-- a text may end here
abbrev pub is_whole : Spot → Bool
is_whole Arrow = true
is_whole (Digits number value) = ends_out number
is_whole _ = false
