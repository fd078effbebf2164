-- What is proved about the definitions.
use Rattle.std.specs.Prelude.{◌≡◌, ◌↔◌, Some, IsTrue, ℕ, ◌+◌, ◌-◌, ◌*◌, ◌^◌, ◌<◌, ◌≤◌, ◌≢◌, min, max, ℤ, pos, ◌+ℤ◌, ◌*ℤ◌, ◌<ℤ◌, ◌≤ℤ◌, neg_ℤ, unsigned_abs, List, [], ◌∷◌, All, length}
use Rattle.std.specs.Int.{bit_at}
use Rattle.op_table.specs.declared.op.Op.{Op}
use Rattle.op_table.specs.declared.op.Op.TheVariants.{Add, Sub, Mul, Udiv, Urem, Sdiv, Srem, And, Or, Xor, Shl, Lshr, Ashr, Zext, Sext, Trunc}
use Rattle.op_table.specs.Operator.{op_word, graph_word, IsTypedOp}
use Rattle.op_table.specs.Table.{op_named, is_typed_op}
use Rattle.op_table.specs.Value.{signed, modulo, sum_digit, widths_of, InputsFit, op_value}

-- no two operators share a name
abbrev pub GraphWordsDiffer : Type 0
GraphWordsDiffer = (op other : Op) → graph_word op ≡ graph_word other → op ≡ other

abbrev pub ShortWordsDiffer : Type 0
ShortWordsDiffer = (op other : Op) → op_word op ≡ op_word other → op ≡ other

-- an operator takes one to three inputs, and no width is above 64
abbrev pub TypedWidths : Type 0
TypedWidths = (op : Op) (ins : List ℕ) (out : ℕ) → IsTypedOp op ins out → (1 ≤ length ins) × (length ins ≤ 3) × All (λ width. width ≤ 64) ins × (out ≤ 64)

-- each operator is the one with its name
abbrev pub NamesAreFound : Type 0
NamesAreFound = (op : Op) → op_named (graph_word op) ≡ Some op

-- the test of widths tells the columns of the table
abbrev pub WidthsAreTested : Type 0
WidthsAreTested = (op : Op) (ins : List ℕ) (out : ℕ) → IsTrue (is_typed_op op ins out) ↔ IsTypedOp op ins out

-- a value fits its width
abbrev pub ValueFits : Type 0
ValueFits = (op : Op) (args : List (ℕ × ℕ)) (out : ℕ) → IsTypedOp op (widths_of args) out → InputsFit args → op_value op args out < 2 ^ out

-- a number has one signed reading, and comes back from it
abbrev pub ReadingComesBack : Type 0
ReadingComesBack = (width number : ℕ) → 1 ≤ width → number < 2 ^ width → modulo width (signed width number) ≡ number

-- every whole number from -(2 ^ (width - 1)) to 2 ^ (width - 1) - 1 is the signed reading of a number
abbrev pub NumberComesBack : Type 0
NumberComesBack = (width : ℕ) (whole : ℤ) → 1 ≤ width → neg_ℤ (pos (2 ^ (width - 1))) ≤ℤ whole → whole <ℤ pos (2 ^ (width - 1)) → signed width (modulo width whole) ≡ whole

-- the value at two numbers of one width, for an output of the same width
abbrev pub at_two : Op → ℕ → ℕ → ℕ → ℕ
at_two op width a b = op_value op ((width, a) ∷ (width, b) ∷ []) width

-- subtracting undoes adding
abbrev pub SubUndoesAdd : Type 0
SubUndoesAdd = (width a b : ℕ) → a < 2 ^ width → b < 2 ^ width → at_two Sub width (at_two Add width a b) b ≡ a

-- adding undoes subtracting
abbrev pub AddUndoesSub : Type 0
AddUndoesSub = (width a b : ℕ) → a < 2 ^ width → b < 2 ^ width → at_two Add width (at_two Sub width a b) b ≡ a

-- the unsigned quotient times the divisor, plus the remainder, is the dividend, and the remainder is below the divisor
abbrev pub UnsignedQuotient : Type 0
UnsignedQuotient = (width a b : ℕ) → b ≢ 0 → (at_two Udiv width a b * b + at_two Urem width a b ≡ a) × (at_two Urem width a b < b)

-- computed at the width, the unsigned quotient times the divisor, plus the remainder, is the dividend, by whatever divisor
abbrev pub UnsignedDivisionComesBack : Type 0
UnsignedDivisionComesBack =
    (width a b : ℕ) → a < 2 ^ width → at_two Add width (at_two Mul width (at_two Udiv width a b) b) (at_two Urem width a b) ≡ a

-- computed at the width, the signed quotient times the divisor, plus the remainder, is the dividend, by whatever divisor
abbrev pub SignedDivisionComesBack : Type 0
SignedDivisionComesBack =
    (width a b : ℕ) → 1 ≤ width → a < 2 ^ width → b < 2 ^ width
    → at_two Add width (at_two Mul width (at_two Sdiv width a b) b) (at_two Srem width a b) ≡ a

-- as whole numbers, the signed quotient times the divisor, plus the remainder, is the dividend, but for the least number by minus one
abbrev pub SignedQuotient : Type 0
SignedQuotient =
    (width a b : ℕ) → 1 ≤ width → a < 2 ^ width → b < 2 ^ width → b ≢ 0 → ((a ≡ 2 ^ (width - 1)) × (b ≡ 2 ^ width - 1) → ⊥)
    → signed width (at_two Sdiv width a b) *ℤ signed width b +ℤ signed width (at_two Srem width a b) ≡ signed width a

-- the signed remainder lies nearer to 0 than the divisor, and on the dividend's side of 0
abbrev pub SignedRemainder : Type 0
SignedRemainder =
    (width a b : ℕ) → 1 ≤ width → a < 2 ^ width → b < 2 ^ width → b ≢ 0
    → let remainder = signed width (at_two Srem width a b) in
    (unsigned_abs remainder < unsigned_abs (signed width b)) × (pos 0 ≤ℤ signed width a → pos 0 ≤ℤ remainder) × (signed width a ≤ℤ pos 0 → remainder ≤ℤ pos 0)

-- the least signed number by minus one is itself, with remainder 0
abbrev pub LeastByMinusOne : Type 0
LeastByMinusOne = (width : ℕ) → 1 ≤ width → (at_two Sdiv width (2 ^ (width - 1)) (2 ^ width - 1) ≡ 2 ^ (width - 1)) × (at_two Srem width (2 ^ (width - 1)) (2 ^ width - 1) ≡ 0)

-- a shift to the right that copies the sign is the quotient by a power of two, rounded down
abbrev pub AshrRoundsDown : Type 0
AshrRoundsDown =
    (width a b : ℕ) → 1 ≤ width → a < 2 ^ width
    → let shifted = signed width (at_two Ashr width a b) in
    ((shifted *ℤ pos (2 ^ b)) ≤ℤ signed width a) × (signed width a <ℤ ((shifted +ℤ pos 1) *ℤ pos (2 ^ b)))

-- a shift by the width or more leaves nothing, or copies of the sign
abbrev pub ShiftedOut : Type 0
ShiftedOut =
    (width a b : ℕ) → 1 ≤ width → a < 2 ^ width → width ≤ b
    → (at_two Shl width a b ≡ 0) × (at_two Lshr width a b ≡ 0) × (a < 2 ^ (width - 1) → at_two Ashr width a b ≡ 0) × (2 ^ (width - 1) ≤ a → at_two Ashr width a b ≡ 2 ^ width - 1)

-- each binary digit below the width is made from the two at its place
abbrev pub BitByBit : Type 0
BitByBit =
    (width a b place : ℕ) → place < width
    → (bit_at (at_two And width a b) place ≡ min (bit_at a place) (bit_at b place)) × (bit_at (at_two Or width a b) place ≡ max (bit_at a place) (bit_at b place))
    × (bit_at (at_two Xor width a b) place ≡ sum_digit (bit_at a place) (bit_at b place))

-- the value at one number
abbrev pub at_one : Op → ℕ → ℕ → ℕ → ℕ
at_one op width number out = op_value op ((width, number) ∷ []) out

-- cutting undoes widening by zeros
abbrev pub TruncUndoesZext : Type 0
TruncUndoesZext = (width wide number : ℕ) → number < 2 ^ width → at_one Trunc wide (at_one Zext width number wide) width ≡ number

-- cutting undoes widening by the sign
abbrev pub TruncUndoesSext : Type 0
TruncUndoesSext = (width wide number : ℕ) → 1 ≤ width → width ≤ wide → number < 2 ^ width → at_one Trunc wide (at_one Sext width number wide) width ≡ number

-- widening by the sign keeps the signed reading
abbrev pub SextKeepsReading : Type 0
SextKeepsReading = (width wide number : ℕ) → 1 ≤ width → width ≤ wide → number < 2 ^ width → signed wide (at_one Sext width number wide) ≡ signed width number
