-- What operators compute: whole numbers from whole numbers, without a bound.
use Rattle.std.specs.Prelude.{ℕ, zero, suc, ◌+◌, ◌-◌, ◌*◌, ◌/◌, ◌%◌, ◌^◌, ◌<◌, min, max, ℤ, pos, ◌-ℤ◌, int_div, int_rem, int_lt, int_le, unsigned_abs, Bool, not, ◌==◌, nat_lt, nat_le, if◌then◌else◌, List, [], ◌∷◌, map, All}
use Rattle.std.specs.Int.{int_div_euclid, int_rem_euclid}
use Rattle.op_table.specs.declared.op.Op.{Op}
use Rattle.op_table.specs.declared.op.Op.TheVariants.{Add, Sub, Mul, Udiv, Urem, Sdiv, Srem, And, Or, Xor, Shl, Lshr, Ashr, Eq, Ne, Ult, Ule, Ugt, Uge, Slt, Sle, Sgt, Sge, Select, Zext, Sext, Trunc, Ret}

-- the signed reading of a number of this width, in two's complement
abbrev pub signed : ℕ → ℕ → ℤ
signed width number = if nat_lt number (2 ^ (width - 1)) then pos number else pos number -ℤ pos (2 ^ width)

-- the number from 0 to 2 ^ width - 1 that differs from a whole number by a multiple of 2 ^ width
abbrev pub modulo : ℕ → ℤ → ℕ
modulo width whole = unsigned_abs (int_rem_euclid whole (pos (2 ^ width)))

-- the number of this many binary digits, each made from the two digits at its place
unfoldable pub bit_by_bit : (ℕ → ℕ → ℕ) → ℕ → ℕ → ℕ → ℕ
bit_by_bit digit zero a b = 0
bit_by_bit digit (suc width) a b = digit (a % 2) (b % 2) + 2 * bit_by_bit digit width (a / 2) (b / 2)

-- the last binary digit of the sum: 1 where the digits differ
abbrev pub sum_digit : ℕ → ℕ → ℕ
sum_digit a b = (a + b) % 2

-- 1 for true
abbrev pub truth : Bool → ℕ
truth holds = if holds then 1 else 0

-- The inputs of an operator are pairs of a width and a number.
abbrev pub widths_of : List (ℕ × ℕ) → List ℕ
widths_of args = map (λ arg. arg.0) args

-- each number is below 2 to the power of its width
abbrev pub InputsFit : List (ℕ × ℕ) → Type 0
InputsFit args = All (λ arg. arg.1 < 2 ^ arg.0) args

-- the value at one input, with its width; 0 where there is not one
abbrev pub of_one : List (ℕ × ℕ) → (ℕ → ℕ → ℕ) → ℕ
of_one ((width, a) ∷ []) f = f width a
of_one args f = 0

-- the value at two inputs, with the width of the first; 0 where there are not two
abbrev pub of_two : List (ℕ × ℕ) → (ℕ → ℕ → ℕ → ℕ) → ℕ
of_two ((width, a) ∷ (other, b) ∷ []) f = f width a b
of_two args f = 0

-- the value at three inputs; 0 where there are not three
abbrev pub of_three : List (ℕ × ℕ) → (ℕ → ℕ → ℕ → ℕ) → ℕ
of_three ((first, a) ∷ (second, b) ∷ (third, c) ∷ []) f = f a b c
of_three args f = 0

-- the value of an operator at its inputs, for an output of this width
unfoldable pub op_value : Op → List (ℕ × ℕ) → ℕ → ℕ
op_value Add args out = of_two args (λ width a b. (a + b) % 2 ^ width)
op_value Sub args out = of_two args (λ width a b. modulo width (pos a -ℤ pos b))
op_value Mul args out = of_two args (λ width a b. (a * b) % 2 ^ width)
op_value Udiv args out = of_two args (λ width a b. if b == 0 then 2 ^ width - 1 else a / b)
op_value Urem args out = of_two args (λ width a b. if b == 0 then a else a % b)
op_value Sdiv args out = of_two args (λ width a b. if b == 0 then 2 ^ width - 1 else modulo width (int_div (signed width a) (signed width b)))
op_value Srem args out = of_two args (λ width a b. if b == 0 then a else modulo width (int_rem (signed width a) (signed width b)))
op_value And args out = of_two args (λ width a b. bit_by_bit min width a b)
op_value Or args out = of_two args (λ width a b. bit_by_bit max width a b)
op_value Xor args out = of_two args (λ width a b. bit_by_bit sum_digit width a b)
op_value Shl args out = of_two args (λ width a b. (a * 2 ^ b) % 2 ^ width)
op_value Lshr args out = of_two args (λ width a b. a / 2 ^ b)
op_value Ashr args out = of_two args (λ width a b. modulo width (int_div_euclid (signed width a) (pos (2 ^ b))))
op_value Eq args out = of_two args (λ width a b. truth (a == b))
op_value Ne args out = of_two args (λ width a b. truth (not (a == b)))
op_value Ult args out = of_two args (λ width a b. truth (nat_lt a b))
op_value Ule args out = of_two args (λ width a b. truth (nat_le a b))
op_value Ugt args out = of_two args (λ width a b. truth (nat_lt b a))
op_value Uge args out = of_two args (λ width a b. truth (nat_le b a))
op_value Slt args out = of_two args (λ width a b. truth (int_lt (signed width a) (signed width b)))
op_value Sle args out = of_two args (λ width a b. truth (int_le (signed width a) (signed width b)))
op_value Sgt args out = of_two args (λ width a b. truth (int_lt (signed width b) (signed width a)))
op_value Sge args out = of_two args (λ width a b. truth (int_le (signed width b) (signed width a)))
op_value Select args out = of_three args (λ choice a b. if choice == 1 then a else b)
op_value Zext args out = of_one args (λ width a. a)
op_value Sext args out = of_one args (λ width a. modulo out (signed width a))
op_value Trunc args out = of_one args (λ width a. a % 2 ^ out)
op_value Ret args out = of_one args (λ width a. a)
