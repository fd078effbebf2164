-- A value fits its width.
use Rattle.std.proofs.Common.{◌≡◌, ℕ, zero, suc, ◌+◌, ◌-◌, ◌*◌, ◌/◌, ◌%◌, ◌^◌, ◌<◌, ℤ, pos, negsuc, ◌-ℤ◌, min, max, List, [], ◌∷◌, Bool, true, false, int_div, int_rem, refl, ap, arith}
use Rattle.std.specs.Prelude.{◌==◌, if◌then◌else◌}
use Rattle.std.specs.Int.{int_div_euclid}
use Rattle.std.proofs.Math.Nat.{div-le_self, mod-le, pow-suc}
use Rattle.std.proofs.Math.Pow.{ones_lt}
use Rattle.std.proofs.lemmas.Nat.{pow_pos, mod_below}
use Rattle.op_table.specs.declared.op.Op.{Op}
use Rattle.op_table.specs.declared.op.Op.TheVariants.{Add, Sub, Mul, Udiv, Urem, Sdiv, Srem, And, Or, Xor, Shl, Lshr, Ashr, Eq, Ne, Ult, Ule, Ugt, Uge, Slt, Sle, Sgt, Sge, Select, Zext, Sext, Trunc, Ret}
use Rattle.op_table.specs.Operator.{KeepsWidth, Compares}
use Rattle.op_table.specs.Value.{signed, modulo, bit_by_bit, sum_digit, truth, widths_of, InputsFit, op_value}
use Rattle.op_table.specs.Laws.{ValueFits}
use Rattle.op_table.proofs.Bits.{power_rises}

cond_fits : (test : Bool) (x y bound : ℕ) → x < bound → y < bound → (if test then x else y) < bound
cond_fits true x y bound first second = first
cond_fits false x y bound first second = second

truth_fits : (test : Bool) → truth test < 2
truth_fits true = omega arith
truth_fits false = omega arith

pub modulo-lt : (width : ℕ) (whole : ℤ) → modulo width whole < 2 ^ width
modulo-lt width (pos n) = mod_below n (2 ^ width) (pow_pos width)
modulo-lt width (negsuc n) = omega (arith, pow_pos width)

pub bit_by_bit-lt : (digit : ℕ → ℕ → ℕ) (width a b : ℕ) → ((x y : ℕ) → x < 2 → y < 2 → digit x y < 2) → bit_by_bit digit width a b < 2 ^ width
unfolding bit_by_bit
bit_by_bit-lt digit zero a b binary = omega arith
bit_by_bit-lt digit (suc width) a b binary =
    let rest = bit_by_bit-lt digit width (a / 2) (b / 2) binary in
    omega (arith, rest, binary (a % 2) (b % 2) (omega arith) (omega arith), pow-suc 2 width)

-- the inputs by their widths
one_input : (args : List (ℕ × ℕ)) (v : ℕ) → widths_of args ≡ v ∷ [] → InputsFit args → (a : ℕ) × (args ≡ (v, a) ∷ []) × (a < 2 ^ v)
one_input [] v same fit = cc
one_input ((w, a) ∷ []) v same fit =
    let width : w ≡ v = cc in
    (a, rw width refl, rw (← width) (fit 0 (w, a) (omega arith)))
one_input ((w, a) ∷ second ∷ args) v same fit = cc

two_inputs : (args : List (ℕ × ℕ)) (v w : ℕ) → widths_of args ≡ v ∷ w ∷ [] → InputsFit args → (a : ℕ) × (b : ℕ) × (args ≡ (v, a) ∷ (w, b) ∷ []) × (a < 2 ^ v) × (b < 2 ^ w)
two_inputs [] v w same fit = cc
two_inputs (first ∷ []) v w same fit = cc
two_inputs ((x, a) ∷ (y, b) ∷ []) v w same fit =
    let width : x ≡ v = cc in
    let width' : y ≡ w = cc in
    (a, b, rw (width, width') refl, rw (← width) (fit 0 (x, a) (omega arith)), rw (← width') (fit 1 (y, b) (omega arith)))
two_inputs (first ∷ second ∷ third ∷ args) v w same fit = cc

three_inputs : (args : List (ℕ × ℕ)) (u v w : ℕ) → widths_of args ≡ u ∷ v ∷ w ∷ [] → InputsFit args
    → (a : ℕ) × (b : ℕ) × (c : ℕ) × (args ≡ (u, a) ∷ (v, b) ∷ (w, c) ∷ []) × (b < 2 ^ v) × (c < 2 ^ w)
three_inputs [] u v w same fit = cc
three_inputs (first ∷ []) u v w same fit = cc
three_inputs (first ∷ second ∷ []) u v w same fit = cc
three_inputs ((x, a) ∷ (y, b) ∷ (z, c) ∷ []) u v w same fit =
    let width : x ≡ u = cc in
    let width' : y ≡ v = cc in
    let width'' : z ≡ w = cc in
    (a, b, c, rw (width, width', width'') refl, rw (← width') (fit 1 (y, b) (omega arith)), rw (← width'') (fit 2 (z, c) (omega arith)))
three_inputs (first ∷ second ∷ third ∷ fourth ∷ args) u v w same fit = cc

keeps_fits : (op : Op) (args : List (ℕ × ℕ)) (out : ℕ) → KeepsWidth (widths_of args) out → InputsFit args
    → ((a b : ℕ) → a < 2 ^ out → b < 2 ^ out → op_value op ((out, a) ∷ (out, b) ∷ []) out < 2 ^ out) → op_value op args out < 2 ^ out
keeps_fits op args out (same, ok) fit at =
    let inputs = two_inputs args out out same fit in
    rw inputs.2 (at inputs.0 inputs.1 inputs.3 inputs.4)

compares_fits : (op : Op) (args : List (ℕ × ℕ)) (out : ℕ) → Compares (widths_of args) out → InputsFit args
    → ((width a b : ℕ) → op_value op ((width, a) ∷ (width, b) ∷ []) out < 2) → op_value op args out < 2 ^ out
compares_fits op args out (width, same, ok, one) fit at =
    let inputs = two_inputs args width width same fit in
    rw inputs.2 (omega (arith, at width inputs.0 inputs.1, ap (λ n. 2 ^ n) one))

pub value_fits : ValueFits
unfolding op_value
value_fits Add args out typed fit = keeps_fits Add args out typed fit (λ a b first second. mod_below (a + b) (2 ^ out) (pow_pos out))
value_fits Sub args out typed fit = keeps_fits Sub args out typed fit (λ a b first second. modulo-lt out (pos a -ℤ pos b))
value_fits Mul args out typed fit = keeps_fits Mul args out typed fit (λ a b first second. mod_below (a * b) (2 ^ out) (pow_pos out))
value_fits Udiv args out typed fit = keeps_fits Udiv args out typed fit (λ a b first second. cond_fits (b == 0) (2 ^ out - 1) (a / b) (2 ^ out) (ones_lt out) (omega (arith, div-le_self a b)))
value_fits Urem args out typed fit = keeps_fits Urem args out typed fit (λ a b first second. cond_fits (b == 0) a (a % b) (2 ^ out) first (omega (arith, mod-le a b)))
value_fits Sdiv args out typed fit = keeps_fits Sdiv args out typed fit (λ a b first second. cond_fits (b == 0) (2 ^ out - 1) (modulo out (int_div (signed out a) (signed out b))) (2 ^ out) (ones_lt out) (modulo-lt out (int_div (signed out a) (signed out b))))
value_fits Srem args out typed fit = keeps_fits Srem args out typed fit (λ a b first second. cond_fits (b == 0) a (modulo out (int_rem (signed out a) (signed out b))) (2 ^ out) first (modulo-lt out (int_rem (signed out a) (signed out b))))
value_fits And args out typed fit = keeps_fits And args out typed fit (λ a b first second. bit_by_bit-lt min out a b (λ x y low low'. omega arith))
value_fits Or args out typed fit = keeps_fits Or args out typed fit (λ a b first second. bit_by_bit-lt max out a b (λ x y low low'. omega arith))
value_fits Xor args out typed fit = keeps_fits Xor args out typed fit (λ a b first second. bit_by_bit-lt sum_digit out a b (λ x y low low'. omega arith))
value_fits Shl args out typed fit = keeps_fits Shl args out typed fit (λ a b first second. mod_below (a * 2 ^ b) (2 ^ out) (pow_pos out))
value_fits Lshr args out typed fit = keeps_fits Lshr args out typed fit (λ a b first second. omega (arith, div-le_self a (2 ^ b)))
value_fits Ashr args out typed fit = keeps_fits Ashr args out typed fit (λ a b first second. modulo-lt out (int_div_euclid (signed out a) (pos (2 ^ b))))
value_fits Eq args out typed fit = compares_fits Eq args out typed fit (λ width a b. truth_fits _)
value_fits Ne args out typed fit = compares_fits Ne args out typed fit (λ width a b. truth_fits _)
value_fits Ult args out typed fit = compares_fits Ult args out typed fit (λ width a b. truth_fits _)
value_fits Ule args out typed fit = compares_fits Ule args out typed fit (λ width a b. truth_fits _)
value_fits Ugt args out typed fit = compares_fits Ugt args out typed fit (λ width a b. truth_fits _)
value_fits Uge args out typed fit = compares_fits Uge args out typed fit (λ width a b. truth_fits _)
value_fits Slt args out typed fit = compares_fits Slt args out typed fit (λ width a b. truth_fits _)
value_fits Sle args out typed fit = compares_fits Sle args out typed fit (λ width a b. truth_fits _)
value_fits Sgt args out typed fit = compares_fits Sgt args out typed fit (λ width a b. truth_fits _)
value_fits Sge args out typed fit = compares_fits Sge args out typed fit (λ width a b. truth_fits _)
value_fits Select args out (same, ok) fit =
    let parts = three_inputs args 1 out out same fit in
    rw parts.3 (cond_fits (parts.0 == 1) parts.1 parts.2 (2 ^ out) parts.4 parts.5)
value_fits Zext args out (width, same, ok, ok', wide) fit =
    let input = one_input args width same fit in
    rw input.1 (omega (arith, input.2, power_rises width out wide))
value_fits Sext args out (width, same, ok, ok', wide) fit =
    let input = one_input args width same fit in
    rw input.1 (modulo-lt out (signed width input.0))
value_fits Trunc args out (width, same, ok, ok', low) fit =
    let input = one_input args width same fit in
    rw input.1 (mod_below input.0 (2 ^ out) (pow_pos out))
value_fits Ret args out (same, narrow) fit =
    let input = one_input args out same fit in
    rw input.1 input.2
