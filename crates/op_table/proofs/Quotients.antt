-- Quotients and remainders make up the dividend.
use Rattle.std.proofs.Common.{◌≡◌, ◌≢◌, ℕ, zero, suc, ◌+◌, ◌-◌, ◌*◌, ◌/◌, ◌%◌, ◌^◌, ◌<◌, ◌≤◌, ℤ, pos, negsuc, neg_ℤ, ◌*ℤ◌, ◌≤ℤ◌, unsigned_abs, int_div, int_rem, false, nat_eq, refl, sym, ap, ◌∙◌, inl, inr, arith, tests}
use Rattle.std.proofs.Math.Nat.{mod-eq_of_lt, mod-add-mod, mul-zero, div-le_self, div-lt_self, zero-mod, div-one}
use Rattle.std.proofs.lemmas.Bool.{cases_eq}
use Rattle.std.proofs.lemmas.Nat.{pow_pos, div-add-mod', mod_below}
use Rattle.std.proofs.lemmas.Int.{ints, quot-rem, rem_below}
use Rattle.std.specs.Int.Signed.{mag, mag_rem}
use Rattle.op_table.specs.Value.{signed, modulo, op_value}
use Rattle.op_table.specs.Laws.{UnsignedQuotient, UnsignedDivisionComesBack, SignedQuotient, SignedRemainder, SignedDivisionComesBack, LeastByMinusOne}
use Rattle.op_table.proofs.Bits.{power_doubles}
use Rattle.op_table.proofs.Signs.{signed-high, mag-signed, mag-neg}
use Rattle.op_table.proofs.Congruence.{modulo-add, modulo-mul}
use Rattle.op_table.proofs.Readings.{reading_comes_back, reading_of_modulo}

not_zero : (b : ℕ) → b ≢ 0 → nat_eq b 0 ≡ false
not_zero b some = grind (arith, tests, some)

pub unsigned_quotient : UnsignedQuotient
unfolding op_value
unsigned_quotient width a b some = rw (not_zero b some) (div-add-mod' a b, mod_below a b (omega (arith, some)))

pub unsigned_division_comes_back : UnsignedDivisionComesBack
unfolding op_value
unsigned_division_comes_back width a b fits =
    elim (cases_eq b 0) [
      | inl none ↦ rw none (mod-add-mod ((2 ^ width - 1) * 0) (2 ^ width) a ∙ rw mul-zero (ap (λ n. n % 2 ^ width) (omega arith) ∙ mod-eq_of_lt fits))
      | inr some ↦ rw (not_zero b some) (mod-add-mod (a / b * b) (2 ^ width) (a % b) ∙ rw (div-add-mod' a b) (mod-eq_of_lt fits))
    ]

-- a divisor that is not 0 has a reading that is not 0
divisor_reads : (width b : ℕ) → 1 ≤ width → b < 2 ^ width → b ≢ 0 → signed width b ≡ pos 0 → ⊥
divisor_reads width b positive fits some none = some (sym (reading_comes_back width b positive fits) ∙ ap (modulo width) none ∙ zero-mod (2 ^ width))

divisor_away : (divisor : ℤ) → (divisor ≡ pos 0 → ⊥) → 0 < unsigned_abs divisor
divisor_away (pos zero) away = absurd (away refl)
divisor_away (pos (suc n)) away = omega arith
divisor_away (negsuc n) away = omega arith

-- a signed remainder is its own reading
remainder_reads : (width a b : ℕ) → 1 ≤ width → a < 2 ^ width
    → signed width (modulo width (int_rem (signed width a) (signed width b))) ≡ int_rem (signed width a) (signed width b)
remainder_reads width a b positive fits =
    reading_of_modulo width (int_rem (signed width a) (signed width b)) positive (omega (arith, mag_rem (signed width a) (signed width b), mag-signed width a positive fits))

-- a negated number lies one nearer to 0 by its bits
mag-neg' : (n : ℕ) → mag (neg_ℤ (pos n)) ≤ n - 1
mag-neg' zero = omega arith
mag-neg' (suc n) = omega arith

-- a quotient of two signed words is one, but for the least by minus one
quotient_near : (half : ℕ) (dividend divisor : ℤ) → mag dividend < half → ((dividend ≡ negsuc (half - 1)) × (divisor ≡ negsuc 0) → ⊥) → mag (int_div dividend divisor) < half
quotient_near half (pos a) (pos b) near corner = omega (arith, div-le_self a b)
quotient_near half (pos a) (negsuc b) near corner = omega (arith, mag-neg (a / suc b), div-le_self a (suc b))
quotient_near half (negsuc a) (pos b) near corner = omega (arith, mag-neg' (suc a / b), div-le_self (suc a) b)
quotient_near half (negsuc a) (negsuc zero) near corner =
    elim (cases_eq a (half - 1)) [
      | inl least ↦ absurd (corner (ap (λ n. negsuc n) least, refl))
      | inr other ↦ omega (arith, div-le_self (suc a) 1)
    ]
quotient_near half (negsuc a) (negsuc (suc b)) near corner =
    let less : suc a / suc (suc b) < suc a = div-lt_self (omega arith) (omega arith) in
    omega arith

-- the least number and minus one, from their readings
reads_least : (width a : ℕ) → 1 ≤ width → a < 2 ^ width → signed width a ≡ negsuc (2 ^ (width - 1) - 1) → a ≡ 2 ^ (width - 1)
reads_least width a positive fits reading =
    let double = power_doubles width positive in
    let low : (2 ^ (width - 1) - 1) % 2 ^ width ≡ 2 ^ (width - 1) - 1 = mod-eq_of_lt (omega (arith, double, pow_pos (width - 1))) in
    sym (reading_comes_back width a positive fits) ∙ ap (modulo width) reading ∙ omega (arith, low, double, pow_pos (width - 1))

reads_minus_one : (width b : ℕ) → 1 ≤ width → b < 2 ^ width → signed width b ≡ negsuc 0 → b ≡ 2 ^ width - 1
reads_minus_one width b positive fits reading = sym (reading_comes_back width b positive fits) ∙ ap (modulo width) reading ∙ omega (arith, zero-mod (2 ^ width))

pub signed_quotient : SignedQuotient
unfolding op_value
signed_quotient width a b positive first second some corner =
    let dividend = signed width a in
    let divisor = signed width b in
    let near = quotient_near (2 ^ (width - 1)) dividend divisor (mag-signed width a positive first)
    (λ (least, minus_one). corner (reads_least width a positive first least, reads_minus_one width b positive second minus_one)) in
    rw (not_zero b some) (rw (reading_of_modulo width (int_div dividend divisor) positive near, remainder_reads width a b positive first) (quot-rem dividend divisor))

-- a remainder lies on the dividend's side of 0
remainder_above : (dividend divisor : ℤ) → pos 0 ≤ℤ dividend → pos 0 ≤ℤ int_rem dividend divisor
remainder_above (pos n) divisor above = omega (arith, ints)
remainder_above (negsuc n) divisor above = absurd (omega (arith, ints))

remainder_below : (dividend divisor : ℤ) → dividend ≤ℤ pos 0 → int_rem dividend divisor ≤ℤ pos 0
remainder_below (pos n) divisor below =
    let none : n ≡ 0 = omega (arith, ints) in
    rw none (omega (arith, ints, zero-mod (unsigned_abs divisor)))
remainder_below (negsuc n) divisor below = omega (arith, ints)

pub signed_remainder : SignedRemainder
unfolding op_value
signed_remainder width a b positive first second some =
    let dividend = signed width a in
    let divisor = signed width b in
    rw (not_zero b some) (rw (remainder_reads width a b positive first) (rem_below dividend divisor (divisor_away divisor (divisor_reads width b positive second some)), remainder_above dividend divisor, remainder_below dividend divisor))

whole_comes_back : (width a b : ℕ) → 1 ≤ width → a < 2 ^ width → b < 2 ^ width
    → ((modulo width (int_div (signed width a) (signed width b)) * b) % 2 ^ width + modulo width (int_rem (signed width a) (signed width b))) % 2 ^ width ≡ a
whole_comes_back width a b positive first second =
    let dividend = signed width a in
    let divisor = signed width b in
    let quotient = int_div dividend divisor in
    let remainder = int_rem dividend divisor in
    let product : (modulo width quotient * b) % 2 ^ width ≡ modulo width (quotient *ℤ divisor) =
    ap (λ n. (modulo width quotient * n) % 2 ^ width) (sym (reading_comes_back width b positive second)) ∙ sym (modulo-mul width quotient divisor) in
    ap (λ n. (n + modulo width remainder) % 2 ^ width) product ∙ sym (modulo-add width (quotient *ℤ divisor) remainder) ∙ ap (modulo width) (quot-rem dividend divisor)
    ∙ reading_comes_back width a positive first

pub signed_division_comes_back : SignedDivisionComesBack
unfolding op_value
signed_division_comes_back width a b positive first second =
    elim (cases_eq b 0) [
      | inl none ↦ rw none (mod-add-mod ((2 ^ width - 1) * 0) (2 ^ width) a ∙ rw mul-zero (ap (λ n. n % 2 ^ width) (omega arith) ∙ mod-eq_of_lt first))
      | inr some ↦ rw (not_zero b some) (whole_comes_back width a b positive first second)
    ]

no_remainder : (width n : ℕ) → modulo width (int_rem (negsuc n) (negsuc 0)) ≡ 0
no_remainder width n =
    let none : suc n % 1 ≡ 0 = omega arith in
    rw none (zero-mod (2 ^ width))

pub least_by_minus_one : LeastByMinusOne
unfolding op_value
least_by_minus_one width positive =
    let half = 2 ^ (width - 1) in
    let double = power_doubles width positive in
    let some = pow_pos (width - 1) in
    let dividend = signed-high width half (omega arith) (omega (arith, double, some)) in
    let divisor = signed-high width (2 ^ width - 1) (omega (arith, double, some)) (omega (arith, double, some)) in
    let last : 2 ^ width - 1 - (2 ^ width - 1) ≡ 0 = omega arith in
    let count : suc (2 ^ width - 1 - half) ≡ half = omega (arith, double, some) in
    let quotient : suc (2 ^ width - 1 - half) / 1 % 2 ^ width ≡ half = rw (div-one (suc (2 ^ width - 1 - half)), count) (mod-eq_of_lt (omega (arith, double, some))) in
    let apart : nat_eq (2 ^ width - 1) 0 ≡ false = not_zero (2 ^ width - 1) (λ none. absurd (omega (arith, double, some, none))) in
    rw apart (rw (dividend, divisor, last) (quotient, no_remainder width (2 ^ width - 1 - half)))
