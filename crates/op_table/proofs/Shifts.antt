-- Shifts as products and quotients by powers of two.
use Rattle.std.proofs.Common.{◌≡◌, ℕ, ◌-◌, ◌*◌, ◌/◌, ◌%◌, ◌^◌, ◌<◌, ◌≤◌, min, ℤ, pos, negsuc, refl, sym, ap, ◌∙◌, inl, inr, arith}
use Rattle.std.proofs.Math.Nat.{div-eq_of_lt, mul-mod_left, mul_assoc}
use Rattle.std.proofs.lemmas.Bool.{cases_lt}
use Rattle.std.specs.Int.{int_div_euclid, int_shr}
use Rattle.std.specs.Int.Signed.{mag}
use Rattle.op_table.proofs.Bits.{power_splits, power_rises}

-- nothing is left below the width
pub shifted_out_left : (width a b : ℕ) → width ≤ b → (a * 2 ^ b) % 2 ^ width ≡ 0
shifted_out_left width a b past =
    ap (λ m. (a * m) % 2 ^ width) (power_splits width b past) ∙ ap (λ m. m % 2 ^ width) (sym (mul_assoc a (2 ^ (b - width)) (2 ^ width))) ∙ mul-mod_left (a * 2 ^ (b - width)) (2 ^ width)

-- nothing is left of a number of this width
pub shifted_out_right : (width a b : ℕ) → a < 2 ^ width → width ≤ b → a / 2 ^ b ≡ 0
shifted_out_right width a b fits past = div-eq_of_lt (omega (arith, power_rises width b past))

rounded_down : (whole : ℤ) (places : ℕ) → int_div_euclid whole (pos (2 ^ places)) ≡ int_shr whole places
rounded_down (pos n) places = refl
rounded_down (negsuc n) places = refl

-- by 63 places and more, copies of the sign are left of a signed word of 64 bits
sign_left : (whole : ℤ) (places : ℕ) → 63 ≤ places → mag whole < 2 ^ 63 → int_shr whole places ≡ int_shr whole 63
sign_left (pos n) places past fits = ap (λ m. pos m) (shifted_out_right 63 n places fits past ∙ sym (shifted_out_right 63 n 63 fits (omega arith)))
sign_left (negsuc n) places past fits = ap (λ m. negsuc m) (shifted_out_right 63 n places fits past ∙ sym (shifted_out_right 63 n 63 fits (omega arith)))

-- so no shift by more than 63 places is needed
pub shift_capped : (whole : ℤ) (places : ℕ) → mag whole < 2 ^ 63 → int_div_euclid whole (pos (2 ^ places)) ≡ int_shr whole (min places 63)
shift_capped whole places fits =
    elim (cases_lt places 63) [
      | inl below ↦
          let count : min places 63 ≡ places = omega arith in
          rw count (rounded_down whole places)
      | inr past ↦
          let count : min places 63 ≡ 63 = omega arith in
          rw count (rounded_down whole places ∙ sign_left whole places past fits)
    ]
