-- A shift to the right that copies the sign rounds down.
use Rattle.std.proofs.Common.{◌≡◌, ℕ, zero, suc, ◌+◌, ◌-◌, ◌*◌, ◌/◌, ◌%◌, ◌^◌, ◌<◌, ◌≤◌, ℤ, pos, negsuc, neg_ℤ, ◌+ℤ◌, ◌*ℤ◌, ◌≤ℤ◌, ◌<ℤ◌, sym, ap, ◌∙◌, arith}
use Rattle.std.proofs.Math.Nat.{zero-mod, zero-mul, suc-mul, add-mul}
use Rattle.std.proofs.Math.IntN.{negsuc-*ℤ-pos, pos-*ℤ-pos, zero-*ℤ}
use Rattle.std.proofs.lemmas.Nat.{pow_pos, div-add-mod', mod_below}
use Rattle.std.proofs.lemmas.Int.{ints}
use Rattle.std.specs.Int.{int_div_euclid}
use Rattle.std.specs.Int.Signed.{mag, mag_shr}
use Rattle.op_table.specs.Value.{signed, op_value}
use Rattle.op_table.specs.Laws.{AshrRoundsDown, ShiftedOut}
use Rattle.op_table.proofs.Shifts.{shifted_out_left, shifted_out_right}
use Rattle.op_table.proofs.Signs.{signed-low, signed-high, mag-signed}
use Rattle.op_table.proofs.Readings.{reading_of_modulo}

mag-int_div_euclid : (whole : ℤ) (divisor : ℕ) → mag (int_div_euclid whole (pos divisor)) ≤ mag whole
mag-int_div_euclid (pos n) divisor = mag_shr (pos n) divisor
mag-int_div_euclid (negsuc n) divisor = mag_shr (negsuc n) divisor

one_more : (n divisor : ℕ) → (negsuc n +ℤ pos 1) *ℤ pos divisor ≡ neg_ℤ (pos (n * divisor))
one_more zero divisor = zero-*ℤ (pos divisor) ∙ ap (λ m. neg_ℤ (pos m)) (sym (zero-mul divisor))
one_more (suc n) divisor =
    let next : negsuc (suc n) +ℤ pos 1 ≡ negsuc n = omega (arith, ints) in
    rw next (negsuc-*ℤ-pos n divisor)

-- the quotient whose remainder is not negative is rounded down
rounds_down : (whole : ℤ) (divisor : ℕ) → 0 < divisor
    → ((int_div_euclid whole (pos divisor) *ℤ pos divisor) ≤ℤ whole) × (whole <ℤ ((int_div_euclid whole (pos divisor) +ℤ pos 1) *ℤ pos divisor))
rounds_down (pos n) divisor some =
    let whole = div-add-mod' n divisor in
    let rest = mod_below n divisor some in
    let next = add-mul (n / divisor) 1 divisor in
    (rw (pos-*ℤ-pos (n / divisor) divisor) (omega (arith, ints)), rw (pos-*ℤ-pos (n / divisor + 1) divisor) (omega (arith, ints)))
rounds_down (negsuc n) divisor some =
    let whole = div-add-mod' n divisor in
    let rest = mod_below n divisor some in
    let next = suc-mul (n / divisor) divisor in
    (omega (arith, ints), rw (one_more (n / divisor) divisor) (omega (arith, ints)))

pub ashr_rounds_down : AshrRoundsDown
unfolding op_value
ashr_rounds_down width a b positive fits =
    let reading = signed width a in
    let near : mag (int_div_euclid reading (pos (2 ^ b))) < 2 ^ (width - 1) = omega (arith, mag-int_div_euclid reading (2 ^ b), mag-signed width a positive fits) in
    rw (reading_of_modulo width (int_div_euclid reading (pos (2 ^ b))) positive near) (rounds_down reading (2 ^ b) (pow_pos b))

pub shifted_out : ShiftedOut
unfolding op_value
shifted_out width a b positive fits past =
    let none : a / 2 ^ b ≡ 0 = shifted_out_right width a b fits past in (
      shifted_out_left width a b past,
      none,
      λ low. rw (signed-low width a low) (ap (λ n. n % 2 ^ width) none ∙ zero-mod (2 ^ width)),
      λ high.
          let rest : (2 ^ width - 1 - a) / 2 ^ b ≡ 0 = shifted_out_right width (2 ^ width - 1 - a) b (omega (arith, pow_pos width)) past in
          rw (signed-high width a high fits) (ap (λ n. 2 ^ width - 1 - n % 2 ^ width) rest ∙ omega (arith, zero-mod (2 ^ width))),
    )
