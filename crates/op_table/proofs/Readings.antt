-- Numbers and their signed readings, and widening and cutting.
use Rattle.std.proofs.Common.{◌≡◌, ℕ, suc, ◌-◌, ◌*◌, ◌%◌, ◌^◌, ◌<◌, ◌≤◌, ℤ, pos, negsuc, ap, ◌∙◌, inl, inr, arith}
use Rattle.std.proofs.Math.Nat.{mod-eq_of_lt}
use Rattle.std.proofs.lemmas.Bool.{cases_lt}
use Rattle.std.proofs.lemmas.Int.{ints}
use Rattle.std.proofs.lemmas.Nat.{pow_pos, mod_below}
use Rattle.std.specs.Int.Signed.{mag}
use Rattle.op_table.specs.Value.{signed, modulo, op_value}
use Rattle.op_table.specs.Laws.{ReadingComesBack, NumberComesBack, TruncUndoesZext, TruncUndoesSext, SextKeepsReading}
use Rattle.op_table.proofs.Bits.{power_doubles, power_rises, power_splits, mod_of_mod, complement_mod}
use Rattle.op_table.proofs.Signs.{signed-low, signed-high, mag-signed}

pub reading_comes_back : ReadingComesBack
reading_comes_back width number positive fits =
    elim (cases_lt number (2 ^ (width - 1))) [
      | inl low ↦ rw (signed-low width number low) (mod-eq_of_lt fits)
      | inr high ↦
          let small : 2 ^ width - 1 - number < 2 ^ width = omega (arith, pow_pos width) in
          let whole : (2 ^ width - 1 - number) % 2 ^ width ≡ 2 ^ width - 1 - number = mod-eq_of_lt small in
          rw (signed-high width number high fits) (omega (arith, whole))
    ]

-- the number of a whole number that is a signed reading
pub reading_of_modulo : (width : ℕ) (whole : ℤ) → 1 ≤ width → mag whole < 2 ^ (width - 1) → signed width (modulo width whole) ≡ whole
reading_of_modulo width (pos n) positive near =
    let double = power_doubles width positive in
    let same : n % 2 ^ width ≡ n = mod-eq_of_lt (omega (arith, double)) in
    ap (signed width) same ∙ signed-low width n near
reading_of_modulo width (negsuc n) positive near =
    let double = power_doubles width positive in
    let same : n % 2 ^ width ≡ n = mod-eq_of_lt (omega (arith, double)) in
    let number = 2 ^ width - 1 - n in
    let back : 2 ^ width - 1 - number ≡ n = omega (arith, double) in
    ap (λ r. signed width (2 ^ width - 1 - r)) same ∙ signed-high width number (omega (arith, double)) (omega (arith, double)) ∙ ap (λ r. negsuc r) back

pub number_comes_back : NumberComesBack
number_comes_back width (pos n) positive above below = reading_of_modulo width (pos n) positive (omega (arith, ints))
number_comes_back width (negsuc n) positive above below = reading_of_modulo width (negsuc n) positive (omega (arith, ints))

pub trunc_undoes_zext : TruncUndoesZext
unfolding op_value
trunc_undoes_zext width wide number fits = mod-eq_of_lt fits

-- the low bits of a number modulo a higher power
modulo_of_modulo : (width wide : ℕ) (whole : ℤ) → width ≤ wide → modulo wide whole % 2 ^ width ≡ modulo width whole
modulo_of_modulo width wide (pos n) below = mod_of_mod n width wide below
modulo_of_modulo width wide (negsuc n) below =
    let rest = n % 2 ^ wide in
    let splits = power_splits width wide below in
    let small : rest < 2 ^ (wide - width) * 2 ^ width = omega (arith, mod_below n (2 ^ wide) (pow_pos wide), splits) in
    let count : 2 ^ wide - 1 - rest ≡ 2 ^ (wide - width) * 2 ^ width - suc rest = omega (arith, splits) in
    ap (λ r. r % 2 ^ width) count ∙ complement_mod (2 ^ (wide - width)) (2 ^ width) rest (pow_pos width) small ∙ ap (λ r. 2 ^ width - 1 - r) (mod_of_mod n width wide below)

pub trunc_undoes_sext : TruncUndoesSext
unfolding op_value
trunc_undoes_sext width wide number positive below fits = modulo_of_modulo width wide (signed width number) below ∙ reading_comes_back width number positive fits

pub sext_keeps_reading : SextKeepsReading
unfolding op_value
sext_keeps_reading width wide number positive below fits =
    reading_of_modulo wide (signed width number) (omega arith) (omega (arith, mag-signed width number positive fits, power_rises (width - 1) (wide - 1) (omega arith)))
