-- Signed readings, and their quotients.
use Rattle.std.proofs.Common.{◌≡◌, ℕ, zero, suc, ◌-◌, ◌/◌, ◌^◌, ◌<◌, ◌≤◌, ℤ, pos, negsuc, neg_ℤ, ◌-ℤ◌, int_div, inl, inr, arith}
use Rattle.std.proofs.Math.Nat.{div-le_self}
use Rattle.std.proofs.lemmas.Bool.{cases_lt}
use Rattle.std.proofs.lemmas.Int.{ints}
use Rattle.std.specs.Int.Signed.{mag}
use Rattle.op_table.specs.Value.{signed}
use Rattle.op_table.proofs.Bits.{power_doubles}

-- below half of the power, the reading is the number
pub signed-low : (width number : ℕ) → number < 2 ^ (width - 1) → signed width number ≡ pos number
signed-low width number low = grind arith

-- from half of the power on, the reading is the number less the power
pub signed-high : (width number : ℕ) → 2 ^ (width - 1) ≤ number → number < 2 ^ width → signed width number ≡ negsuc (2 ^ width - 1 - number)
signed-high width number high fits =
    let whole : pos number -ℤ pos (2 ^ width) ≡ negsuc (2 ^ width - 1 - number) = omega (arith, ints) in
    grind (arith, whole)

-- a signed reading lies from -(2 ^ (width - 1)) to 2 ^ (width - 1) - 1
pub mag-signed : (width number : ℕ) → 1 ≤ width → number < 2 ^ width → mag (signed width number) < 2 ^ (width - 1)
mag-signed width number positive fits =
    elim (cases_lt number (2 ^ (width - 1))) [
      | inl low ↦ rw (signed-low width number low) low
      | inr high ↦ rw (signed-high width number high fits) (omega (arith, power_doubles width positive))
    ]

pub mag-neg : (n : ℕ) → mag (neg_ℤ (pos n)) ≤ n
mag-neg zero = omega arith
mag-neg (suc n) = omega arith

-- a quotient lies hardly further from 0 than the dividend
pub mag-int_div : (whole divisor : ℤ) → mag (int_div whole divisor) ≤ suc (mag whole)
mag-int_div (pos a) (pos b) = omega (arith, div-le_self a b)
mag-int_div (pos a) (negsuc b) = omega (arith, mag-neg (a / suc b), div-le_self a (suc b))
mag-int_div (negsuc a) (pos b) = omega (arith, mag-neg (suc a / b), div-le_self (suc a) b)
mag-int_div (negsuc a) (negsuc b) = div-le_self (suc a) (suc b)
