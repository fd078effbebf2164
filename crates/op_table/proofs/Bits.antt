-- The low bits of words, and whole numbers modulo a power of two.
use Rattle.std.proofs.Common.{◌≡◌, ℕ, suc, ◌+◌, ◌-◌, ◌*◌, ◌/◌, ◌%◌, ◌^◌, ◌<◌, ◌≤◌, ℤ, pos, negsuc, ◌-ℤ◌, refl, sym, ap, ◌∙◌, inl, inr, arith}
use Rattle.std.proofs.Math.Nat.{add-mul, mod-mod_of_dvd, dvd-mul_left, add-mul-mod_self_right, pow-le-pow_right}
use Rattle.std.proofs.lemmas.Bool.{cases_lt}
use Rattle.std.proofs.lemmas.Int.{ints, of_z-to_z}
use Rattle.std.proofs.lemmas.Nat.{pow_pos, pow-add, div_below, mod-mul-add, mod_below, div-add-mod'}
use Rattle.std.proofs.lemmas.Nat.Bits.{ones_shr}
use Rattle.std.specs.Int.{w64, cast_unsigned, cast_signed}
use Rattle.std.specs.Int.Signed.{mag}
use Rattle.op_table.specs.Value.{modulo}

-- all ones of 64 bits, without the bits above the width
pub ones_of_width : (width : ℕ) → width ≤ 64 → (2 ^ 64 - 1) / 2 ^ (64 - width) ≡ 2 ^ width - 1
ones_of_width width narrow =
    let back : 64 - (64 - width) ≡ width = omega arith in
    ones_shr 64 (64 - width) (omega arith) ∙ ap (λ n. 2 ^ n - 1) back

-- counted down from a multiple of k, the remainder by k is counted down too
pub complement_mod : (m k n : ℕ) → 0 < k → n < m * k → (m * k - suc n) % k ≡ k - 1 - n % k
complement_mod m k n positive below =
    let inside : n / k < m = div_below n k m positive below in
    let left : m ≡ n / k + (1 + (m - 1 - n / k)) = omega arith in
    let product : m * k ≡ n / k * k + (1 + (m - 1 - n / k)) * k = ap (λ a. a * k) left ∙ add-mul (n / k) (1 + (m - 1 - n / k)) k in
    let product' : (1 + (m - 1 - n / k)) * k ≡ 1 * k + (m - 1 - n / k) * k = add-mul 1 (m - 1 - n / k) k in
    let whole : n / k * k + n % k ≡ n = div-add-mod' n k in
    let rest : n % k < k = mod_below n k positive in
    let counted : m * k - suc n ≡ (m - 1 - n / k) * k + (k - 1 - n % k) = omega arith in
    ap (λ a. a % k) counted ∙ mod-mul-add (m - 1 - n / k) k (k - 1 - n % k) (omega arith)

-- a power of two as a multiple of a lower one
pub power_splits : (low high : ℕ) → low ≤ high → 2 ^ high ≡ 2 ^ (high - low) * 2 ^ low
power_splits low high below =
    let sum : high ≡ (high - low) + low = omega arith in
    ap (λ n. 2 ^ n) sum ∙ pow-add 2 (high - low) low

-- what is left of a remainder by a higher power of two
pub mod_of_mod : (n low high : ℕ) → low ≤ high → n % 2 ^ high % 2 ^ low ≡ n % 2 ^ low
mod_of_mod n low high below = ap (λ m. n % m % 2 ^ low) (power_splits low high below) ∙ mod-mod_of_dvd (2 ^ low) n (dvd-mul_left (2 ^ low) (2 ^ (high - low)))

-- the word of a whole number, and its low bits
pub cast_mod : (width : ℕ) (whole : ℤ) → width ≤ 64 → mag whole < 2 ^ 64 → cast_unsigned w64 whole % 2 ^ width ≡ modulo width whole
cast_mod width (pos n) narrow below = refl
cast_mod width (negsuc n) narrow below =
    let splits = power_splits width 64 narrow in
    ap (λ m. (m - suc n) % 2 ^ width) splits ∙ complement_mod (2 ^ (64 - width)) (2 ^ width) n (pow_pos width) (omega arith)

-- a higher power of two is no less
pub power_rises : (low high : ℕ) → low ≤ high → 2 ^ low ≤ 2 ^ high
power_rises low high below = pow-le-pow_right (omega arith) below

-- twice the power below
pub power_doubles : (width : ℕ) → 1 ≤ width → 2 ^ width ≡ 2 * 2 ^ (width - 1)
power_doubles width positive =
    let one : width - (width - 1) ≡ 1 = omega arith in
    power_splits (width - 1) width (omega arith) ∙ ap (λ n. 2 ^ n * 2 ^ (width - 1)) one

-- 2 ^ 64 more changes no low bit
add_multiple : (width n : ℕ) → width ≤ 64 → (n + 2 ^ 64) % 2 ^ width ≡ n % 2 ^ width
add_multiple width n narrow = ap (λ m. (n + m) % 2 ^ width) (power_splits width 64 narrow) ∙ add-mul-mod_self_right n (2 ^ (64 - width)) (2 ^ width)

-- the low bits of a difference that wraps at 64 bits
pub difference_mod : (width a b : ℕ) → width ≤ 64 → b < 2 ^ 64 → (a + (2 ^ 64 - b)) % 2 ^ width ≡ modulo width (pos a -ℤ pos b)
difference_mod width a b narrow fits =
    elim (cases_lt a b) [
      | inl less ↦
          let count : a + (2 ^ 64 - b) ≡ 2 ^ 64 - suc (b - a - 1) = omega arith in
          let whole : pos a -ℤ pos b ≡ negsuc (b - a - 1) = omega (arith, ints) in
          rw (count, whole) (cast_mod width (negsuc (b - a - 1)) narrow (omega arith))
      | inr least ↦
          let count : a + (2 ^ 64 - b) ≡ (a - b) + 2 ^ 64 = omega arith in
          let whole : pos a -ℤ pos b ≡ pos (a - b) = omega (arith, ints) in
          rw (count, whole) (add_multiple width (a - b) narrow)
    ]

word_fits : (whole : ℤ) → mag whole < 2 ^ 64 → cast_unsigned w64 whole < 2 ^ 64
word_fits (pos n) below = below
word_fits (negsuc n) below = omega arith

read_fits : (word : ℕ) → word < 2 ^ 64 → mag (cast_signed w64 word) < 2 ^ 64
read_fits word below = grind arith

-- wrapping to a signed word of 64 bits keeps the low bits
pub modulo-wrapped : (width : ℕ) (whole : ℤ) → width ≤ 64 → mag whole < 2 ^ 64 → modulo width (cast_signed w64 (cast_unsigned w64 whole)) ≡ modulo width whole
modulo-wrapped width whole narrow below =
    let word : ℕ = cast_unsigned w64 whole in
    let fits : word < 2 ^ 64 = word_fits whole below in
    let same : cast_unsigned w64 (cast_signed w64 word) ≡ word = of_z-to_z w64 word fits in
    sym (cast_mod width (cast_signed w64 word) narrow (read_fits word fits)) ∙ ap (λ n. n % 2 ^ width) same ∙ cast_mod width whole narrow below
