-- Numbers made digit by digit are those that words have bit by bit.
use Rattle.std.proofs.Common.{◌≡◌, ℕ, zero, suc, ◌+◌, ◌*◌, ◌/◌, ◌%◌, ◌^◌, ◌<◌, min, max, refl, ap, ◌∙◌, arith}
use Rattle.std.specs.Int.Bits.{bit_xor, differ, xor_step}
use Rattle.std.proofs.Math.Nat.{pow-suc}
use Rattle.std.proofs.lemmas.Nat.{div_below}
use Rattle.std.specs.Int.{bit_at}
use Rattle.std.proofs.lemmas.Nat.Bits.{bit_at_lowest, bit_at-suc}
use Rattle.op_table.specs.Value.{bit_by_bit, sum_digit, op_value}
use Rattle.op_table.specs.Laws.{BitByBit}

half_below : (width n : ℕ) → n < 2 ^ suc width → n / 2 < 2 ^ width
half_below width n below = div_below n 2 (2 ^ width) (omega arith) (omega (arith, pow-suc 2 width))

-- a function of numbers that takes a step for each digit
pub digits_by_steps : (digit combine : ℕ → ℕ → ℕ) → combine 0 0 ≡ 0 → ((a b : ℕ) → combine a b ≡ combine (a / 2) (b / 2) * 2 + digit (a % 2) (b % 2)) → (width a b : ℕ) → a < 2 ^ width → b < 2 ^ width → combine a b ≡ bit_by_bit digit width a b
unfolding bit_by_bit
digits_by_steps digit combine none step zero a b first second =
    let a_none : a ≡ 0 = omega arith in
    let b_none : b ≡ 0 = omega arith in
    rw (a_none, b_none) none
digits_by_steps digit combine none step (suc width) a b first second =
    let rest = digits_by_steps digit combine none step width (a / 2) (b / 2) (half_below width a first) (half_below width b second) in
    step a b ∙ (rw rest (omega arith))

differ_by_sum : (x y : ℕ) → x < 2 → y < 2 → differ x y ≡ sum_digit x y
differ_by_sum zero zero first second = refl
differ_by_sum zero (suc zero) first second = refl
differ_by_sum (suc zero) zero first second = refl
differ_by_sum (suc zero) (suc zero) first second = refl
differ_by_sum (suc (suc x)) y first second = absurd (omega arith)
differ_by_sum zero (suc (suc y)) first second = absurd (omega arith)
differ_by_sum (suc zero) (suc (suc y)) first second = absurd (omega arith)

-- the step of `bit_xor`
pub xor_by_sum : (a b : ℕ) → bit_xor a b ≡ bit_xor (a / 2) (b / 2) * 2 + sum_digit (a % 2) (b % 2)
xor_by_sum a b = xor_step a b ∙ ap (λ digit. bit_xor (a / 2) (b / 2) * 2 + digit) (differ_by_sum (a % 2) (b % 2) (omega arith) (omega arith))

-- the digits of a number made digit by digit
digit_at_place : (digit : ℕ → ℕ → ℕ) → ((x y : ℕ) → x < 2 → y < 2 → digit x y < 2) → (width a b place : ℕ) → place < width → bit_at (bit_by_bit digit width a b) place ≡ digit (bit_at a place) (bit_at b place)
unfolding bit_by_bit
digit_at_place digit binary zero a b place below = absurd (omega arith)
digit_at_place digit binary (suc width) a b zero below =
    let first = binary (a % 2) (b % 2) (omega arith) (omega arith) in
    let rest = bit_by_bit digit width (a / 2) (b / 2) in
    let last : (digit (a % 2) (b % 2) + 2 * rest) % 2 ≡ digit (a % 2) (b % 2) = omega (arith, first) in
    rw (bit_at_lowest (digit (a % 2) (b % 2) + 2 * rest), bit_at_lowest a, bit_at_lowest b) last
digit_at_place digit binary (suc width) a b (suc place) below =
    let first = binary (a % 2) (b % 2) (omega arith) (omega arith) in
    let rest = bit_by_bit digit width (a / 2) (b / 2) in
    let half : (digit (a % 2) (b % 2) + 2 * rest) / 2 ≡ rest = omega (arith, first) in
    rw (bit_at-suc (digit (a % 2) (b % 2) + 2 * rest) place, half, bit_at-suc a place, bit_at-suc b place) (digit_at_place digit binary width (a / 2) (b / 2) place (omega arith))

pub digits_by_place : BitByBit
unfolding op_value
digits_by_place width a b place below = (
  digit_at_place min (λ x y first second. omega arith) width a b place below,
  digit_at_place max (λ x y first second. omega arith) width a b place below,
  digit_at_place sum_digit (λ x y first second. omega arith) width a b place below,
)
