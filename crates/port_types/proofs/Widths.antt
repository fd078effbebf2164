-- Numbers against the widths of fields.
use Rattle.std.proofs.Common.{◌≡◌, ℕ, ◌*◌, ◌/◌, ◌^◌, ◌<◌, ◌↔◌, List, [], ◌∷◌, length, nat_eq, nat_lt, IsTrue, Bool, refl, arith, rules, tests}
use Rattle.std.specs.List.{zip, list_all}
use Rattle.std.proofs.Math.Nat.{div-lt_iff_lt-mul}
use Rattle.std.proofs.lemmas.Nat.{pow_pos}
use Rattle.port_types.specs.Token.{Fits}

-- no bit is left above the width where the number is below 2 to the power of the width
pub shifted_out : (number width : ℕ) → IsTrue (nat_eq (number / 2 ^ width) 0) ↔ (number < 2 ^ width)
shifted_out number width =
    let below : (number / 2 ^ width < 1) ↔ (number < 1 * 2 ^ width) = div-lt_iff_lt-mul (pow_pos width) in
    grind (arith, tests, below.0, below.1)

-- whether the number of a pair is below 2 to the power of its width
abbrev pub pair_fits : ℕ × ℕ → Bool
pair_fits pair = nat_lt pair.1 (2 ^ pair.0)

-- lists of one length fit where each pair does
pub pairs_fit : (widths numbers : List ℕ) → length widths ≡ length numbers → IsTrue (list_all pair_fits (zip widths numbers)) ↔ Fits widths numbers
pairs_fit [] [] same = (λ _. tt, λ _. refl)
pairs_fit [] (number ∷ numbers) same = absurd (omega arith)
pairs_fit (width ∷ widths) [] same = absurd (omega arith)
pairs_fit (width ∷ widths) (number ∷ numbers) same =
    let rest = pairs_fit widths numbers (omega arith) in
    (λ e. search (rules, tests, rest.0), λ f. search (rules, tests, rest.1))

-- lists that fit have one length
pub length-fits : (widths numbers : List ℕ) → Fits widths numbers → length widths ≡ length numbers
length-fits [] [] fits = refl
length-fits [] (number ∷ numbers) fits = absurd fits
length-fits (width ∷ widths) [] fits = absurd fits
length-fits (width ∷ widths) (number ∷ numbers) fits = omega (arith, length-fits widths numbers fits.1)
