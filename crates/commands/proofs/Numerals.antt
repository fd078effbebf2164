-- Numbers of the command line.
use Rattle.std.proofs.Common.{◌≡◌, ◌&&◌, ℕ, ◌≤◌, ◌<◌, ◌^◌, List, Option, Some, None, Bool, true, false, cond, refl, ap, ◌∙◌, arith}
use Rattle.std.specs.Prelude.{nat_le}
use Rattle.std.specs.Fmt.{decimal}
use Rattle.std.proofs.lemmas.Bool.{leb-true}
use Rattle.std.proofs.lemmas.Bool.Decides.{nat_tests}
use Rattle.std.proofs.lemmas.Option.{none-some, same_Some}
use Rattle.port_types.specs.Numeral.{numeral_value, NumeralsTellNumbers}
use Rattle.commands.specs.Words.{within, number_in, TellsNumbers}

both_hold : (a b : Bool) → a && b ≡ true → (a ≡ true) × (b ≡ true)
both_hold true true is = (refl, refl)
both_hold true false is = grind arith
both_hold false b is = grind arith

by_test : (least most m n : ℕ) (test : Bool) → nat_le least m && nat_le m most ≡ test → cond test (Some m) None ≡ Some n → (m ≡ n) × (least ≤ n) × (n ≤ most)
by_test least most m n false e is = absurd (none-some n is)
by_test least most m n true e is =
    let same = same_Some m n is in
    let holds = both_hold (nat_le least m) (nat_le m most) e in
    let low = leb-true least m holds.0 in
    let high = leb-true m most holds.1 in
    (same, omega (arith, low, same), omega (arith, high, same))

found_within : (least most n : ℕ) (told : Option ℕ) → within least most told ≡ Some n → (told ≡ Some n) × (least ≤ n) × (n ≤ most)
found_within least most n None is = absurd (none-some n is)
found_within least most n (Some m) is = let all = by_test least most m n (nat_le least m && nat_le m most) refl is in (ap Some all.0, all.1, all.2)

in_range : (least most n : ℕ) → least ≤ n → n ≤ most → within least most (Some n) ≡ Some n
in_range least most n low high = let test : nat_le least n && nat_le n most ≡ true = grind (arith, nat_tests) in ap (λ b. cond b (Some n) None) test

module _ (tells : NumeralsTellNumbers) where
  to_decimal : (least most n : ℕ) (word : List ℕ) → number_in least most word ≡ Some n → (least ≤ n) × (n ≤ most) × (word ≡ decimal n)
  unfolding number_in
  to_decimal least most n word is =
      let found = found_within least most n (numeral_value word) is in (found.1, found.2, ((tells word n).0 found.0).1)

  from_decimal : (least most n : ℕ) (word : List ℕ) → most < 2 ^ 64 → (least ≤ n) × (n ≤ most) × (word ≡ decimal n) → number_in least most word ≡ Some n
  unfolding number_in
  from_decimal least most n word small (low, high, is) =
      let value : numeral_value word ≡ Some n = (tells word n).1 (omega (arith, small, high), is) in
      ap (within least most) value ∙ in_range least most n low high

  pub tells_numbers : TellsNumbers
  tells_numbers least most n word small = (to_decimal least most n word, from_decimal least most n word small)
