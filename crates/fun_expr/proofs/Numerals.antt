-- What is written in decimal is a numeral.
use Rattle.std.proofs.Common.{◌≡◌, ℕ, ◌<◌, ◌^◌, suc, zero, List, [], ◌∷◌, length, get_or, true, ap, arith, rules}
use Rattle.std.specs.Char.{is_ascii_digit}
use Rattle.std.specs.List.{list_all}
use Rattle.std.specs.Str.Parse.{digits_value}
use Rattle.std.specs.Fmt.{decimal}
use Rattle.std.proofs.lemmas.Bool.Decides.{nat_tests}
use Rattle.std.proofs.lemmas.Str.Parse.{IsDigitsTest, IsNumeralModel, numerals_by_value}
use Rattle.std.proofs.lemmas.Fmt.{decimal_digit, digits_decimal, digits_value-decimal, decimal_nonempty, first_decimal}
use Rattle.port_types.specs.Numeral.{is_numeral}
use Rattle.fun_expr.specs.FunGrammar.{Numeral}

abbrev AreDigits : List ℕ → Type 0
AreDigits ds = list_all is_ascii_digit ds ≡ true

are_digits : IsDigitsTest AreDigits
are_digits = search rules

own : IsNumeralModel AreDigits (digits_value 10)
own = numerals_by_value AreDigits are_digits

numeral_from : (word : List ℕ) → AreDigits word → 0 < length word → (get_or word 0 0 ≡ 48 → length word ≡ 1) → is_numeral word ≡ true
numeral_from [] digits some no_zero = absurd (omega arith)
numeral_from (x ∷ []) digits some no_zero = grind (arith, nat_tests)
numeral_from (x ∷ y ∷ xs) digits some no_zero = grind (arith, nat_tests)

one_digit : (n : ℕ) → n < 2 ^ 64 → get_or (decimal n) 0 0 ≡ 48 → length (decimal n) ≡ 1
one_digit zero small first = ap length (decimal_digit 0 (omega arith))
one_digit (suc m) small first = let positive = first_decimal (suc m) (omega arith) small in absurd (omega arith)

pub numeral : (n : ℕ) → n < 2 ^ 64 → Numeral (decimal n) n
numeral n small = record {
  is = numeral_from (decimal n) (digits_decimal own n small) (decimal_nonempty n small) (one_digit n small);
  value = digits_value-decimal own n small;
}
