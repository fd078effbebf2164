-- Decimal numerals and their numbers.
use Rattle.std.proofs.Common.{◌≡◌, ◌≢◌, ◌∙◌, ◌==◌, ◌&&◌, not, ℕ, ◌+◌, ◌-◌, ◌*◌, ◌≤◌, ◌<◌, ◌^◌, suc, zero, List, [], ◌∷◌, length, get_or, take, Bool, true, false, cond, Option, Some, None, refl, sym, ap, subst, arith, rules}
use Rattle.std.specs.Char.{is_ascii_digit, digit_value}
use Rattle.std.specs.Int.{IsInRange}
use Rattle.std.specs.List.{list_all}
use Rattle.std.specs.Str.Parse.{digits_value}
use Rattle.std.specs.Fmt.{decimal}
use Rattle.std.proofs.lemmas.Bool.Decides.{nat_tests}
use Rattle.std.proofs.lemmas.Option.{none-some}
use Rattle.std.proofs.lemmas.Int.Digits.{digits_value_more}
use Rattle.std.proofs.lemmas.Str.Parse.{IsDigitsTest, IsNumeralModel, numerals_by_value, digit_at, digits_value-take-le}
use Rattle.std.proofs.lemmas.Fmt.{decimal_digit, digits_decimal, digits_value-decimal, decimal_nonempty, first_decimal, decimal-digits_value}
use Rattle.port_types.specs.Numeral.{is_numeral, in_word, numeral_value, NumeralsTellNumbers}
use Rattle.port_types.proofs.Numbers.{word_is, word_some}

abbrev pub AreDigits : List ℕ → Type 0
AreDigits ds = list_all is_ascii_digit ds ≡ true

are_digits : IsDigitsTest AreDigits
are_digits = search rules

pub own : IsNumeralModel AreDigits (digits_value 10)
own = numerals_by_value AreDigits are_digits

-- two bytes or more
pub numeral_of_more : (word : List ℕ) → 2 ≤ length word → is_numeral word ≡ not (get_or word 0 0 == 48) && list_all is_ascii_digit word
numeral_of_more [] more = absurd (omega arith)
numeral_of_more (x ∷ []) more = absurd (omega arith)
numeral_of_more (x ∷ y ∷ xs) more = refl

pub numeral_digits : (word : List ℕ) → is_numeral word ≡ true → AreDigits word
numeral_digits [] is = cc
numeral_digits (x ∷ []) is = grind (arith, nat_tests)
numeral_digits (x ∷ y ∷ xs) is = grind (arith, nat_tests)

pub numeral_nonempty : (word : List ℕ) → is_numeral word ≡ true → 0 < length word
numeral_nonempty [] is = absurd (cc)
numeral_nonempty (x ∷ xs) is = omega arith

numeral_no_zero : (word : List ℕ) → is_numeral word ≡ true → get_or word 0 0 ≡ 48 → length word ≡ 1
numeral_no_zero [] is first = cc
numeral_no_zero (x ∷ []) is first = refl
numeral_no_zero (x ∷ y ∷ xs) is first = grind (arith, nat_tests)

numeral_from : (word : List ℕ) → AreDigits word → 0 < length word → (get_or word 0 0 ≡ 48 → length word ≡ 1) → is_numeral word ≡ true
numeral_from [] digits some no_zero = absurd (omega arith)
numeral_from (x ∷ []) digits some no_zero = grind (arith, nat_tests)
numeral_from (x ∷ y ∷ xs) digits some no_zero = grind (arith, nat_tests)

one_digit : (n : ℕ) → n < 2 ^ 64 → get_or (decimal n) 0 0 ≡ 48 → length (decimal n) ≡ 1
one_digit zero small first = ap length (decimal_digit 0 (omega arith))
one_digit (suc m) small first = let positive = first_decimal (suc m) (omega arith) small in absurd (omega arith)

-- what is written in decimal is a numeral
pub numeral_of : (n : ℕ) → n < 2 ^ 64 → is_numeral (decimal n) ≡ true
numeral_of n small = numeral_from (decimal n) (digits_decimal own n small) (decimal_nonempty n small) (one_digit n small)

pub value_of : (n : ℕ) → n < 2 ^ 64 → digits_value 10 (decimal n) ≡ n
value_of n small = digits_value-decimal own n small

-- and a numeral is what is written in decimal for its number
pub written : (word : List ℕ) → is_numeral word ≡ true → digits_value 10 word < 2 ^ 64 → decimal (digits_value 10 word) ≡ word
written word is small = decimal-digits_value own word (numeral_digits word is) (numeral_nonempty word is) (numeral_no_zero word is) small

-- ---- the number of a numeral

value_by : (word : List ℕ) (n : ℕ) (is : Bool) → is_numeral word ≡ is → cond is (in_word (digits_value 10 word)) None ≡ Some n → (n < 2 ^ 64) × (word ≡ decimal n)
value_by word n false not_numeral some = absurd (none-some n some)
value_by word n true is some =
    let value = word_is (digits_value 10 word) n some in
    (value.1, sym (written word is (omega (arith, value))) ∙ ap decimal (sym value.0))

value_written : (n : ℕ) → n < 2 ^ 64 → numeral_value (decimal n) ≡ Some n
value_written n small =
    ap (λ (b : Bool). cond b (in_word (digits_value 10 (decimal n))) None) (numeral_of n small) ∙ sym (word_some (digits_value 10 (decimal n)) n (sym (value_of n small)) small)

pub numerals_tell_numbers : NumeralsTellNumbers
numerals_tell_numbers text n = (value_by text n (is_numeral text) refl, λ told. subst (λ word. numeral_value word ≡ Some n) (sym told.1) (value_written n told.0))

-- ---- numbers from 1 to 255

pub not_written : (text : List ℕ) (number : ℕ) → is_numeral text ≡ false → number < 2 ^ 8 → text ≢ decimal number
not_written text number not_numeral small is = let numeral = ap is_numeral is ∙ numeral_of number (omega arith) in absurd (cc)

pub too_great : (text : List ℕ) (number : ℕ) → 2 ^ 8 ≤ digits_value 10 text → number < 2 ^ 8 → text ≢ decimal number
too_great text number great small is = let value = ap (digits_value 10) is ∙ value_of number (omega arith) in absurd (omega arith)

pub not_zero : (text : List ℕ) (number : ℕ) → 0 ≡ digits_value 10 text → 1 ≤ number → number < 2 ^ 8 → text ≢ decimal number
not_zero text number zeros some small is = let value = ap (digits_value 10) is ∙ value_of number (omega arith) in absurd (omega arith)
