-- Numbers read as they are written.
use Rattle.std.proofs.Common.{◌≡◌, ◌==◌, ◌&&◌, ℕ, ◌<◌, ◌^◌, Bool, true, false, cond, List, [], ◌∷◌, ◌++◌, length, take, drop, Option, Some, None, decimal, refl, ap, ◌∙◌, arith, rules}
use Rattle.std.specs.Prelude.{bytes_eq, nat_le, codes}
use Rattle.std.specs.Char.{is_ascii_digit, is_ascii_hexdigit, digit_value}
use Rattle.std.specs.Fmt.{digits}
use Rattle.std.specs.List.{list_all}
use Rattle.std.specs.Str.Parse.{digits_value, AllDigits}
use Rattle.std.proofs.lemmas.Bool.{and_from, and_parts, le-leb, lt-ltb}
use Rattle.std.proofs.lemmas.Bool.Decides.{nat_tests}
use Rattle.std.proofs.lemmas.Fmt.{digits_decimal, digits_value-decimal, decimal_nonempty, digits_is_IsNumeral}
use Rattle.std.proofs.lemmas.Str.Parse.{IsDigitsTest, IsNumeralModel, numerals_by_value}
use Rattle.port_types.specs.Numeral.{in_word, digits_of, NumeralsTellNumbers}
use Rattle.port_types.specs.PortGrammar.{text_behind}
use Rattle.graph_read.specs.Attributes.{value_behind, tags_within}
use Rattle.graph_read.specs.Laws.{DecimalValues, HexadecimalValues, DecimalTags}

abbrev AreDigits : List ℕ → Type 0
AreDigits text = list_all is_ascii_digit text ≡ true

are_digits : IsDigitsTest AreDigits
are_digits = search rules

own : IsNumeralModel AreDigits (digits_value 10)
own = numerals_by_value AreDigits are_digits

-- ---- digits

digits_read : (is_digit : ℕ → Bool) (base number : ℕ) (text : List ℕ) → 0 < length text → list_all is_digit text ≡ true → digits_value base text ≡ number → number < 2 ^ 64 →
    digits_of is_digit base text ≡ Some number
digits_read is_digit base number text some all is small =
    ap (λ (b : Bool). cond b (in_word (digits_value base text)) None) (and_from (nat_le 1 (length text)) (list_all is_digit text) (le-leb 1 (length text) (omega arith)) all)
    ∙ ap in_word is ∙ ap (λ (b : Bool). cond b (Some number) None) (lt-ltb number (2 ^ 64) (omega arith))

not_both : (b : Bool) → (b && false) ≡ false
not_both true = refl
not_both false = refl

digit_other : (byte : ℕ) → is_ascii_digit byte ≡ true → (byte == 120) ≡ false
digit_other byte digit = grind (arith, nat_tests)

-- digits do not begin with `0x`
no_prefix : (text : List ℕ) → AreDigits text → bytes_eq (take 2 text) (codes "0x") ≡ false
no_prefix [] all = refl
no_prefix (x ∷ []) all = not_both (x == 48)
no_prefix (x ∷ y ∷ more) all =
    let tests = and_parts (is_ascii_digit x) (list_all is_ascii_digit (y ∷ more)) all in
    let second = and_parts (is_ascii_digit y) (list_all is_ascii_digit more) tests.1 in
    ap (λ (b : Bool). (x == 48) && (b && true)) (digit_other y second.0) ∙ not_both (x == 48)

no_front : (text : List ℕ) → AreDigits text → text_behind (codes "0x") text ≡ None
unfolding text_behind
no_front text all = ap (λ (b : Bool). cond b (Some (drop 2 text)) None) (no_prefix text all)

pub decimal_values : DecimalValues
decimal_values number small =
    let all = digits_decimal own number small in
    ap (λ (o : Option (List ℕ)). value_behind o (decimal number)) (no_front (decimal number) all)
    ∙ digits_read is_ascii_digit 10 number (decimal number) (decimal_nonempty number small) all (digits_value-decimal own number small) small

hex_digit : (byte : ℕ) → digit_value byte < 16 → is_ascii_hexdigit byte ≡ true
hex_digit byte small = grind (arith, nat_tests)

hex_digits : (text : List ℕ) → AllDigits 16 text → list_all is_ascii_hexdigit text ≡ true
hex_digits [] all = refl
hex_digits (byte ∷ text) all = and_from (is_ascii_hexdigit byte) (list_all is_ascii_hexdigit text) (hex_digit byte all.0) (hex_digits text all.1)

after_front : (text : List ℕ) → text_behind (codes "0x") (codes "0x" ++ text) ≡ Some text
unfolding text_behind
after_front text = refl

pub hexadecimal_values : HexadecimalValues
hexadecimal_values number small =
    let text = digits 16 false number in
    let written = digits_is_IsNumeral 16 false (omega arith) (omega arith) number (omega arith) in
    ap (λ (o : Option (List ℕ)). value_behind o (codes "0x" ++ text)) (after_front text)
    ∙ digits_read is_ascii_hexdigit 16 number text written.0.0 (hex_digits text written.0.1) written.1 small

-- ---- numbers of tags

pub decimal_tags : NumeralsTellNumbers → DecimalTags
decimal_tags numerals tags some few =
    ap tags_within ((numerals (decimal tags) tags).1 (omega arith, refl))
    ∙ ap (λ (b : Bool). cond b (Some tags) None) (and_from (nat_le 1 tags) (nat_le tags 256) (le-leb 1 tags some) (le-leb tags 256 few))
