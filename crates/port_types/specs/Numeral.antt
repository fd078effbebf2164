-- Numbers that digits write.
use Rattle.std.specs.Prelude.{◌≡◌, ◌↔◌, ℕ, ◌<◌, ◌^◌, ◌==◌, ◌&&◌, not, nat_le, nat_lt, Bool, false, List, [], ◌∷◌, length, Option, Some, None, if◌then◌else◌}
use Rattle.std.specs.Char.{is_ascii_digit}
use Rattle.std.specs.List.{list_all}
use Rattle.std.specs.Str.Parse.{digits_value}
use Rattle.std.specs.Fmt.{decimal}

-- a decimal numeral: digits alone, and no zero before another digit
abbrev pub is_numeral : List ℕ → Bool
is_numeral [] = false
is_numeral (digit ∷ []) = is_ascii_digit digit
is_numeral (first ∷ second ∷ more) = not (first == 48) && list_all is_ascii_digit (first ∷ second ∷ more)

-- the number, where it is below 2 ^ 64
abbrev pub in_word : ℕ → Option ℕ
in_word number = if nat_lt number (2 ^ 64) then Some number else None

-- the number below 2 ^ 64 that digits of this base write, at least one; leading zeros are allowed
abbrev pub digits_of : (ℕ → Bool) → ℕ → List ℕ → Option ℕ
digits_of is_digit base digits = if nat_le 1 (length digits) && list_all is_digit digits then in_word (digits_value base digits) else None

-- the number below 2 ^ 64 that a decimal numeral writes
abbrev pub numeral_value : List ℕ → Option ℕ
numeral_value text = if is_numeral text then in_word (digits_value 10 text) else None

-- a number below 2 ^ 64 has one numeral, which is what is printed in decimal for it
abbrev pub NumeralsTellNumbers : Type 0
NumeralsTellNumbers = (text : List ℕ) (n : ℕ) → (numeral_value text ≡ Some n) ↔ ((n < 2 ^ 64) × (text ≡ decimal n))
