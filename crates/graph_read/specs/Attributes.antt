-- The attributes of a statement: the last pair of a key counts.
use Rattle.std.specs.Prelude.{ℕ, ◌&&◌, nat_le, List, [], ◌∷◌, Option, Some, None, bytes_eq, codes, if◌then◌else◌}
use Rattle.std.specs.Option.{option_or}
use Rattle.std.specs.Char.{is_ascii_digit, is_ascii_hexdigit}
use Rattle.port_types.specs.Numeral.{digits_of, numeral_value}
use Rattle.port_types.specs.PortGrammar.{text_behind}

abbrev pub Pair : Type 0
Pair = List ℕ × List ℕ

-- the value of the last pair with this key
abbrev pub last_value : List ℕ → List Pair → Option (List ℕ)
last_value key [] = None
last_value key (pair ∷ pairs) = option_or (last_value key pairs) (if bytes_eq pair.0 key then Some pair.1 else None)

abbrev pub value_behind : Option (List ℕ) → List ℕ → Option ℕ
value_behind None text = digits_of is_ascii_digit 10 text
value_behind (Some digits) text = digits_of is_ascii_hexdigit 16 digits

-- a `value`: decimal digits, or `0x` and hexadecimal digits of either case, below 2 ^ 64; leading zeros are allowed
abbrev pub value_of : List ℕ → Option ℕ
value_of text = value_behind (text_behind (codes "0x") text) text

abbrev pub tags_within : Option ℕ → Option ℕ
tags_within None = None
tags_within (Some tags) = if nat_le 1 tags && nat_le tags 256 then Some tags else None

-- a number of tags: decimal from 1 to 256, without leading zeros
abbrev pub tags_of : List ℕ → Option ℕ
tags_of text = tags_within (numeral_value text)
