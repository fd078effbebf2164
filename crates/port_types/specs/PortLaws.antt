-- Laws of port texts: what is read is what is printed.
use Rattle.std.specs.Prelude.{◌≡◌, ◌↔◌, ℕ, ◌≤◌, ◌<◌, true, List, ◌++◌, length, map, Option, None, Ok, Err, All, IsTrue, codes}
use Rattle.std.specs.List.{join_with_byte, list_all}
use Rattle.std.specs.Str.Parse.{digits_value}
use Rattle.port_types.specs.declared.side.Side.{Side}
use Rattle.port_types.specs.declared.port.Port.{Port}
use Rattle.port_types.specs.declared.port.PortFault.TheVariants.{TooWide}
use Rattle.port_types.specs.Shape.{IsShape}
use Rattle.port_types.specs.PortText.{port_name, marker_text, marked_texts_from, marked_ports_text}
use Rattle.port_types.specs.Numeral.{is_numeral}
use Rattle.port_types.specs.PortGrammar.{is_marker_or_none, are_marked, words_of, port_reading, reading}

-- ports of the format: at most 64, with its markers, and with shapes
pub record ArePorts (ports : List Port) : Type 0 where
  pub few : length ports ≤ 64
  pub marked : IsTrue (are_marked ports)
  pub shapes : All (λ port. IsShape port.shape) ports

-- a text says these ports exactly where its words are their texts
abbrev pub ReadsPorts : Type 0
ReadsPorts = (side : Side) (text : List ℕ) (ports : List Port) →
    (reading side text ≡ Ok ports) ↔ ((words_of text ≡ marked_texts_from side 1 ports) × ArePorts ports)

-- the printed text of ports reads back
abbrev pub ReadsBack : Type 0
ReadsBack = (side : Side) (ports : List Port) → ArePorts ports → reading side (marked_ports_text side ports) ≡ Ok ports

-- a port word but for the bounds of its shape: numerals of any number, and any number of them
pub record IsUnbounded (side : Side) (number : ℕ) (word : List ℕ) : Type 0 where
  pub marker : Option ℕ
  pub fields : List (List ℕ)
  pub is : word ≡ port_name side number ++ marker_text marker ++ codes ":" ++ join_with_byte 46 fields
  pub marked : is_marker_or_none marker ≡ true
  pub some : 0 < length fields
  pub numerals : list_all is_numeral fields ≡ true
  pub past : ¬ (IsShape (map (digits_value 10) fields))

-- a word is too wide exactly where only these bounds keep it from being a port's
abbrev pub TooWideIsUnbounded : Type 0
TooWideIsUnbounded = (side : Side) (number : ℕ) (word : List ℕ) → (port_reading side number word ≡ Err TooWide) ↔ IsUnbounded side number word
