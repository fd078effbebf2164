-- Reading the ports of a side: the words of a text, what each word says, and the first that says no port.
use Rattle.std.specs.Prelude.{ℕ, ◌+◌, ◌≡◌, ◌≢◌, Bool, true, false, not, ◌==◌, ◌&&◌, ◌||◌, nat_le, nat_lt, List, [], ◌∷◌, length, map, filter, take, drop, Option, Some, None, Result, Ok, Err, bytes_eq, if◌then◌else◌}
use Rattle.std.specs.List.{list_all, list_any, slice_split}
use Rattle.std.specs.Str.Parse.{digits_value}
use Rattle.port_types.specs.declared.side.Side.{Side}
use Rattle.port_types.specs.declared.port.Port.{Port}
use Rattle.port_types.specs.declared.port.PortFault.{PortFault}
use Rattle.port_types.specs.declared.port.PortFault.TheVariants.{MemoryPort, TooManyPorts, TooWide, BadPort, NoMemory}
use Rattle.port_types.specs.Numeral.{is_numeral}
use Rattle.port_types.specs.PortText.{port_name}

-- The words

-- a space or a tab
abbrev pub is_blank : ℕ → Bool
is_blank byte = byte == 32 || byte == 9

-- it is not empty
abbrev pub is_word : List ℕ → Bool
is_word part = not (length part == 0)

-- the words of a text: what stands between blanks and is not empty
abbrev pub words_of : List ℕ → List (List ℕ)
words_of text = filter is_word (slice_split is_blank text)

-- A shape

-- 1 to 128 widths, each from 0 to 64
unfoldable pub is_shape : List ℕ → Bool
is_shape widths = nat_le 1 (length widths) && nat_le (length widths) 128 && list_all (λ width. nat_le width 64) widths

-- the widths, where they are a shape's
abbrev pub shape_within : List ℕ → Result (List ℕ) PortFault
shape_within widths = if is_shape widths then Ok widths else Err TooWide

-- the fields of the text of a shape: what stands between dots
abbrev pub fields_of : List ℕ → List (List ℕ)
fields_of text = slice_split (λ byte. byte == 46) text

-- numerals joined by dots, whose numbers are a shape's
unfoldable pub shape_reading : List ℕ → Result (List ℕ) PortFault
shape_reading text = if list_all is_numeral (fields_of text) then shape_within (map (digits_value 10) (fields_of text)) else Err BadPort

-- A port, from behind to front

-- `?`, `+` or `-`
abbrev pub is_marker : ℕ → Bool
is_marker byte = byte == 63 || byte == 43 || byte == 45

abbrev pub is_marker_or_none : Option ℕ → Bool
is_marker_or_none None = true
is_marker_or_none (Some byte) = is_marker byte

-- each port has no marker or one of these
abbrev pub are_marked : List Port → Bool
are_marked ports = list_all (λ port. is_marker_or_none port.marker) ports

abbrev pub with_marker : Option ℕ → Result (List ℕ) PortFault → Result Port PortFault
with_marker marker (Ok shape) = Ok (record { marker = marker; shape = shape })
with_marker marker (Err fault) = Err fault

-- a colon and a shape
abbrev pub behind_marker : Option ℕ → List ℕ → Result Port PortFault
behind_marker marker [] = Err BadPort
behind_marker marker (byte ∷ text) = if byte == 58 then with_marker marker (shape_reading text) else Err BadPort

-- a marker or none, a colon and a shape
unfoldable pub behind_name : List ℕ → Result Port PortFault
behind_name [] = Err BadPort
behind_name (byte ∷ text) = if is_marker byte then behind_marker (Some byte) text else behind_marker None (byte ∷ text)

-- what stands behind these bytes, where the text begins with them
unfoldable pub text_behind : List ℕ → List ℕ → Option (List ℕ)
text_behind front text = if bytes_eq (take (length front) text) front then Some (drop (length front) text) else None

abbrev pub behind_found : Option (List ℕ) → Result Port PortFault
behind_found None = Err BadPort
behind_found (Some text) = behind_name text

-- the name of the port of this number, and what has to stand behind it
unfoldable pub port_reading : Side → ℕ → List ℕ → Result Port PortFault
port_reading side number word = behind_found (text_behind (port_name side number) word)

-- The words in order

-- what the word of this number says; `*` marks a memory port
unfoldable pub word_reading : Side → ℕ → List ℕ → Result Port PortFault
word_reading side number word =
    if list_any (λ byte. byte == 42) word then Err MemoryPort
    else (if nat_lt 64 number then Err TooManyPorts
    else port_reading side number word)

abbrev pub then_ports : Result Port PortFault → Result (List Port) PortFault → Result (List Port) PortFault
then_ports (Err fault) more = Err fault
then_ports (Ok port) (Err fault) = Err fault
then_ports (Ok port) (Ok ports) = Ok (port ∷ ports)

-- the ports that the words from this number on say, or the fault of the first that says none
abbrev pub words_reading : Side → ℕ → List (List ℕ) → Result (List Port) PortFault
words_reading side number [] = Ok []
words_reading side number (word ∷ words) = then_ports (word_reading side number word) (words_reading side (number + 1) words)

-- the ports of a side that a text says, or the fault of its first word that says none
abbrev pub reading : Side → List ℕ → Result (List Port) PortFault
reading side text = words_reading side 1 (words_of text)

-- this is the reading, unless memory ran out
abbrev pub IsReading : {A : Type 0} → Result A PortFault → Result A PortFault → Type 0
IsReading read (Ok value) = read ≡ Ok value
IsReading read (Err fault) = fault ≢ NoMemory → read ≡ Err fault
