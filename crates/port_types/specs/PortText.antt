-- The texts of shapes and of the ports of a node's side.
use Rattle.std.specs.Prelude.{ℕ, ◌+◌, List, [], ◌∷◌, ◌++◌, map, Option, Some, None, codes}
use Rattle.std.specs.Fmt.{decimal}
use Rattle.std.specs.List.{join_with_byte}
use Rattle.port_types.specs.declared.port.Port.{Port}
use Rattle.port_types.specs.declared.side.Side.{Side}
use Rattle.port_types.specs.declared.side.Side.TheVariants.{Ins, Outs}

-- the widths in decimal, joined by dots
abbrev pub shape_text : List ℕ → List ℕ
shape_text widths = join_with_byte 46 (map decimal widths)

-- `in` or `out`
abbrev pub side_word : Side → List ℕ
side_word Ins = codes "in"
side_word Outs = codes "out"

-- the word of a side and the number of a port, as `out2`
abbrev pub port_name : Side → ℕ → List ℕ
port_name side number = side_word side ++ decimal number

abbrev pub marker_text : Option ℕ → List ℕ
marker_text None = []
marker_text (Some marker) = marker ∷ []

-- a port with its marker, if it has one, and its shape, as `in1?:1`
abbrev pub marked_text : Side → ℕ → Port → List ℕ
marked_text side number port = port_name side number ++ marker_text port.marker ++ codes ":" ++ shape_text port.shape

-- the texts of the ports from this number on
abbrev pub marked_texts_from : Side → ℕ → List Port → List (List ℕ)
marked_texts_from side number [] = []
marked_texts_from side number (port ∷ ports) = marked_text side number port ∷ marked_texts_from side (number + 1) ports

-- the ports of a side joined by spaces
abbrev pub marked_ports_text : Side → List Port → List ℕ
marked_ports_text side ports = join_with_byte 32 (marked_texts_from side 1 ports)
