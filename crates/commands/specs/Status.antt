-- What each status is to whoever ran the program.
use Rattle.std.specs.Prelude.{ℕ, Bool, true, false, List, [], ◌++◌, take, Option, Some, None, codes, if◌then◌else◌}
use Rattle.std.specs.Fmt.{decimal}
use Rattle.std.specs.List.{flat_map}
use Rattle.gx_base.specs.Stream.{Told, Took}
use Rattle.dot_text.specs.Printing.{in_quotes}
use Rattle.port_types.specs.declared.side.Side.{Side}
use Rattle.port_types.specs.PortText.{port_name}
use Rattle.graph_read.specs.declared.fault.GraphFaultKind.{GraphFaultKind}
use Rattle.graph_read.specs.declared.fault.GraphFaultKind.TheVariants.{BadName, NameTaken, NoKind, UnknownKind, MemoryNode, MemoryPort, BadPorts, BadOp, BadValue, BadFun, BadTags, TooMany, UnknownNode, UnknownPort, PortTaken, ShapeDiffers, PortOpen}
use Rattle.commands.specs.declared.line.Piece.{Piece}
use Rattle.commands.specs.declared.line.Piece.TheVariants.{Text, Name, Number}
use Rattle.commands.specs.declared.refusal.Refusal.{Refusal}
use Rattle.commands.specs.declared.refusal.Refusal.TheVariants as refused
use Rattle.commands.specs.declared.status.Status.{Status}
use Rattle.commands.specs.declared.status.Status.TheVariants.{Done, Usage, NotYet, Refused, TooLong, ReadFault, WriteFault, NoMemory}

-- the exit status for an input that is refused
abbrev pub refusal_number : Refusal → ℕ
refusal_number (refused.Syntax at) = 2
refusal_number (refused.Graph refusal) = 3

-- the program's exit status
abbrev pub number_of : Status → ℕ
number_of Done = 0
number_of Usage = 1
number_of NotYet = 10
number_of (Refused refusal) = refusal_number refusal
number_of TooLong = 2
number_of ReadFault = 6
number_of WriteFault = 7
number_of NoMemory = 8

abbrev pub fault_word : GraphFaultKind → List ℕ
fault_word BadName = codes "BadName"
fault_word NameTaken = codes "NameTaken"
fault_word NoKind = codes "NoKind"
fault_word UnknownKind = codes "UnknownKind"
fault_word MemoryNode = codes "MemoryNode"
fault_word MemoryPort = codes "MemoryPort"
fault_word BadPorts = codes "BadPorts"
fault_word BadOp = codes "BadOp"
fault_word BadValue = codes "BadValue"
fault_word BadFun = codes "BadFun"
fault_word BadTags = codes "BadTags"
fault_word TooMany = codes "TooMany"
fault_word UnknownNode = codes "UnknownNode"
fault_word UnknownPort = codes "UnknownPort"
fault_word PortTaken = codes "PortTaken"
fault_word ShapeDiffers = codes "ShapeDiffers"
fault_word PortOpen = codes "PortOpen"

-- it is told of an edge
abbrev pub is_of_edge : GraphFaultKind → Bool
is_of_edge BadName = false
is_of_edge NameTaken = false
is_of_edge NoKind = false
is_of_edge UnknownKind = false
is_of_edge MemoryNode = false
is_of_edge MemoryPort = false
is_of_edge BadPorts = false
is_of_edge BadOp = false
is_of_edge BadValue = false
is_of_edge BadFun = false
is_of_edge BadTags = false
is_of_edge TooMany = false
is_of_edge UnknownNode = true
is_of_edge UnknownPort = true
is_of_edge PortTaken = true
is_of_edge ShapeDiffers = true
is_of_edge PortOpen = false

-- a port by its node and its own name, an edge by its place, or a node by its name; names are written as their bytes
abbrev pub graph_text : GraphFaultKind → ℕ → List ℕ → Option (Side × ℕ) → List ℕ
graph_text kind place name (Some port) = fault_word kind ++ codes " " ++ in_quotes name ++ codes " " ++ port_name port.0 port.1
graph_text kind place name None =
    if is_of_edge kind then codes "edge " ++ decimal place ++ codes ": " ++ fault_word kind
    else fault_word kind ++ codes " " ++ in_quotes name

-- the line of an input that is refused
abbrev pub refusal_line : Refusal → List ℕ
refusal_line (refused.Syntax at) = codes "graphiti: syntax at byte " ++ decimal at ++ codes "\n"
refusal_line (refused.Graph refusal) = codes "graphiti: " ++ graph_text refusal.kind refusal.place refusal.name refusal.port_open ++ codes "\n"

-- the line on the error stream
abbrev pub line_of : Status → List ℕ
line_of Done = []
line_of Usage = codes "graphiti: usage: print, strip, gather, unfold, rewrite, trace, loops, sim [LIMIT], check, gen N\n"
line_of NotYet = codes "graphiti: not yet\n"
line_of (Refused refusal) = refusal_line refusal
line_of TooLong = codes "graphiti: input longer than 16777216 bytes\n"
line_of ReadFault = codes "graphiti: read failed\n"
line_of WriteFault = codes "graphiti: write failed\n"
line_of NoMemory = codes "graphiti: no memory\n"

-- Lines in pieces

-- the name that a line tells
abbrev pub refusal_name : Refusal → List ℕ
refusal_name (refused.Syntax at) = []
refusal_name (refused.Graph refusal) = refusal.name

abbrev pub name_of : Status → List ℕ
name_of Done = []
name_of Usage = []
name_of NotYet = []
name_of (Refused refusal) = refusal_name refusal
name_of TooLong = []
name_of ReadFault = []
name_of WriteFault = []
name_of NoMemory = []

-- the bytes of a piece, in the line of a name
abbrev pub piece_bytes : List ℕ → Piece → List ℕ
piece_bytes name (Text text) = text.now
piece_bytes name Name = name
piece_bytes name (Number number) = decimal number

-- the bytes of pieces, one behind the other
abbrev pub bytes_of : List ℕ → List Piece → List ℕ
bytes_of name pieces = flat_map (piece_bytes name) pieces

-- a sink took a front of the line
pub record TookFront (line : List ℕ) (old new : Told) : Type 0 where
  pub count : ℕ
  pub took : Took (take count line) old new
