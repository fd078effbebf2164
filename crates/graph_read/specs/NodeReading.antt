-- The node of a statement, or the first thing that is wrong with it.
use Rattle.std.specs.Prelude.{ℕ, Bool, false, not, ◌&&◌, ◌||◌, ◌==◌, nat_le, List, [], length, map, Option, Some, None, Result, Ok, Err, bytes_eq, codes, if◌then◌else◌}
use Rattle.std.specs.List.{list_all, list_any}
use Rattle.port_types.specs.declared.port.Port.{Port}
use Rattle.port_types.specs.declared.port.PortFault.{PortFault}
use Rattle.port_types.specs.declared.side.Side.{Side}
use Rattle.port_types.specs.declared.side.Side.TheVariants.{Ins, Outs}
use Rattle.port_types.specs.PortText.{side_word}
use Rattle.port_types.specs.PortGrammar.{reading}
use Rattle.dot_text.specs.declared.doc.DocNode.{DocNode}
use Rattle.components.specs.Kind.{Shape}
use Rattle.components.specs.Name.{Name}
use Rattle.components.specs.Node.{Body, kept_of}
use Rattle.components.specs.declared.component.Component.{Component}
use Rattle.graph_read.specs.declared.fault.GraphFaultKind.{GraphFaultKind}
use Rattle.graph_read.specs.declared.fault.GraphFaultKind.TheVariants.{BadName, NameTaken, NoKind, UnknownKind, MemoryNode, MemoryPort, BadPorts, TooMany}
use Rattle.graph_read.specs.Attributes.{Pair, last_value}
use Rattle.components.specs.Component.{component_of}
use Rattle.graph_read.specs.Rows.{Reading, row_reading}

-- a node of a memory, which this format leaves out
abbrev pub is_memory : List ℕ → Bool
is_memory word = bytes_eq word (codes "MC") || bytes_eq word (codes "LSQ")

-- the text holds `*`, as a word for a port to a memory does
abbrev pub has_star : Option (List ℕ) → Bool
has_star None = false
has_star (Some text) = list_any (λ byte. byte == 42) text

-- the shapes of the ports; markers are ignored
abbrev pub shapes_in : Result (List Port) PortFault → Result (List Shape) GraphFaultKind
shapes_in (Err fault) = Err BadPorts
shapes_in (Ok ports) = Ok (map (λ port. port.shape) ports)

-- no ports where there is no text
abbrev pub text_reading : Side → Option (List ℕ) → Result (List Shape) GraphFaultKind
text_reading side None = Ok []
text_reading side (Some text) = shapes_in (reading side text)

-- the shapes of the ports of a side
abbrev pub side_reading : Side → List Pair → Result (List Shape) GraphFaultKind
side_reading side pairs = text_reading side (last_value (side_word side) pairs)

abbrev pub ports_reading : Component → Result (List Shape) GraphFaultKind → Result (List Shape) GraphFaultKind → List Pair → Reading
ports_reading component (Err fault) outs pairs = Err fault
ports_reading component (Ok ins) (Err fault) pairs = Err fault
ports_reading component (Ok ins) (Ok outs) pairs = row_reading component ins outs pairs

-- the kind of a component
abbrev pub component_reading : Component → List Pair → Reading
component_reading component pairs =
    if has_star (last_value (side_word Ins) pairs) || has_star (last_value (side_word Outs) pairs) then Err MemoryPort
    else ports_reading component (side_reading Ins pairs) (side_reading Outs pairs) pairs

abbrev pub named_reading : List ℕ → Option Component → List Pair → Reading
named_reading word None pairs = if is_memory word then Err MemoryNode else Err UnknownKind
named_reading word (Some component) pairs = component_reading component pairs

abbrev pub word_reading : Option (List ℕ) → List Pair → Reading
word_reading None pairs = Err NoKind
word_reading (Some word) pairs = named_reading word (component_of word) pairs

-- the kind that the pairs of a node say
abbrev pub kind_reading : List Pair → Reading
kind_reading pairs = word_reading (last_value (codes "type") pairs) pairs

-- no blank or other byte below 33, no double quote and no backslash
abbrev pub is_name_byte : ℕ → Bool
is_name_byte byte = nat_le 33 byte && not (byte == 34) && not (byte == 92)

-- a node may be called so
abbrev pub is_name : Name → Bool
is_name name = nat_le 1 (length name) && nat_le (length name) 255 && list_all is_name_byte name

abbrev pub NodeReading : Type 0
NodeReading = Result Body GraphFaultKind

-- the body of a node: its kind and what it keeps
abbrev pub with_kept : List Pair → Reading → NodeReading
with_kept pairs (Err fault) = Err fault
with_kept pairs (Ok kind) = Ok (record { kind = kind; kept = kept_of kind pairs })

-- what the pairs of a node say
abbrev pub body_reading : List Pair → NodeReading
body_reading pairs = with_kept pairs (kind_reading pairs)

-- at most 65,536 nodes are read
abbrev pub within_limit : ℕ → NodeReading → NodeReading
within_limit place (Err fault) = Err fault
within_limit place (Ok body) = if nat_le place 65536 then Ok body else Err TooMany

-- the node of the statement at this place, counted from 1, behind nodes of these names
abbrev pub node_reading : List Name → ℕ → DocNode → NodeReading
node_reading earlier place node =
    if not (is_name node.name) then Err BadName
    else (if list_any (bytes_eq node.name) earlier then Err NameTaken
    else within_limit place (body_reading node.pairs))
