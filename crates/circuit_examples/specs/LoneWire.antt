-- The smallest graph with a wire, in which the definitions can be tried out.
use Rattle.std.specs.Prelude.{List, [], ◌∷◌, codes}
use Rattle.components.specs.declared.kind.Kind.TheVariants.{Entry, Exit}
use Rattle.components.specs.Name.{Name}
use Rattle.components.specs.Kind.{Shape}
use Rattle.components.specs.NamedGraph.{NamedGraph}
use Rattle.circuits.specs.Buffers.{first_port}
use Rattle.circuit_examples.specs.Listed.{ListedNode, ListedWire, listed}

-- the names of its two nodes
abbrev pub entry_name : Name
entry_name = codes "in"

abbrev pub exit_name : Name
exit_name = codes "out"

abbrev pub wire_nodes : Shape → List ListedNode
wire_nodes shape =
    record { name = entry_name; kind = Entry shape } ∷
    record { name = exit_name; kind = Exit shape } ∷ []

abbrev pub wire_wires : List ListedWire
wire_wires = record { source = first_port entry_name; target = first_port exit_name } ∷ []

-- an Entry that is wired to an Exit
abbrev pub lone_wire : Shape → NamedGraph
lone_wire shape = listed (wire_nodes shape) wire_wires
