-- An Init between an Entry and a Buffer before an Exit, in which the definitions can be tried out.
use Rattle.std.specs.Prelude.{ℕ, List, [], ◌∷◌, codes}
use Rattle.components.specs.declared.kind.Kind.TheVariants.{Entry, Exit, Buffer, Init}
use Rattle.components.specs.Name.{Name}
use Rattle.components.specs.Kind.{field}
use Rattle.components.specs.NamedGraph.{NamedGraph}
use Rattle.circuits.specs.Buffers.{first_port}
use Rattle.circuit_examples.specs.Listed.{ListedNode, ListedWire, listed}

-- the names of its nodes
abbrev pub bits : Name
bits = codes "bits"

abbrev pub init : Name
init = codes "init"

abbrev pub passer : Name
passer = codes "passer"

abbrev pub out : Name
out = codes "out"

abbrev pub init_nodes : ℕ → ℕ → List ListedNode
init_nodes value mark =
    record { name = bits; kind = Entry (field 1) } ∷
    record { name = init; kind = Init value mark } ∷
    record { name = passer; kind = Buffer (field 1) } ∷
    record { name = out; kind = Exit (field 1) } ∷ []

abbrev pub init_wires : List ListedWire
init_wires =
    record { source = first_port bits; target = first_port init } ∷
    record { source = first_port init; target = first_port passer } ∷
    record { source = first_port passer; target = first_port out } ∷ []

-- its only led node is the Buffer
abbrev pub lone_init : ℕ → ℕ → NamedGraph
lone_init value mark = listed (init_nodes value mark) init_wires
