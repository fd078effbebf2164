-- A Tagger with an Entry or an Exit at each of its ports, in which the definitions can be tried out.
use Rattle.std.specs.Prelude.{ℕ, List, [], ◌∷◌, codes}
use Rattle.components.specs.declared.kind.Kind.TheVariants.{Entry, Exit, Tagger}
use Rattle.components.specs.Name.{Name, Port}
use Rattle.components.specs.Kind.{Shape, tagged}
use Rattle.components.specs.NamedGraph.{NamedGraph}
use Rattle.circuits.specs.Buffers.{first_port}
use Rattle.circuit_examples.specs.Listed.{ListedNode, ListedWire, listed}

-- the second port of a side
abbrev pub second_port : Name → Port
second_port n = record { node = n; port = 2 }

-- where tokens come in and get tags, where they go to be worked on, where their results come back, and where the results leave
abbrev pub fresh : Name
fresh = codes "fresh"

abbrev pub work : Name
work = codes "work"

abbrev pub back : Name
back = codes "back"

abbrev pub results : Name
results = codes "results"

abbrev pub tagger : Name
tagger = codes "tagger"

abbrev pub tagger_nodes : Shape → ℕ → List ListedNode
tagger_nodes shape tags =
    record { name = fresh; kind = Entry shape } ∷
    record { name = work; kind = Exit (tagged tags shape) } ∷
    record { name = back; kind = Entry (tagged tags shape) } ∷
    record { name = results; kind = Exit shape } ∷
    record { name = tagger; kind = Tagger shape tags } ∷ []

abbrev pub tagger_wires : List ListedWire
tagger_wires =
    record { source = first_port fresh; target = first_port tagger } ∷
    record { source = first_port tagger; target = first_port work } ∷
    record { source = first_port back; target = second_port tagger } ∷
    record { source = second_port tagger; target = first_port results } ∷ []

abbrev pub lone_tagger : Shape → ℕ → NamedGraph
lone_tagger shape tags = listed (tagger_nodes shape tags) tagger_wires
