-- The wires of a graph as the printer finds them: for each node by name, those into its inputs by number.
use Rattle.std.specs.Prelude.{ℕ, ◌+◌, List, [], ◌∷◌, ◌++◌, Option, Some, None}
use Rattle.std.specs.FinMap as map
use Rattle.components.specs.Name.{Name, Port}
use Rattle.components.specs.Kind.{Shape, ins}
use Rattle.components.specs.Node.{Body}
use Rattle.components.specs.NamedGraph.{NamedGraph}

-- the wire into a port, where it stands on one
abbrev pub wire_of : Port → Option Port → List (Port × Port)
wire_of target None = []
wire_of target (Some source) = (target, source) ∷ []

abbrev pub wires_from : NamedGraph → Name → ℕ → List Shape → List (Port × Port)
wires_from g name number [] = []
wires_from g name number (shape ∷ shapes) =
    let target : Port = record { node = name; port = number } in
    wire_of target (map.get g.feeders target) ++ wires_from g name (number + 1) shapes

-- the wires into a node, each as its input and its output
abbrev pub wires_into : NamedGraph → Name × Body → List (Port × Port)
wires_into g node = wires_from g node.0 1 (ins node.1.kind)
