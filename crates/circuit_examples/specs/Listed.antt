-- Graphs that are listed, for trying out the definitions, and what is seen at their ports.
use Rattle.std.specs.Prelude.{List, [], ◌∷◌}
use Rattle.components.specs.declared.kind.Kind.{Kind}
use Rattle.components.specs.Name.{Name, Port}
use Rattle.components.specs.NamedGraph.{NamedGraph, no_graph, with_node, with_wire}
use Rattle.circuits.specs.PortTokens.{Token}
use Rattle.circuits.specs.Firing.{Label.Feed, Label.Take}
use Rattle.circuits.specs.Run.{Move}
use Rattle.circuits.specs.BufferRule.{bare}

-- a node of a graph, and a wire of it
pub record ListedNode : Type 0 where
  pub name : Name
  pub kind : Kind

pub record ListedWire : Type 0 where
  pub source : Port
  pub target : Port

-- nodes with no kept attributes
abbrev pub with_nodes : List ListedNode → NamedGraph
with_nodes [] = no_graph
with_nodes (node ∷ nodes) = with_node (with_nodes nodes) node.name (bare node.kind)

-- the graph of these nodes and wires
abbrev pub listed : List ListedNode → List ListedWire → NamedGraph
listed nodes [] = with_nodes nodes
listed nodes (wire ∷ wires) = with_wire (listed nodes wires) wire.source wire.target

-- a token is fed at an Entry, and a token is taken at an Exit
abbrev pub fed_at : Name → Token → Move
fed_at n v = record { node = n; label = Feed v }

abbrev pub taken_at : Name → Token → Move
taken_at n v = record { node = n; label = Take v }
