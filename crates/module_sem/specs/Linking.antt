-- A link within one graph, on the way there.
use Rattle.std.specs.Prelude.{◌≡◌, ◌≢◌, Some}
use Rattle.std.specs.FinMap as finite
use Rattle.components.specs.declared.kind.Kind.TheVariants.{Exit}
use Rattle.components.specs.declared.node.Node.{Node}
use Rattle.components.specs.Kind.{Shape}
use Rattle.components.specs.Name.{Name, Port}
use Rattle.components.specs.Node.{Body}
use Rattle.components.specs.NamedGraph.{NamedGraph, CanWire, with_node, without_node}
use Rattle.circuits.specs.Circuit.{circuit_of}
use Rattle.circuits.specs.Plug.{PlugLink, Joins}
use Rattle.circuits.specs.PluggedGraph.{buffer_body, buffer_kind}
use Rattle.graph_core.specs.declared.place.NodeId.{NodeId}
use Rattle.graph_core.specs.GraphValue.{GraphValue, Denotes, name_by}

-- a link by the names of its ends
abbrev pub ends_named : GraphValue → NodeId → NodeId → PlugLink
ends_named g exit entry = record { exit = name_by g.ids exit; entry = name_by g.ids entry }

-- the link joins an Exit of the graph to an Entry of it, of one shape
abbrev pub CanJoin : NamedGraph → PlugLink → Type 0
CanJoin g l = Joins l (circuit_of g) (circuit_of g)

-- the node of this name is an Exit
abbrev pub IsExit : NamedGraph → Name → Type 0
IsExit g name = (shape : Shape) × ((circuit_of g).kind_at name ≡ Some (Exit shape))

-- the node, for an Exit as a Buffer
abbrev pub buffer_node : Node → Node
buffer_node node = record { name = node.name; kind = buffer_kind node.kind; kept = node.kept }

-- h is g with a Buffer in the place of the Exit of this name, and this is the Buffer's id; the ids of other nodes denote them
pub record IsBuffered (g : GraphValue) (name : Name) (buffer : NodeId) (h : GraphValue) : Type 0 where
  pub body : Body
  pub was : finite.get g.graph.nodes name ≡ Some body
  pub graph : h.graph ≡ with_node g.graph name (buffer_body body)
  pub denotes : Denotes h buffer name
  pub others : (id : NodeId) (other : Name) → Denotes g id other → other ≢ name → Denotes h id other

-- this output feeds an input, which the other output can feed once the node of the former is gone
pub record CanHandOn (g : NamedGraph) (output other : Port) : Type 0 where
  pub target : Port
  pub feeds : finite.get g.feeders target ≡ Some output
  pub can : CanWire (without_node g output.node) other target
