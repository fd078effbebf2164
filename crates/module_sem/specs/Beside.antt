-- Graphs side by side, on the way there.
use Rattle.std.specs.Prelude.{◌≡◌, ◌≢◌, ℕ, length, Some, None}
use Rattle.std.specs.FinMap as finite
use Rattle.components.specs.Name.{Name, Port}
use Rattle.components.specs.Kind.{ins}
use Rattle.components.specs.Node.{Body}
use Rattle.components.specs.NamedGraph.{NamedGraph}
use Rattle.circuits.specs.PluggedGraph.{beside_graph}
use Rattle.graph_core.specs.declared.place.NodeId.{NodeId}
use Rattle.graph_core.specs.GraphValue.{GraphValue, Denotes}

-- no name is in both
abbrev pub AreApart : NamedGraph → NamedGraph → Type 0
AreApart h g = (name : Name) (body : Body) → finite.get g.nodes name ≡ Some body → finite.get h.nodes name ≡ None

-- each node of g stands in h
abbrev pub HasNodesOf : NamedGraph → NamedGraph → Type 0
HasNodesOf h g = (name : Name) (body : Body) → finite.get g.nodes name ≡ Some body → finite.get h.nodes name ≡ Some body

-- no wire of h is at a node of g
abbrev pub HasNoWireAt : NamedGraph → NamedGraph → Type 0
HasNoWireAt h g =
    (target source : Port) → finite.get h.feeders target ≡ Some source → (finite.get g.nodes target.node ≡ None) × (finite.get g.nodes source.node ≡ None)

-- h with the nodes of g, and h with its wires
abbrev pub with_nodes_of : NamedGraph → NamedGraph → NamedGraph
with_nodes_of h g = record h { nodes = (beside_graph h g).nodes }

abbrev pub with_wires_of : NamedGraph → NamedGraph → NamedGraph
with_wires_of h g = record h { feeders = (beside_graph h g).feeders }

-- the inputs of the node of this name are on no wire of h, and wires of h from nodes of g are wires of g
pub record CanFeed (h g : NamedGraph) (name : Name) : Type 0 where
  pub unfed : (p : Port) → p.node ≡ name → finite.get h.feeders p ≡ None
  pub within : (p source : Port) (body : Body) → finite.get h.feeders p ≡ Some source → finite.get g.nodes source.node ≡ Some body → finite.get g.feeders p ≡ Some source

-- the id is that of a node of g with so many inputs, which can be fed in h
pub record IsToFeed (h : NamedGraph) (g : GraphValue) (id : NodeId) (count : ℕ) : Type 0 where
  pub name : Name
  pub body : Body
  pub denotes : Denotes g id name
  pub node : finite.get g.graph.nodes name ≡ Some body
  pub inputs : count ≡ length (ins body.kind)
  pub can : CanFeed h g.graph name

-- h, but that the inputs of the node of this name are fed as in g
pub record IsFedAs (h g : NamedGraph) (name : Name) (fed : NamedGraph) : Type 0 where
  pub nodes : fed.nodes ≡ h.nodes
  pub there : (p : Port) → p.node ≡ name → finite.get fed.feeders p ≡ finite.get g.feeders p
  pub others : (p : Port) → p.node ≢ name → finite.get fed.feeders p ≡ finite.get h.feeders p
