-- Some nodes of a graph in the places of others.
use Rattle.std.specs.Prelude.{◌≡◌, ◌≢◌, ℕ, ◌<◌, List, [], length, map, max, fold, All, AllPairs, Contains, None, slice_get, unwrap_or}
use Rattle.std.specs.Option.{option_map}
use Rattle.std.specs.FinMap as finite
use Rattle.components.specs.declared.node.Node.{Node}
use Rattle.components.specs.Name.{Name, Port}
use Rattle.components.specs.Node.{NodeOk, body_of}
use Rattle.components.specs.NamedGraph.{NamedGraph, CanWire, with_node, with_wire, without_node}
use Rattle.graph_core.specs.declared.exchange.End.{End}
use Rattle.graph_core.specs.declared.exchange.End.TheVariants.{Old, Fresh}
use Rattle.graph_core.specs.declared.place.NodeId.{NodeId}
use Rattle.graph_core.specs.GraphValue.{GraphValue, Denotes, name_by, port_of}

-- without nodes, one after another
abbrev pub without_nodes : NamedGraph → List Name → NamedGraph
without_nodes g names = fold without_node g names

-- with nodes, one after another
abbrev pub with_nodes : NamedGraph → List Node → NamedGraph
with_nodes g nodes = fold (λ h node. with_node h node.name (body_of node)) g nodes

-- with wires, each from an output to an input, one after another
abbrev pub with_wires : NamedGraph → List (Port × Port) → NamedGraph
with_wires g wires = fold (λ h wire. with_wire h wire.0 wire.1) g wires

-- the graph by names with the new nodes in the places of those that go, without new wires
abbrev pub with_fresh : GraphValue → List NodeId → List Node → NamedGraph
with_fresh g gone fresh = with_nodes (without_nodes g.graph (map (name_by g.ids) gone)) fresh

-- the name of a new node by its place
abbrev pub fresh_name : List Node → ℕ → Name
fresh_name fresh index = unwrap_or (option_map (λ node. node.name) (slice_get fresh index)) []

-- the port at an end, by the name of its node
abbrev pub end_port : GraphValue → List Node → End → Port
end_port g fresh (Old p) = port_of g p
end_port g fresh (Fresh index port) = record { node = fresh_name fresh index; port = port }

abbrev pub end_ports : GraphValue → List Node → End × End → Port × Port
end_ports g fresh wire = (end_port g fresh wire.0, end_port g fresh wire.1)

-- the node of this id stays
abbrev pub Stays : GraphValue → List NodeId → NodeId → Type 0
Stays g gone id = (name : Name) × Denotes g id name × ¬ (Contains gone id)

-- the end is at a node that stays or at a new one
abbrev pub IsAtNode : GraphValue → List NodeId → List Node → End → Type 0
IsAtNode g gone fresh (Old p) = Stays g gone p.node
IsAtNode g gone fresh (Fresh index port) = index < length fresh

-- the nodes that go are live and different; the new ones may stand in a graph and have names of their own; each new wire is at nodes
-- that stay or are new, joins an output and an input of one shape that stand on no other wire, and no two have one output or one input
pub record CanExchange (g : GraphValue) (gone : List NodeId) (fresh : List Node) (wires : List (End × End)) : Type 0 where
  pub live : All (λ id. (name : Name) × Denotes g id name) gone
  pub distinct : AllPairs (λ i j. i ≢ j) gone
  pub nodes : All NodeOk fresh
  pub names : AllPairs (λ a b. a.name ≢ b.name) fresh
  pub free : All (λ node. finite.get (without_nodes g.graph (map (name_by g.ids) gone)).nodes node.name ≡ None) fresh
  pub ends : All (λ wire. IsAtNode g gone fresh wire.0 × IsAtNode g gone fresh wire.1) wires
  pub fit : All (λ wire. CanWire (with_fresh g gone fresh) (end_port g fresh wire.0) (end_port g fresh wire.1)) wires
  pub outputs : AllPairs (λ a b. end_port g fresh a.0 ≢ end_port g fresh b.0) wires
  pub inputs : AllPairs (λ a b. end_port g fresh a.1 ≢ end_port g fresh b.1) wires

-- the graph by names has the new nodes in the places of those that went, with the new wires; the ids of nodes that stay denote them;
-- there are no more slots than before, or than live nodes
pub record IsExchanged (g : GraphValue) (gone : List NodeId) (fresh : List Node) (wires : List (End × End)) (h : GraphValue) : Type 0 where
  pub graph : h.graph ≡ with_wires (with_fresh g gone fresh) (map (end_ports g fresh) wires)
  pub stay : (id : NodeId) (name : Name) → Denotes g id name → ¬ (Contains gone id) → Denotes h id name
  pub slots : h.slots ≡ max g.slots (finite.len h.graph.nodes)
