-- An exchange step by step.
use Rattle.std.specs.Prelude.{◌≡◌, ℕ, ◌+◌, ◌<◌, List, [], ◌∷◌, length, max, fold, Some, None, slice_get, unwrap_or}
use Rattle.std.specs.FinMap as finite
use Rattle.components.specs.declared.node.Node.{Node}
use Rattle.components.specs.Name.{Name, Port}
use Rattle.components.specs.Node.{NodeOk, body_of}
use Rattle.components.specs.NamedGraph.{NamedGraph, CanWire, with_node, with_wire}
use Rattle.graph_core.specs.declared.exchange.End.{End}
use Rattle.graph_core.specs.declared.exchange.End.TheVariants.{Old, Fresh}
use Rattle.graph_core.specs.declared.place.NodeId.{NodeId}
use Rattle.graph_core.specs.declared.place.PortAt.{PortAt}
use Rattle.graph_core.specs.Place.{id_of}
use Rattle.graph_core.specs.GraphValue.{GraphValue, Ids, Denotes, name_by, port_of, without_id}
use Rattle.graph_core.specs.Exchange.{with_nodes}
use Rattle.graph_core.specs.Cells.{CellsValue}
use Rattle.graph_core.specs.Names.{IdsByName}
use Rattle.graph_core.specs.Inside.{IsArena, value_of}

-- without the nodes of these ids, whose names are known
abbrev pub without_ids : Ids → GraphValue → List NodeId → GraphValue
without_ids names g ids = fold (λ h id. without_id h id (name_by names id)) g ids

-- each denotes a node by this name once the earlier ones are gone
abbrev pub AreDenoted : Ids → GraphValue → List NodeId → Type 0
AreDenoted names g [] = Unit {0}
AreDenoted names g (id ∷ ids) = Denotes g id (name_by names id) × AreDenoted names (without_id g id (name_by names id)) ids

-- each may be added to the graph with the earlier ones
abbrev pub CanAdd : NamedGraph → List Node → Type 0
CanAdd g [] = Unit {0}
CanAdd g (node ∷ nodes) = NodeOk node × (finite.get g.nodes node.name ≡ None) × CanAdd (with_node g node.name (body_of node)) nodes

-- the ids denote the nodes that were added, and the others what they denoted
pub record AreAdded (g : GraphValue) (nodes : List Node) (ids : List NodeId) (h : GraphValue) : Type 0 where
  pub each : (i : ℕ) (node : Node) → i < length ids → slice_get nodes i ≡ Some node → (id : NodeId) × (slice_get ids i ≡ Some id) × Denotes h id node.name
  pub kept : (id : NodeId) (name : Name) → Denotes g id name → Denotes h id name
  pub slots : h.slots ≡ max g.slots (finite.len h.ids)

-- the nodes were added, and these are their ids
pub record ArePut (g : GraphValue) (nodes : List Node) (ids : List NodeId) (h : GraphValue) : Type 0 where
  pub graph : h.graph ≡ with_nodes g.graph nodes
  pub added : AreAdded g nodes ids h
  pub count : length ids ≡ length nodes
  pub more : finite.len h.ids ≡ finite.len g.ids + length nodes

abbrev pub IsEndWithin : ℕ → End → Type 0
IsEndWithin count (Old p) = Unit {0}
IsEndWithin count (Fresh index port) = index < count

-- the port at an end, where the new nodes have these ids
abbrev pub place_of : List NodeId → End → PortAt
place_of ids (Old p) = p
place_of ids (Fresh index port) = record { node = unwrap_or (slice_get ids index) (id_of 0); port = port }

-- with wires between ends whose ports are known
abbrev pub with_pairs : (End → Port) → NamedGraph → List (End × End) → NamedGraph
with_pairs port g wires = fold (λ h wire. with_wire h (port wire.0) (port wire.1)) g wires

-- each may be added to the graph with the earlier ones
abbrev pub Fits : (End → Port) → NamedGraph → List (End × End) → Type 0
Fits port g [] = Unit {0}
Fits port g (wire ∷ wires) = CanWire g (port wire.0) (port wire.1) × Fits port (with_wire g (port wire.0) (port wire.1)) wires

-- the graph with the wires, where the ids and slots stay
pub record HasWires (port : End → Port) (g : GraphValue) (wires : List (End × End)) (h : GraphValue) : Type 0 where
  pub graph : h.graph ≡ with_pairs port g.graph wires
  pub ids : h.ids ≡ g.ids
  pub slots : h.slots ≡ g.slots

-- wires between free ports of one shape are added, where the new nodes have these ids
abbrev pub AreJoined : CellsValue → IdsByName → List NodeId → List (End × End) → CellsValue → Type 0
AreJoined c table ids wires d =
    IsArena c table → Fits (λ end. port_of (value_of c table) (place_of ids end)) (value_of c table).graph wires
    → IsArena d table × HasWires (λ end. port_of (value_of c table) (place_of ids end)) (value_of c table) wires (value_of d table)
