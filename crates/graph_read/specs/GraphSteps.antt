-- Steps of reading a graph: what a node or an edge that is read changes.
use Rattle.std.specs.Prelude.{◌≡◌, ℕ, ◌≤◌, List, map, Option, Some, None, Result, Ok, Err, slice_get}
use Rattle.std.specs.Option.{option_map}
use Rattle.std.specs.FinMap as finite
use Rattle.port_types.specs.declared.side.Side.{Side}
use Rattle.port_types.specs.declared.side.Side.TheVariants.{Ins, Outs}
use Rattle.dot_text.specs.declared.doc.DocNode.{DocNode}
use Rattle.dot_text.specs.declared.doc.DocEdge.{DocEdge}
use Rattle.components.specs.declared.node.Node.{Node}
use Rattle.components.specs.Kind.{Shape, ports}
use Rattle.components.specs.Name.{Name, name_cmp, port_get}
use Rattle.components.specs.Node.{NodeOk, Body, body_of}
use Rattle.components.specs.NamedGraph.{NamedGraph, with_wire}
use Rattle.graph_core.specs.declared.place.NodeId.{NodeId}
use Rattle.graph_core.specs.declared.place.PortAt.{PortAt}
use Rattle.graph_core.specs.Place.{index_of, id_of}
use Rattle.graph_core.specs.GraphValue.{GraphValue, port_of, with_id}
use Rattle.graph_core.specs.Wiring.{HasShape}
use Rattle.graph_read.specs.declared.fault.GraphFault.{GraphFault}
use Rattle.graph_read.specs.declared.fault.GraphFault.TheVariants as graph_fault
use Rattle.graph_read.specs.declared.fault.GraphFaultKind.{GraphFaultKind}
use Rattle.graph_read.specs.declared.fault.StatementFault.{StatementFault}
use Rattle.graph_read.specs.declared.fault.StatementFault.TheVariants.{Refused, NoMemory}
use Rattle.graph_read.specs.NodeReading.{NodeReading, node_reading}
use Rattle.graph_read.specs.Refusals.{IsRefusal}
use Rattle.graph_read.specs.GraphReading.{NamedWire, refusal, named_in, names_of, port_there, wire_between, edge_reading}

-- the fault of the node or edge at this place, unless memory ran out
abbrev pub IsFaultAt : StatementFault → ℕ → Name → GraphFault → Type 0
IsFaultAt (Refused kind) place name fault = IsRefusal {A = Body} (Err (refusal kind place name)) fault
IsFaultAt NoMemory place name fault = fault ≡ graph_fault.NoMemory

-- Nodes

-- the id of index i denotes the node of statement i, and no other id denotes one
abbrev pub StandInOrder : GraphValue → List DocNode → Type 0
StandInOrder g statements = (i : ℕ) → finite.get g.ids (id_of i) ≡ option_map (λ statement. statement.name) (slice_get statements i)

-- the nodes of the graph are these, with ids in their order, and none of them is a free slot's
pub record AreNodesOf (nodes : List (Name × Body)) (g : GraphValue) : Type 0 where
  pub map : g.graph.nodes ≡ finite.from_entries {R = name_cmp} nodes
  pub each : (i : ℕ) (node : Name × Body) → slice_get nodes i ≡ Some node → finite.get g.graph.nodes node.0 ≡ Some node.1
  pub ids : (i : ℕ) → finite.get g.ids (id_of i) ≡ option_map (λ node. node.0) (slice_get nodes i)

-- the nodes of the statements before a place have been read, and are those of the graph, which has no wire and no free slot
pub record IsReadTo (statements : List DocNode) (nodes : List (Name × Body)) (g : GraphValue) : Type 0 where
  pub are : AreNodesOf nodes g
  pub names : names_of nodes ≡ map (λ statement. statement.name) statements
  pub feeders : g.graph.feeders ≡ finite.empty

-- the graph gained a node with this name and the body that was read
pub record HasGained (read : NodeReading) (name : Name) (place : ℕ) (old new : GraphValue) : Type 0 where
  pub node : Node
  pub id : NodeId
  pub ok : NodeOk node
  pub is_name : node.name ≡ name
  pub is_read : read ≡ Ok (body_of node)
  pub few : place ≤ 65536
  pub is_new : new ≡ with_id old id node
  pub is_fresh : finite.get old.ids id ≡ None
  pub is_next : finite.len old.ids ≡ old.slots → index_of id ≡ old.slots
  pub no_other : finite.get old.graph.nodes name ≡ None

-- the node that was read is added, unless memory ran out
abbrev pub IsAdded : NodeReading → Name → ℕ → GraphValue → GraphValue → Result Unit StatementFault → Type 0
IsAdded read name place old new (Ok _) = HasGained read name place old new
IsAdded read name place old new (Err (Refused fault)) = read ≡ Err fault
IsAdded read name place old new (Err NoMemory) = Unit {0}

-- the same for a statement behind those of these nodes
abbrev pub IsAddedBehind : DocNode → ℕ → GraphValue → GraphValue → Result Unit StatementFault → Type 0
IsAddedBehind statement place old new result =
    (nodes : List (Name × Body)) → old.graph.nodes ≡ finite.from_entries {R = name_cmp} nodes → IsAdded (node_reading (names_of nodes) place statement) statement.name place old new result

-- Edges

-- the text names the port of this number
pub record IsPortThere (side : Side) (text : List ℕ) (shapes : List Shape) (number : ℕ) : Type 0 where
  pub shape : Shape
  pub is_port : port_get shapes number ≡ Some shape
  pub is_named : named_in side text 1 shapes ≡ Some (number, shape)

-- the text names this port of the node
pub record IsEnd (side : Side) (name : Name) (body : Body) (text : Option (List ℕ)) (id : NodeId) (p : PortAt) : Type 0 where
  pub at : p.node ≡ id
  pub shape : Shape
  pub is_port : port_get (ports body.kind side) p.port ≡ Some shape
  pub is_named : port_there side name body text ≡ Some (record { node = name; port = p.port }, shape)

-- the edge is a wire between these ports, if there can be one
pub record HasEnds (g : GraphValue) (edge : DocEdge) (source target : PortAt) : Type 0 where
  pub from : Shape
  pub to : Shape
  pub leaves : HasShape g.graph Outs (port_of g source) from
  pub enters : HasShape g.graph Ins (port_of g target) to
  pub is_read : edge_reading g.graph edge ≡ wire_between g.graph (Some (port_of g source, from)) (Some (port_of g target, to))

abbrev pub AreEnds : GraphValue → DocEdge → Result (PortAt × PortAt) StatementFault → Type 0
AreEnds g edge (Ok ends) = HasEnds g edge ends.0 ends.1
AreEnds g edge (Err (Refused fault)) = edge_reading g.graph edge ≡ Err fault
AreEnds g edge (Err NoMemory) = Unit {0}

-- the wire that was read is added, unless memory ran out
abbrev pub IsJoined : Result NamedWire GraphFaultKind → NamedGraph → NamedGraph → Result Unit StatementFault → Type 0
IsJoined read old new (Ok _) = (wire : NamedWire) × (read ≡ Ok wire) × (new ≡ with_wire old wire.source wire.target)
IsJoined read old new (Err (Refused fault)) = read ≡ Err fault
IsJoined read old new (Err NoMemory) = Unit {0}
