-- Changes of cells together with the names of their nodes.
use Rattle.std.specs.Prelude.{◌≡◌, ◌≢◌, ◌⊎◌, [], ◌∷◌, max, Option, Some, None, IsSome}
use Rattle.std.specs.FinMap as map
use Rattle.port_types.specs.declared.side.Side.{Side}
use Rattle.port_types.specs.declared.side.Side.TheVariants.{Ins, Outs}
use Rattle.components.specs.declared.node.Node.{Node}
use Rattle.graph_core.specs.declared.graph.AddWire.{AddWire}
use Rattle.graph_core.specs.declared.graph.AddWire.TheVariants.{UnknownPort, PortTaken, ShapeDiffers, NoMemory}
use Rattle.components.specs.Name.{port_get}
use Rattle.components.specs.Kind.{Shape, ports, KindOk}
use Rattle.graph_core.specs.Inside.{node_at, end_at, shape_at}
use Rattle.graph_core.specs.declared.place.NodeId.{NodeId}
use Rattle.graph_core.specs.declared.place.PortAt.{PortAt}
use Rattle.graph_core.specs.declared.cells.Cell.{Cell}
use Rattle.graph_core.specs.Ends.{EndList}
use Rattle.graph_core.specs.Names.{IdsByName}
use Rattle.graph_core.specs.Cells.{CellsValue, IsNext, bare, with_end, without_cell}

-- the node stands in a new cell under this id, with no wire at its ports, and is listed
pub record IsPut (c : CellsValue) (table : IdsByName) (id : NodeId) (node : Node) (d : CellsValue) (list : IdsByName) : Type 0 where
  pub vacant : map.get c.cells id ≡ None
  pub next : IsNext c id
  pub cells : d.cells ≡ map.insert c.cells id (bare node)
  pub slots : d.slots ≡ max c.slots (map.len d.cells)
  pub names : list ≡ map.insert table node.name id

-- the table has the name of this cell
abbrev pub ListsAt : IdsByName → Option Cell → Type 0
ListsAt names None = Unit {0}
ListsAt names (Some cell) = IsSome (map.get names cell.node.name)

abbrev pub listed_at : IdsByName → NodeId → Option Cell → IdsByName
listed_at names id None = names
listed_at names id (Some cell) = map.insert names cell.node.name id

-- with two ports at the ends of each other
abbrev pub linked : CellsValue → PortAt → PortAt → CellsValue
linked c source target = with_end (with_end c Outs source (Some target)) Ins target (Some source)

-- each kind meets its row of the table
abbrev pub KindsOk : CellsValue → Type 0
KindsOk c = (id : NodeId) (node : Node) → node_at c id ≡ Some node → KindOk node.kind

-- the port is one of this node
pub record Owns (c : CellsValue) (side : Side) (p : PortAt) (node : Node) : Type 0 where
  pub live : node_at c p.node ≡ Some node
  pub some : IsSome (port_get (ports node.kind side) p.port)
  pub right : KindOk node.kind

-- the ports are there, with one shape, and stand on no wire
pub record CanLink (c : CellsValue) (source target : PortAt) : Type 0 where
  pub shape : Shape
  pub leaves : shape_at c Outs source ≡ Some shape
  pub enters : shape_at c Ins target ≡ Some shape
  pub into : end_at c Ins target ≡ None
  pub from : end_at c Outs source ≡ None

-- both ports are there
pub record HasBoth (c : CellsValue) (source target : PortAt) : Type 0 where
  pub leaving : Shape
  pub entering : Shape
  pub leaves : shape_at c Outs source ≡ Some leaving
  pub enters : shape_at c Ins target ≡ Some entering

-- why two ports are not linked
abbrev pub RefusesLink : CellsValue → PortAt → PortAt → AddWire → Type 0
RefusesLink c source target UnknownPort = (shape_at c Outs source ≡ None) ⊎ (shape_at c Ins target ≡ None)
RefusesLink c source target PortTaken = HasBoth c source target × (IsSome (end_at c Ins target) ⊎ IsSome (end_at c Outs source))
RefusesLink c source target ShapeDiffers = (both : HasBoth c source target) × (both.leaving ≢ both.entering) × (end_at c Ins target ≡ None) × (end_at c Outs source ≡ None)
RefusesLink c source target NoMemory = ⊥

-- Taking a node out

-- with nothing at the other ends of these ports
abbrev pub cut_ends : CellsValue → Side → EndList → CellsValue
cut_ends c side [] = c
cut_ends c side (None ∷ ends) = cut_ends c side ends
cut_ends c side (Some p ∷ ends) = cut_ends (with_end c side p None) side ends

-- without the cell of this id, and with nothing at the other ends of its wires
abbrev pub without_wired : CellsValue → NodeId → Option Cell → CellsValue
without_wired c id None = c
without_wired c id (Some cell) = cut_ends (cut_ends (without_cell c id) Outs cell.ins) Ins cell.outs

abbrev pub unlisted : IdsByName → Option Cell → IdsByName
unlisted names None = names
unlisted names (Some cell) = map.remove names cell.node.name
