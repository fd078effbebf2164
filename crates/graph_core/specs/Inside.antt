-- How a graph stands in its cells and its table of names.
use Rattle.std.specs.Prelude.{◌≡◌, ℕ, zero, suc, List, [], ◌∷◌, ◌++◌, Option, Some, None, IsSome, slice_get}
use Rattle.std.specs.Option.{option_map}
use Rattle.std.specs.FinMap as map
use Rattle.port_types.specs.declared.side.Side.{Side}
use Rattle.port_types.specs.declared.side.Side.TheVariants.{Ins, Outs}
use Rattle.components.specs.declared.node.Node.{Node}
use Rattle.components.specs.Name.{Name, Port, port_get}
use Rattle.components.specs.Kind.{Shape, ports}
use Rattle.components.specs.Node.{NodeOk, Body, body_of}
use Rattle.graph_core.specs.declared.place.NodeId.{NodeId}
use Rattle.graph_core.specs.declared.place.PortAt.{PortAt}
use Rattle.graph_core.specs.declared.cells.Cell.{Cell}
use Rattle.graph_core.specs.Ends.{EndList, flat}
use Rattle.graph_core.specs.Names.{IdsByName}
use Rattle.graph_core.specs.Cells.{CellsValue, ends}
use Rattle.graph_core.specs.Tables.{map_values, tabulate}
use Rattle.graph_core.specs.GraphValue.{GraphValue, Ids, port_by}

abbrev pub then : {A B : Type 0} → Option A → (A → Option B) → Option B
then None f = None
then (Some x) f = f x

-- the live node of an id
abbrev pub node_at : CellsValue → NodeId → Option Node
node_at c id = option_map (λ cell. cell.node) (map.get c.cells id)

-- what a cell keeps for its port i, where it has such a port
abbrev pub kept_end : EndList → ℕ → Option (Option PortAt)
kept_end ends zero = None
kept_end ends (suc i) = slice_get ends i

-- what is kept for a port, where there is such a port
abbrev pub slot_at : CellsValue → Side → PortAt → Option (Option PortAt)
slot_at c side p = then (map.get c.cells p.node) (λ cell. kept_end (ends cell side) p.port)

-- the port at the other end of the wire at a port
abbrev pub end_at : CellsValue → Side → PortAt → Option PortAt
end_at c side p = flat (slot_at c side p)

-- the shape of a port of a live node
abbrev pub shape_at : CellsValue → Side → PortAt → Option Shape
shape_at c side p = then (node_at c p.node) (λ node. port_get (ports node.kind side) p.port)

-- The graph by names

abbrev pub ids_of : CellsValue → Ids
ids_of c = map_values (λ cell. cell.node.name) c.cells

abbrev pub body_under : CellsValue → IdsByName → Name → Option Body
body_under c names name = then (map.get names name) (λ id. option_map body_of (node_at c id))

abbrev pub feeder_under : CellsValue → IdsByName → Port → Option Port
feeder_under c names q = then (map.get names q.node) (λ id. option_map (port_by (ids_of c)) (end_at c Ins (record { node = id; port = q.port })))

-- the inputs of the node of this name, counted from `port`
abbrev pub inputs_from : Name → ℕ → EndList → List Port
inputs_from name port [] = []
inputs_from name port (end ∷ ends) = record { node = name; port = port } ∷ inputs_from name (suc port) ends

abbrev pub ins_in : Option Cell → EndList
ins_in None = []
ins_in (Some cell) = cell.ins

abbrev pub inputs_of : CellsValue → List (Name × NodeId) → List Port
inputs_of c [] = []
inputs_of c ((name, id) ∷ names) = inputs_from name 1 (ins_in (map.get c.cells id)) ++ inputs_of c names

abbrev pub value_of : CellsValue → IdsByName → GraphValue
value_of c names =
    record {
      graph = record { nodes = tabulate (map.keys names) (body_under c names); feeders = tabulate (inputs_of c (map.entries names)) (feeder_under c names) };
      ids = ids_of c;
      slots = c.slots;
    }

-- each node is right and listed under its name, and its ports keep the ends of wires; both ends of a wire keep each other, and have one shape
pub record IsArena (c : CellsValue) (table : IdsByName) : Type 0 where
  pub nodes : (id : NodeId) (node : Node) → node_at c id ≡ Some node → NodeOk node
  pub listed : (id : NodeId) (node : Node) → node_at c id ≡ Some node → map.get table node.name ≡ Some id
  pub names : (name : Name) (id : NodeId) → map.get table name ≡ Some id → (node : Node) × (node_at c id ≡ Some node) × (node.name ≡ name)
  pub room : (side : Side) (p : PortAt) (shape : Shape) → shape_at c side p ≡ Some shape → IsSome (slot_at c side p)
  pub forth : (target source : PortAt) → end_at c Ins target ≡ Some source → end_at c Outs source ≡ Some target
  pub back : (source target : PortAt) → end_at c Outs source ≡ Some target → end_at c Ins target ≡ Some source
  pub wires : (target source : PortAt) → end_at c Ins target ≡ Some source → (shape : Shape) × (shape_at c Outs source ≡ Some shape) × (shape_at c Ins target ≡ Some shape)
