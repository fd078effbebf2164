-- The graph of a document, or the first thing that is wrong with it.
use Rattle.std.specs.Prelude.{ℕ, ◌+◌, ◌||◌, List, [], ◌∷◌, ◌++◌, map, Option, Some, None, Result, Ok, Err, bytes_eq, codes, if◌then◌else◌}
use Rattle.std.specs.Option.{option_or, option_map}
use Rattle.std.specs.FinMap as map
use Rattle.port_types.specs.declared.side.Side.{Side}
use Rattle.port_types.specs.declared.side.Side.TheVariants.{Ins, Outs}
use Rattle.port_types.specs.PortText.{port_name}
use Rattle.dot_text.specs.declared.doc.Doc.{Doc}
use Rattle.dot_text.specs.declared.doc.DocNode.{DocNode}
use Rattle.dot_text.specs.declared.doc.DocEdge.{DocEdge}
use Rattle.components.specs.Kind.{Shape, ins, outs, ports}
use Rattle.components.specs.Name.{Name, Port}
use Rattle.components.specs.Node.{Body}
use Rattle.components.specs.NamedGraph.{NamedGraph, is_wired, with_wire}
use Rattle.graph_read.specs.declared.fault.GraphFaultKind.{GraphFaultKind}
use Rattle.graph_read.specs.declared.fault.GraphFaultKind.TheVariants.{UnknownNode, UnknownPort, PortTaken, ShapeDiffers, PortOpen}
use Rattle.graph_read.specs.declared.fault.GraphRefusal.{GraphRefusal}
use Rattle.graph_read.specs.Attributes.{last_value}
use Rattle.graph_read.specs.NodeReading.{node_reading}

-- a node or an edge at this place, counted from 1, is refused
abbrev pub refusal : GraphFaultKind → ℕ → Name → GraphRefusal
refusal kind place name = record { kind = kind; place = place; name = name; port_open = None }

-- what is read where this node or edge is, and else its refusal
abbrev pub then_read : {A B : Type 0} → ℕ → Name → Result A GraphFaultKind → (A → Result B GraphRefusal) → Result B GraphRefusal
then_read place name (Err fault) more = Err (refusal fault place name)
then_read place name (Ok found) more = more found

-- The nodes, in the order of the file

abbrev pub NodesReading : Type 0
NodesReading = Result (List (Name × Body)) GraphRefusal

abbrev pub names_of : List (Name × Body) → List Name
names_of nodes = map (λ node. node.0) nodes

-- the nodes before this place, and behind them those of the statements from it on
abbrev pub nodes_reading : List (Name × Body) → ℕ → List DocNode → NodesReading
nodes_reading nodes place [] = Ok nodes
nodes_reading nodes place (statement ∷ statements) =
    then_read place statement.name (node_reading (names_of nodes) place statement) (λ body. nodes_reading (nodes ++ (statement.name, body) ∷ []) (place + 1) statements)

-- The edges, in the order of the file

-- a wire, by its output and its input
pub record NamedWire : Type 0 where
  pub source : Port
  pub target : Port

-- the port that the text names, as `out2`, of those from this number on
abbrev pub named_in : Side → List ℕ → ℕ → List Shape → Option (ℕ × Shape)
named_in side text number [] = None
named_in side text number (shape ∷ shapes) = if bytes_eq text (port_name side number) then Some (number, shape) else named_in side text (number + 1) shapes

-- the port of a node that an attribute of an edge names, and its shape
abbrev pub port_there : Side → Name → Body → Option (List ℕ) → Option (Port × Shape)
port_there side name body None = None
port_there side name body (Some text) = option_map (λ found. (record { node = name; port = found.0 }, found.1)) (named_in side text 1 (ports body.kind side))

-- a wire between these ports of these shapes
abbrev pub wire_between : NamedGraph → Option (Port × Shape) → Option (Port × Shape) → Result NamedWire GraphFaultKind
wire_between g None to = Err UnknownPort
wire_between g (Some source) None = Err UnknownPort
wire_between g (Some source) (Some target) =
    if is_wired g Ins target.0 || is_wired g Outs source.0 then Err PortTaken
    else (if bytes_eq source.1 target.1 then Ok (record { source = source.0; target = target.0 }) else Err ShapeDiffers)

abbrev pub edge_between : NamedGraph → DocEdge → Option Body → Option Body → Result NamedWire GraphFaultKind
edge_between g edge None to = Err UnknownNode
edge_between g edge (Some from) None = Err UnknownNode
edge_between g edge (Some from) (Some to) =
    wire_between g (port_there Outs edge.source from (last_value (codes "from") edge.pairs)) (port_there Ins edge.target to (last_value (codes "to") edge.pairs))

-- the wire of an edge, in a graph with the wires of the edges before it
abbrev pub edge_reading : NamedGraph → DocEdge → Result NamedWire GraphFaultKind
edge_reading g edge = edge_between g edge (map.get g.nodes edge.source) (map.get g.nodes edge.target)

abbrev pub GraphReading : Type 0
GraphReading = Result NamedGraph GraphRefusal

-- the graph with the wires of the edges from this place on
abbrev pub edges_reading : NamedGraph → ℕ → List DocEdge → GraphReading
edges_reading g place [] = Ok g
edges_reading g place (edge ∷ edges) =
    then_read place edge.target (edge_reading g edge) (λ wire. edges_reading (with_wire g wire.source wire.target) (place + 1) edges)

-- The first port on no wire

-- the first of these ports that is on no wire, from this number on
abbrev pub first_free : NamedGraph → Side → Name → ℕ → List Shape → Option ℕ
first_free g side name number [] = None
first_free g side name number (shape ∷ shapes) =
    if is_wired g side (record { node = name; port = number }) then first_free g side name (number + 1) shapes else Some number

-- inputs come before outputs
abbrev pub open_port : NamedGraph → Name × Body → Option (Side × ℕ)
open_port g node =
    option_or (option_map (λ number. (Ins, number)) (first_free g Ins node.0 1 (ins node.1.kind)))
    (option_map (λ number. (Outs, number)) (first_free g Outs node.0 1 (outs node.1.kind)))

abbrev pub open_refusal : ℕ → Name → Option (Side × ℕ) → Option GraphRefusal
open_refusal place name None = None
open_refusal place name (Some port) = Some (record { kind = PortOpen; place = place; name = name; port_open = Some port })

-- the first port on no wire of the nodes from this place on
abbrev pub first_open : NamedGraph → ℕ → List (Name × Body) → Option GraphRefusal
first_open g place [] = None
first_open g place (node ∷ nodes) = option_or (open_refusal place node.0 (open_port g node)) (first_open g (place + 1) nodes)

-- The whole document

abbrev pub graph_of_nodes : List (Name × Body) → NamedGraph
graph_of_nodes nodes = record { nodes = map.from_entries nodes; feeders = map.empty }

abbrev pub unless : NamedGraph → Option GraphRefusal → GraphReading
unless g None = Ok g
unless g (Some fault) = Err fault

-- the graph, where each port is on a wire
abbrev pub closed : List (Name × Body) → GraphReading → GraphReading
closed nodes (Err fault) = Err fault
closed nodes (Ok g) = unless g (first_open g 1 nodes)

abbrev pub wired : List DocEdge → NodesReading → GraphReading
wired edges (Err fault) = Err fault
wired edges (Ok nodes) = closed nodes (edges_reading (graph_of_nodes nodes) 1 edges)

-- the graph of a document, or its first refusal
abbrev pub graph_reading : Doc → GraphReading
graph_reading doc = wired doc.edges (nodes_reading [] 1 doc.nodes)
