-- What contracts see of a graph: the graph by names, and which node each id denotes.
use Rattle.std.specs.Prelude.{◌≡◌, ℕ, ◌<◌, ◌≤◌, List, [], map, max, Some, unwrap_or, refl}
use Rattle.std.specs.FinMap as finite
use Rattle.std.specs.Coded.{Coded, code_by, coded×, coded_ℕ, coded_list}
use Rattle.components.specs.declared.node.Node.{Node}
use Rattle.components.specs.declared.kind.Kind.{Kind}
use Rattle.components.specs.contracts.kind.Kind as kind
use Rattle.components.specs.Name.{Name, Port, name_cmp, port_cmp}
use Rattle.components.specs.Kind.{KindOk}
use Rattle.components.specs.Node.{Body, NodeOk, body_of}
use Rattle.components.specs.NamedGraph.{NamedGraph, IsWire, HasAllowedNames, no_graph, with_node, with_wire, without_node}
use Rattle.graph_core.specs.declared.place.NodeId.{NodeId}
use Rattle.graph_core.specs.declared.place.PortAt.{PortAt}
use Rattle.graph_core.specs.contracts.place.NodeId as node_id
use Rattle.graph_core.specs.Place.{index_of, id_cmp}

-- the names of the live nodes by their ids
abbrev pub Ids : Type 0
Ids = finite.FinMap id_cmp Name

-- a graph by names, the name that the id of each live node denotes, and how many slots for nodes there are
pub record GraphValue : Type 0 where
  pub graph : NamedGraph
  pub ids : Ids
  pub slots : ℕ

-- the id is that of the live node of this name
abbrev pub Denotes : GraphValue → NodeId → Name → Type 0
Denotes g id name = finite.get g.ids id ≡ Some name

-- the name that an id denotes, and for an id that is not live the empty one, which no node has
abbrev pub name_by : Ids → NodeId → Name
name_by ids id = unwrap_or (finite.get ids id) []

-- a port by the name of its node
abbrev pub port_by : Ids → PortAt → Port
port_by ids p = record { node = name_by ids p.node; port = p.port }

abbrev pub port_of : GraphValue → PortAt → Port
port_of g p = port_by g.ids p

-- the live node of this id
pub record IsNodeAt (g : GraphValue) (id : NodeId) (node : Node) : Type 0 where
  pub denotes : Denotes g id node.name
  pub body : finite.get g.graph.nodes node.name ≡ Some (body_of node)
  pub ok : NodeOk node

-- the ids are those of all nodes in the byte order of their names
abbrev pub AreInOrder : GraphValue → List NodeId → Type 0
AreInOrder g ids = map (finite.get g.ids) ids ≡ map Some (finite.keys g.graph.nodes)

-- Changes

abbrev pub no_nodes : GraphValue
no_nodes = record { graph = no_graph; ids = finite.empty; slots = 0 }

-- the id of a node that is added: where each slot has a node, that of a new slot behind all others
abbrev pub IsNextOf : GraphValue → NodeId → Type 0
IsNextOf g id = finite.len g.ids ≡ g.slots → index_of id ≡ g.slots

-- with a node under this id; slots are no more than the most nodes that were live at once
abbrev pub with_id : GraphValue → NodeId → Node → GraphValue
with_id g id node =
    record {
      graph = with_node g.graph node.name (body_of node);
      ids = finite.insert g.ids id node.name;
      slots = max g.slots (finite.len (finite.insert g.ids id node.name));
    }

-- without the node of this id and name, and the wires at its ports; the slots stay
abbrev pub without_id : GraphValue → NodeId → Name → GraphValue
without_id g id name = record g { graph = without_node g.graph name; ids = finite.remove g.ids id }

-- with a wire from the output source to the input target
abbrev pub with_link : GraphValue → PortAt → PortAt → GraphValue
with_link g source target = record g { graph = with_wire g.graph (port_of g source) (port_of g target) }

-- What every graph is

-- names are allowed, kinds meet their rows, each wire joins an output and an input of one shape, and no output is on two
pub record IsSound (g : NamedGraph) : Type 0 where
  pub names : HasAllowedNames g
  pub kinds : (name : Name) (body : Body) → finite.get g.nodes name ≡ Some body → KindOk body.kind
  pub wires : (target source : Port) → finite.get g.feeders target ≡ Some source → IsWire g source target
  pub once : (p q source : Port) → finite.get g.feeders p ≡ Some source → finite.get g.feeders q ≡ Some source → p ≡ q

-- the ids denote exactly the nodes of the graph, each node is denoted by one, and each stands in a slot
pub record IsGraph (g : GraphValue) : Type 0 where
  pub graph : IsSound g.graph
  pub denoted : (id : NodeId) (name : Name) → Denotes g id name → (body : Body) × (finite.get g.graph.nodes name ≡ Some body)
  pub live : (name : Name) (body : Body) → finite.get g.graph.nodes name ≡ Some body → (id : NodeId) × Denotes g id name
  pub alone : (i j : NodeId) (name : Name) → Denotes g i name → Denotes g j name → i ≡ j
  pub within : (id : NodeId) (name : Name) → Denotes g id name → index_of id < g.slots
  pub count : finite.len g.ids ≡ finite.len g.graph.nodes
  pub room : finite.len g.ids ≤ g.slots

-- How it is stored

abbrev pub body_code : Coded Body
body_code =
    code_by (Kind × finite.FinMap name_cmp (List ℕ)) (coded× kind.the_row.coded (finite.code (coded_list coded_ℕ) (coded_list coded_ℕ))) (λ b. (b.kind, b.kept)) (λ p. record { kind = p.0; kept = p.1 }) (λ _. refl)

abbrev pub port_code : Coded Port
port_code = code_by (Name × ℕ) (coded× (coded_list coded_ℕ) coded_ℕ) (λ p. (p.node, p.port)) (λ p. record { node = p.0; port = p.1 }) (λ _. refl)

abbrev pub named_graph_code : Coded NamedGraph
named_graph_code =
    code_by (finite.FinMap name_cmp Body × finite.FinMap port_cmp Port)
    (coded× (finite.code (coded_list coded_ℕ) body_code) (finite.code port_code port_code))
    (λ g. (g.nodes, g.feeders)) (λ p. record { nodes = p.0; feeders = p.1 }) (λ _. refl)

abbrev pub graph_code : Coded GraphValue
graph_code =
    code_by (NamedGraph × (Ids × ℕ)) (coded× named_graph_code (coded× (finite.code node_id.the_row.coded (coded_list coded_ℕ)) coded_ℕ))
    (λ g. (g.graph, (g.ids, g.slots))) (λ p. record { graph = p.0; ids = p.1.0; slots = p.1.1 }) (λ _. refl)
