-- Where the part that a rule looks for is found, node by node.
use Rattle.std.specs.Prelude.{◌≡◌, ◌⊎◌, ℕ, true, Option, Some, None, if◌then◌else◌}
use Rattle.std.specs.FinMap as map
use Rattle.components.specs.Name.{Name, Port}
use Rattle.components.specs.NamedGraph.{NamedGraph}
use Rattle.circuits.specs.Circuit.{circuit_of}
use Rattle.circuits.specs.ReplacedGraph.{has_inner}
use Rattle.graph_core.specs.declared.place.NodeId.{NodeId}
use Rattle.graph_core.specs.GraphValue.{GraphValue, Denotes}

-- what feeds an input, where it is of an inner node of left
abbrev pub inner_source : NamedGraph → Option Port → Option Port
inner_source left None = None
inner_source left (Some q) = if has_inner left q.node then Some q else None

-- one output of an inner node of left feeds an input of g and an input of left, or none feeds either
abbrev pub AreFedAlike : NamedGraph → NamedGraph → Port → Port → Type 0
AreFedAlike g left p q = inner_source left (map.get g.feeders p) ≡ inner_source left (map.get left.feeders q)

-- the node has the same kind in both graphs, and the same wires from inner nodes of left
pub record NodeMatches (g left : NamedGraph) (name : Name) : Type 0 where
  pub kind : (circuit_of g).kind_at name ≡ (circuit_of left).kind_at name
  pub inputs : (port : ℕ) → AreFedAlike g left (record { node = name; port = port }) (record { node = name; port = port })

-- the live node of this id, if it is an inner one
abbrev pub IdMatches : NamedGraph → GraphValue → NodeId → Type 0
IdMatches g left id = (name : Name) → Denotes left id name → has_inner left.graph name ≡ true → NodeMatches g left.graph name

-- all inner nodes of left
abbrev pub StandsIn : NamedGraph → NamedGraph → Type 0
StandsIn left g = (name : Name) → has_inner left name ≡ true → NodeMatches g left name

-- no node that stays in g has this name
abbrev pub HasRoom : NamedGraph → NamedGraph → Name → Type 0
HasRoom g left name = ((circuit_of g).kind_at name ≡ None) ⊎ (has_inner left name ≡ true)

-- the live node of this id in right, if it is an inner one, has room
abbrev pub IdHasRoom : NamedGraph → NamedGraph → GraphValue → NodeId → Type 0
IdHasRoom g left right id = (name : Name) → Denotes right id name → has_inner right.graph name ≡ true → HasRoom g left name
