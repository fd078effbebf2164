-- Open ports, and the first of them.
use Rattle.std.specs.Prelude.{◌≡◌, ◌⊎◌, ℕ, ◌<◌, ◌≤◌}
use Rattle.port_types.specs.declared.side.Side.{Side}
use Rattle.port_types.specs.declared.side.Side.TheVariants.{Ins, Outs}
use Rattle.components.specs.Kind.{Shape}
use Rattle.graph_core.specs.declared.graph.PortOpen.{PortOpen}
use Rattle.graph_core.specs.declared.place.NodeId.{NodeId}
use Rattle.graph_core.specs.declared.place.PortAt.{PortAt}
use Rattle.graph_core.specs.Place.{index_of}
use Rattle.graph_core.specs.GraphValue.{GraphValue, port_of}
use Rattle.graph_core.specs.Wiring.{HasShape, IsWired}

-- the port of this number of a node
abbrev pub port_at : NodeId → ℕ → PortAt
port_at id port = record { node = id; port = port }

-- the port of a live node stands on no wire
pub record IsOpen (g : GraphValue) (p : PortOpen) : Type 0 where
  pub shape : Shape
  pub there : HasShape g.graph p.side (port_of g (port_at p.node p.port)) shape
  pub free : ¬ (IsWired g.graph p.side (port_of g (port_at p.node p.port)))

-- inputs come before outputs
abbrev pub ComesBefore : Side → ℕ → Side → ℕ → Type 0
ComesBefore Ins i Ins j = i < j
ComesBefore Ins i Outs j = Unit {0}
ComesBefore Outs i Ins j = ⊥
ComesBefore Outs i Outs j = i < j

-- in the order of ids, inputs before outputs, by number
abbrev pub IsBefore : PortOpen → PortOpen → Type 0
IsBefore p q = (index_of p.node < index_of q.node) ⊎ ((p.node ≡ q.node) × ComesBefore p.side p.port q.side q.port)

-- an open port, and the first of all
pub record IsFirstOpen (g : GraphValue) (p : PortOpen) : Type 0 where
  pub is_open : IsOpen g p
  pub first : (other : PortOpen) → IsOpen g other → ¬ (IsBefore other p)

-- The ports of one node

-- each of the first ports of the side stands on a wire
abbrev pub AreWired : GraphValue → Side → NodeId → ℕ → Type 0
AreWired g side id count = (k : ℕ) → 1 ≤ k → k ≤ count → IsWired g.graph side (port_of g (port_at id k))

-- the first of these ports that stands on no wire
pub record IsFirstFree (g : GraphValue) (side : Side) (id : NodeId) (count port : ℕ) : Type 0 where
  pub some : 1 ≤ port
  pub few : port ≤ count
  pub free : ¬ (IsWired g.graph side (port_of g (port_at id port)))
  pub first : (k : ℕ) → 1 ≤ k → k < port → IsWired g.graph side (port_of g (port_at id k))

-- each port of the node stands on a wire
abbrev pub IsClosed : GraphValue → NodeId → Type 0
IsClosed g id = (side : Side) (k : ℕ) (shape : Shape) → HasShape g.graph side (port_of g (port_at id k)) shape → IsWired g.graph side (port_of g (port_at id k))

-- the first open port of the node
pub record IsFirstOpenAt (g : GraphValue) (id : NodeId) (p : PortOpen) : Type 0 where
  pub at : p.node ≡ id
  pub is_open : IsOpen g p
  pub first : (other : PortOpen) → other.node ≡ id → IsOpen g other → ¬ (ComesBefore other.side other.port p.side p.port)
