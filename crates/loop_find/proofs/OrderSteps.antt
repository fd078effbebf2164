-- What holds on the way to the order of a body.
use Rattle.std.proofs.Common.{◌≡◌, ℕ, ◌<◌, ◌≤◌, List, [], Bor, Some}
use Rattle.std.specs.Prelude.{slice_get}
use Rattle.components.specs.Name.{Name}
use Rattle.circuits.specs.Circuit.{circuit_of}
use Rattle.circuits.specs.Replacing.{In}
use Rattle.loop_laws.specs.Reached.{port_at}
use Rattle.loop_laws.specs.BodyOrder.{InBodyOrder}
use Rattle.graph_core.specs.declared.place.NodeId.{NodeId}
use Rattle.graph_core.specs.GraphValue.{GraphValue, Denotes, name_by}
use Rattle.loop_find.specs.BodyOrders.{HasKey, IsEntry, IsFedAt, IsFedFrom, IsNext, Tree}
use Rattle.loop_find.specs.Marks.{names_by}

-- what feeds the first inputs of the node from the body is placed
abbrev pub IsFedBelow : GraphValue → List NodeId → List NodeId → NodeId → ℕ → Type 0
IsFedBelow g body placed id port = (k : ℕ) → 1 ≤ k → k < port → IsFedAt g body placed (port_at (name_by g.ids id) k)

-- one of the first outputs of the node feeds the other node
abbrev pub IsFedFromBelow : GraphValue → NodeId → ℕ → Name → Type 0
IsFedFromBelow g id port n = (k : ℕ) × (k < port) × IsFedFrom g (port_at (name_by g.ids id) k) n

-- the node is one of the first of the body
abbrev pub IsAmong : GraphValue → List NodeId → ℕ → Name → Type 0
IsAmong g body next n = (k : ℕ) × (id : NodeId) × (k < next) × (slice_get body k ≡ Some id) × Denotes g id n

-- the nodes that are placed are in order, and the tree has those that are next
pub record Ordering (g : GraphValue) (body placed : List NodeId) (tree : Tree) : Type 0 where
  pub inside : (id : NodeId) → In id placed → In id body
  pub in_order : InBodyOrder (circuit_of g.graph) (names_by g body) [] (names_by g placed)
  pub each : (e : Bor Name × NodeId) → In e tree → IsEntry g body placed e
  pub all : (n : Name) → IsNext g body placed n → HasKey tree n
