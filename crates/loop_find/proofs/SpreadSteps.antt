-- What holds on the way of a walk along wires, either way.
use Rattle.std.proofs.Common.{◌≡◌, ℕ, ◌<◌, List, Some}
use Rattle.std.specs.Prelude.{slice_get}
use Rattle.components.specs.Name.{Name}
use Rattle.circuits.specs.Replacing.{In}
use Rattle.loop_laws.specs.Reached.{port_at}
use Rattle.graph_core.specs.declared.place.NodeId.{NodeId}
use Rattle.graph_core.specs.GraphValue.{GraphValue, name_by}
use Rattle.loop_find.specs.Spreading.{IsJoined, JoinedTo, SourceOf, TargetOf}
use Rattle.loop_find.specs.Walks.{Has, Picks}

-- the nodes at the ports below this one
abbrev pub TargetBelow : GraphValue → List NodeId → NodeId → ℕ → Name → Type 0
TargetBelow g within id port n = (k : ℕ) × (k < port) × TargetOf g within (port_at (name_by g.ids id) k) n

abbrev pub SourceBelow : GraphValue → List NodeId → NodeId → ℕ → Name → Type 0
SourceBelow g within id port n = (k : ℕ) × (k < port) × SourceOf g within (port_at (name_by g.ids id) k) n

-- wires lead to all that are there, and what is joined with those before this place is there
pub record Spreading (g : GraphValue) (within from ids : List NodeId) (next : ℕ) : Type 0 where
  pub started : (id : NodeId) → In id from → In id ids
  pub reached : (id : NodeId) → In id ids → Picks g (JoinedTo g within from) id
  pub closed : (k : ℕ) (id : NodeId) (n : Name) → k < next → slice_get ids k ≡ Some id → IsJoined g within (name_by g.ids id) n → Has g ids n
