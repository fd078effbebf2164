-- What holds on the way to the nodes that may feed a loop.
use Rattle.std.proofs.Common.{◌≡◌, ◌⊎◌, ℕ, ◌<◌, ◌≤◌, List, Some}
use Rattle.std.specs.Prelude.{slice_get}
use Rattle.components.specs.Name.{Name, Port}
use Rattle.circuits.specs.Circuit.{circuit_of}
use Rattle.loop_laws.specs.Reached.{port_at, HasKind}
use Rattle.loop_laws.specs.Feeders.{IsConstant}
use Rattle.graph_core.specs.declared.place.NodeId.{NodeId}
use Rattle.graph_core.specs.GraphValue.{GraphValue, Denotes, name_by}
use Rattle.loop_find.specs.Feeding.{AreLaid, FeedsAt}
use Rattle.loop_find.specs.Walks.{Has}

-- the node stands at a place below this one
abbrev pub StandsBelow : GraphValue → List NodeId → ℕ → Name → Type 0
StandsBelow g ids k n = (i : ℕ) × (id : NodeId) × (i < k) × (slice_get ids i ≡ Some id) × Denotes g id n

-- those that feed nodes of which this holds alone are there
abbrev pub HasAllBy : GraphValue → List NodeId → (Name → Type 0) → List NodeId → Type 0
HasAllBy g takers D ids =
    (p q : Port) → (circuit_of g.graph).feeder p ≡ Some q → HasKind (circuit_of g.graph) IsConstant q.node → ¬ (Has g takers q.node) →
    ((s r : Port) → s.node ≡ q.node → (circuit_of g.graph).feeder r ≡ Some s → D r.node) → Has g ids q.node

-- what feeds the first takers and the first nodes of the set is considered
pub record Feeding (g : GraphValue) (takers ids : List NodeId) (k j : ℕ) : Type 0 where
  pub laid : AreLaid g takers ids
  pub all : HasAllBy g takers (λ n. StandsBelow g takers k n ⊎ StandsBelow g ids j n) ids

-- the outputs below this one feed the two sets alone
abbrev pub FeedsBelow : GraphValue → List NodeId → List NodeId → NodeId → ℕ → Type 0
FeedsBelow g takers ids id port = (k : ℕ) → 1 ≤ k → k < port → FeedsAt g takers ids (port_at (name_by g.ids id) k)
