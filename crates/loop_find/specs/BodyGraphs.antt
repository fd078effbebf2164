-- The graph of numbers of a set of nodes: the places of the nodes, and the wires between them.
use Rattle.std.specs.Prelude.{◌≡◌, ◌⊎◌, ◌↔◌, ℕ, List, Bool, true, Some, length, slice_get}
use Rattle.components.specs.Name.{Name, Port}
use Rattle.circuits.specs.Circuit.{circuit_of}
use Rattle.circuits.specs.Replacing.{In}
use Rattle.digraph.specs.Edges.{HasEdge}
use Rattle.graph_core.specs.declared.place.NodeId.{NodeId}
use Rattle.graph_core.specs.GraphValue.{GraphValue, Denotes}
use Rattle.loop_find.specs.NodeSets.{IsPut}

-- the node of this name stands at the place
abbrev pub StandsAt : GraphValue → List NodeId → ℕ → Name → Type 0
StandsAt g ids k n = (id : NodeId) × (slice_get ids k ≡ Some id) × Denotes g id n

-- the node at the place u feeds the input
abbrev pub FeedsFrom : GraphValue → List NodeId → Port → ℕ → Type 0
FeedsFrom g ids p u = (q : Port) × ((circuit_of g.graph).feeder p ≡ Some q) × StandsAt g ids u q.node

-- an edge for the wire into an input, or into any input, of the node at a place
abbrev pub InputEdge : GraphValue → List NodeId → Port → ℕ → ℕ → ℕ → Type 0
InputEdge g ids p place u w = FeedsFrom g ids p u × (w ≡ place)

abbrev pub NodeEdge : GraphValue → List NodeId → Name → ℕ → ℕ → ℕ → Type 0
NodeEdge g ids n place u w = (p : Port) × (p.node ≡ n) × InputEdge g ids p place u w

-- an edge for each wire between nodes of the set
pub record IsGraphOfSet (g : GraphValue) (ids : List NodeId) (rows : List (List ℕ)) : Type 0 where
  pub size : length rows ≡ length ids
  pub edges : (u w : ℕ) → HasEdge rows u w ↔ ((p : Port) × StandsAt g ids w p.node × FeedsFrom g ids p u)

-- the node at a place stands in the list if this is told of the place
abbrev pub IsTold : List Bool → ℕ → NodeId → List NodeId → List NodeId → Type 0
IsTold on place id before after = ((slice_get on place ≡ Some true) × IsPut before id after) ⊎ (¬ (slice_get on place ≡ Some true) × (after ≡ before))

-- the nodes at the places of which this is told
abbrev pub AreTold : List NodeId → List Bool → List NodeId → Type 0
AreTold ids on found = (id : NodeId) → In id found ↔ ((k : ℕ) × (slice_get ids k ≡ Some id) × (slice_get on k ≡ Some true))
