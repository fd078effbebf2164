-- The graph of numbers whose edges are the wires that a walk may go by.
use Rattle.std.specs.Prelude.{◌≡◌, ◌⊎◌, ◌↔◌, ℕ, List, true, Some, length}
use Rattle.std.specs.FinMap as finite
use Rattle.digraph.specs.Edges.{HasEdge}
use Rattle.graph_core.specs.declared.place.NodeId.{NodeId}
use Rattle.graph_core.specs.declared.place.PortAt.{PortAt}
use Rattle.graph_core.specs.GraphValue.{GraphValue, port_of}
use Rattle.loop_find.specs.declared.spots.Spot.{Spot}
use Rattle.loop_find.specs.Spots.{leaves_at, vertex_at}

-- a walk may go by the wire into this input, from the number u to the number w
pub record Crosses (g : GraphValue) (spots : List Spot) (target : PortAt) (u w : ℕ) : Type 0 where
  pub source : PortAt
  pub fed : finite.get g.graph.feeders (port_of g target) ≡ Some (port_of g source)
  pub leaves : leaves_at spots source.node source.port ≡ true
  pub from : u ≡ vertex_at spots source.node
  pub to : w ≡ vertex_at spots target.node

-- with these edges more
pub record Adds (P : ℕ → ℕ → Type 0) (before after : List (List ℕ)) : Type 0 where
  pub size : length after ≡ length before
  pub edges : (u w : ℕ) → HasEdge after u w ↔ (HasEdge before u w ⊎ P u w)

-- with an edge for each such wire into a node
abbrev pub CrossesNode : GraphValue → List Spot → NodeId → ℕ → ℕ → Type 0
CrossesNode g spots id u w = (port : ℕ) × Crosses g spots (record { node = id; port = port }) u w

-- the graph of all such wires
pub record IsGraphOfPlaces (g : GraphValue) (spots : List Spot) (rows : List (List ℕ)) : Type 0 where
  pub size : length rows ≡ g.slots
  pub edges : (u w : ℕ) → HasEdge rows u w ↔ ((id : NodeId) × CrossesNode g spots id u w)
