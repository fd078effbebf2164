-- Sets of nodes, in the order in which they were put in.
use Rattle.std.specs.Prelude.{◌≡◌, ℕ, List, [], ◌∷◌, ◌++◌, Some, slice_get}
use Rattle.circuits.specs.Replacing.{In}
use Rattle.graph_core.specs.declared.place.NodeId.{NodeId}
use Rattle.graph_core.specs.Place.{index_of}

-- the nodes, and how many indices there is room for
pub record NodeSetValue : Type 0 where
  pub ids : List NodeId
  pub room : ℕ

-- under the index of each node stands its place
abbrev pub HavePlaces : List NodeId → List ℕ → Type 0
HavePlaces ids places = (k : ℕ) (id : NodeId) → slice_get ids k ≡ Some id → slice_get places (index_of id) ≡ Some k

-- no node stands at two places
abbrev pub AreDifferent : List NodeId → Type 0
AreDifferent ids = (j k : ℕ) (id : NodeId) → slice_get ids j ≡ Some id → slice_get ids k ≡ Some id → j ≡ k

-- the node stands in the set, behind those that stood there if it is new
pub record IsPut (ids : List NodeId) (id : NodeId) (with_it : List NodeId) : Type 0 where
  pub there : In id ids → with_it ≡ ids
  pub added : ¬ (In id ids) → with_it ≡ ids ++ id ∷ []
