-- What holds on the way: of the outputs of a node, and of a walk.
use Rattle.std.proofs.Common.{◌≡◌, ◌⊎◌, ℕ, ◌<◌, ◌≤◌, List, Some}
use Rattle.std.specs.Prelude.{slice_get}
use Rattle.circuits.specs.Replacing.{In}
use Rattle.graph_core.specs.declared.place.NodeId.{NodeId}
use Rattle.graph_core.specs.GraphValue.{GraphValue, name_by, port_of}
use Rattle.loop_find.specs.declared.walk.Way.{Way}
use Rattle.loop_laws.specs.BodyOrder.{IsBefore}
use Rattle.loop_find.specs.declared.choose.Test.{Test}
use Rattle.loop_find.specs.Judging.{Chosen, Fails}
use Rattle.loop_find.specs.Walks.{Follows, Grows, HasBehind, HasFollowers, Picks, SteppedTo, WalkedTo}

-- what follows the outputs of a node below this port is there
pub record Entering (g : GraphValue) (way : Way) (id : NodeId) (before after : List NodeId) (port : ℕ) : Type 0 where
  pub grows : Grows g (Follows g way (name_by g.ids id)) before after
  pub behind : (k : ℕ) → 1 ≤ k → k < port → HasBehind g way (port_of g (record { node = id; port = k })) after

-- walks from the first nodes have come to all that are there, and what follows those before this place is there
pub record Underway (g : GraphValue) (way : Way) (from ids : List NodeId) (next : ℕ) : Type 0 where
  pub started : (id : NodeId) → In id from → In id ids
  pub reached : (id : NodeId) → In id ids → Picks g (WalkedTo g way from) id
  pub closed : (k : ℕ) (id : NodeId) → k < next → slice_get ids k ≡ Some id → HasFollowers g way (name_by g.ids id) ids

-- one step from the first nodes leads to all that are there, and what follows those before this place is there
pub record Stepping (g : GraphValue) (way : Way) (from ids : List NodeId) (next : ℕ) : Type 0 where
  pub reached : (id : NodeId) → In id ids → Picks g (SteppedTo g way from) id
  pub closed : (k : ℕ) (id : NodeId) → k < next → slice_get from k ≡ Some id → HasFollowers g way (name_by g.ids id) ids

-- what is chosen fails the test, and what fails it before this place is chosen
pub record Choosing (g : GraphValue) (test : Test) (set from ids : List NodeId) (next : ℕ) : Type 0 where
  pub chosen : (id : NodeId) → In id ids → Picks g (Chosen g test set from) id
  pub all : (k : ℕ) (id : NodeId) → k < next → slice_get from k ≡ Some id → Fails g test set (name_by g.ids id) → In id ids

-- the node is in the list, and none before this place has a name before its name
pub record Least (g : GraphValue) (ids : List NodeId) (next : ℕ) (id : NodeId) : Type 0 where
  pub among : In id ids
  pub first : (k : ℕ) (x : NodeId) → k < next → slice_get ids k ≡ Some x → (x ≡ id) ⊎ IsBefore (name_by g.ids id) (name_by g.ids x)
