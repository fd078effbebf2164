-- A node of a graph in memory that has fired.
use Rattle.std.specs.Prelude.{◌≡◌, ℕ, ◌+◌, ◌-◌, ◌<◌, ◌≤◌, List, [], ◌++◌, length, replicate, slice_set, IsSome, Bool, true, false}
use Rattle.std.specs.FinMap as finite
use Rattle.port_types.specs.declared.side.Side.TheVariants.{Outs}
use Rattle.components.specs.Name.{Name, Port}
use Rattle.components.specs.NamedGraph.{IsTyped}
use Rattle.circuits.specs.PortTokens.{Token, share_from}
use Rattle.graph_core.specs.declared.place.NodeId.{NodeId}
use Rattle.graph_core.specs.declared.place.PortAt.{PortAt}
use Rattle.graph_core.specs.Place.{index_of}
use Rattle.graph_core.specs.GraphValue.{GraphValue, name_by}
use Rattle.graph_core.specs.Wiring.{HasPort}
use Rattle.states.specs.declared.change.Change.{Change}
use Rattle.states.specs.declared.taking.Taking.{Taking}
use Rattle.states.specs.Enabled.{FiresTo, IsEnabled}
use Rattle.states.specs.Giving.{changed_slots}
use Rattle.states.specs.Place.{PlaceValue}
use Rattle.states.specs.Taking.{IsWithin, taken_queues}
use Rattle.states.specs.GraphState.{Places, HasPlaces, place_at, state_of}

-- the node has fired, and this is the state that it fires to; or it cannot fire, and nothing has changed
abbrev pub HasFired : GraphValue → Places → NodeId → ℕ → Places → Bool → Type 0
HasFired g s node choice t true = FiresTo g s node choice (state_of g t)
HasFired g s node choice t false = (t ≡ s) × ¬ (IsEnabled g s node choice)

-- How it comes about: first what the node gives is put behind what stands on its outputs' wires, then it takes

-- what is given at the outputs from this one on
abbrev pub side_from : ℕ → List (List Token) → List (List Token)
side_from port side = replicate (port - 1) [] ++ side

abbrev pub finished_place : Taking → Change → PlaceValue → PlaceValue
finished_place taking change place = record { queues = taken_queues taking place.queues; slots = changed_slots change place.slots }

abbrev pub finished_at : Places → NodeId → Taking → Change → Places
finished_at s id taking change = slice_set s (index_of id) (finished_place taking change (place_at s id))

-- with what the node gives on the wires behind it
pub record IsPut (g : GraphValue) (s : Places) (n : Name) (side : List (List Token)) (t : Places) : Type 0 where
  pub has : HasPlaces g t
  pub wires : (r : Port) → (state_of g t).wires r ≡ (state_of g s).wires r ++ share_from n side (finite.get g.graph.feeders r)
  pub slots : (m : Name) → (state_of g t).slots m ≡ (state_of g s).slots m

-- the node has given, taken, and changed its slots
pub record IsSettled (g : GraphValue) (s : Places) (id : NodeId) (side : List (List Token)) (taking : Taking) (change : Change) (t : Places) : Type 0 where
  pub given : Places
  pub is_put : IsPut g s (name_by g.ids id) side given
  pub is : t ≡ finished_at given id taking change

-- so many outputs are there, from this one on, and what the node takes stands at its inputs
pub record CanSettle (g : GraphValue) (s : Places) (output : PortAt) (count : ℕ) (taking : Taking) : Type 0 where
  pub typed : IsTyped g.graph
  pub has : HasPlaces g s
  pub live : IsSome (finite.get g.ids output.node)
  pub some : 1 ≤ output.port
  pub few : output.port + count < 256
  pub there : (port : ℕ) → output.port ≤ port → port < output.port + count → HasPort g.graph Outs (record { node = name_by g.ids output.node; port = port })
  pub within : IsWithin taking (length (place_at s output.node).queues)
