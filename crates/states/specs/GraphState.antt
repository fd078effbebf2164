-- States of graphs in memory, and the state by names that each stands for.
use Rattle.std.specs.Prelude.{◌≡◌, ◌-◌, ◌<◌, ◌≤◌, List, [], ◌∷◌, length, Option, Some, None, bytes_eq, if◌then◌else◌, slice_index_or, slice_set}
use Rattle.std.specs.FinMap as finite
use Rattle.components.specs.Name.{Name}
use Rattle.components.specs.Kind.{ins}
use Rattle.components.specs.Node.{Body}
use Rattle.components.specs.NamedGraph.{IsTyped}
use Rattle.circuits.specs.PortTokens.{Token, at_port}
use Rattle.circuits.specs.Circuit.{circuit_of}
use Rattle.circuits.specs.CircuitState.{CircuitState, IsStateOf}
use Rattle.graph_core.specs.declared.place.NodeId.{NodeId}
use Rattle.graph_core.specs.declared.place.PortAt.{PortAt}
use Rattle.graph_core.specs.GraphValue.{GraphValue, Denotes}
use Rattle.graph_core.specs.Place.{index_of}
use Rattle.states.specs.Place.{PlaceValue, no_place, queue_at}

-- what stands at each node, by the indices of the nodes
abbrev pub Places : Type 0
Places = List PlaceValue

-- the first of these ids that stands for the name
abbrev pub named_in : Name → List (NodeId × Name) → Option NodeId
named_in n [] = None
named_in n (e ∷ es) = if bytes_eq e.1 n then Some e.0 else named_in n es

-- the id of the node of this name
abbrev pub id_named : GraphValue → Name → Option NodeId
id_named g n = named_in n (finite.entries g.ids)

abbrev pub place_at : Places → NodeId → PlaceValue
place_at s id = slice_index_or s (index_of id) no_place

abbrev pub place_by : Places → Option NodeId → PlaceValue
place_by s None = no_place
place_by s (Some id) = place_at s id

-- what stands at the node of this name
abbrev pub place_of : GraphValue → Places → Name → PlaceValue
place_of g s n = place_by s (id_named g n)

-- the state by names: what stands at the input of a node, and in the slots of a node
abbrev pub state_of : GraphValue → Places → CircuitState
state_of g s = record { wires = λ p. at_port (place_of g s p.node).queues p.port; slots = λ n. (place_of g s n).slots }

-- the tokens at an input, by the id of its node
abbrev pub queue_of : Places → PortAt → List Token
queue_of s p = queue_at (place_at s p.node).queues (p.port - 1)

-- with other tokens at an input
abbrev pub with_queue : Places → PortAt → List Token → Places
with_queue s p queue = slice_set s (index_of p.node) (record (place_at s p.node) { queues = slice_set (place_at s p.node).queues (p.port - 1) queue })

-- there is a place for each node of the graph, with a queue for each of its inputs
pub record HasPlaces (g : GraphValue) (s : Places) : Type 0 where
  pub places : length s ≡ g.slots
  pub queues : (id : NodeId) (name : Name) (body : Body) → Denotes g id name → finite.get g.graph.nodes name ≡ Some body →
      length (place_at s id).queues ≡ length (ins body.kind)

-- the graph is typed, and this is a state of it
pub record IsStateIn (g : GraphValue) (s : Places) : Type 0 where
  pub typed : IsTyped g.graph
  pub has : HasPlaces g s
  pub state : IsStateOf (circuit_of g.graph) (state_of g s)

-- the input is there, at the node of this name
pub record IsInputAt (g : GraphValue) (s : Places) (p : PortAt) (n : Name) : Type 0 where
  pub denotes : Denotes g p.node n
  pub node : index_of p.node < length s
  pub some : 1 ≤ p.port
  pub few : p.port ≤ length (place_at s p.node).queues
