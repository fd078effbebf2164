-- What stands at a node at the start.
use Rattle.std.specs.Prelude.{◌≡◌, ℕ, ◌+◌, ◌<◌, List, [], length, Option, Some, None}
use Rattle.std.specs.FinMap as finite
use Rattle.components.specs.declared.kind.Kind.{Kind}
use Rattle.components.specs.declared.kind.Kind.TheVariants.{Init}
use Rattle.components.specs.Name.{Name, Port}
use Rattle.components.specs.Kind.{ins}
use Rattle.components.specs.Node.{Body}
use Rattle.circuits.specs.PortTokens.{Token}
use Rattle.circuits.specs.Circuit.{circuit_of, kind_of}
use Rattle.circuits.specs.CircuitState.{initial}
use Rattle.graph_core.specs.declared.place.NodeId.{NodeId}
use Rattle.graph_core.specs.GraphValue.{GraphValue, Denotes}
use Rattle.states.specs.Place.{PlaceValue, queue_at}

-- the value of an Init
abbrev pub init_value : Option Kind → Option ℕ
init_value (Some (Init value mark)) = Some value
init_value _ = None

-- what the wire into this input holds
abbrev pub held : GraphValue → Port → List Token
held g p = initial (kind_of (circuit_of g.graph) (finite.get g.graph.feeders p))

-- as many queues as this, each with what its wire holds
pub record AreHeld (g : GraphValue) (name : Name) (inputs : ℕ) (queues : List (List Token)) : Type 0 where
  pub count : length queues ≡ inputs
  pub held : (input : ℕ) → input < inputs → queue_at queues input ≡ held g (record { node = name; port = input + 1 })

-- where the id is that of a node, this stands there at the start
pub record IsHeldAt (g : GraphValue) (id : NodeId) (place : PlaceValue) : Type 0 where
  pub slots : place.slots ≡ []
  pub queues : (name : Name) (body : Body) → Denotes g id name → finite.get g.graph.nodes name ≡ Some body → AreHeld g name (length (ins body.kind)) place.queues
