-- What stands in two graphs by names.
use Rattle.std.specs.Prelude.{◌≡◌, ℕ, Some, IsSome}
use Rattle.std.specs.FinMap as map
use Rattle.components.specs.Name.{Name, Port, port_get}
use Rattle.components.specs.Kind.{ins}
use Rattle.components.specs.Node.{Body}
use Rattle.components.specs.NamedGraph.{NamedGraph}
use Rattle.graph_core.specs.declared.place.NodeId.{NodeId}
use Rattle.graph_core.specs.GraphValue.{GraphValue, Denotes}

-- what feeds an input of the first graph feeds an input of the second
abbrev pub IsFedIn : NamedGraph → Port → NamedGraph → Port → Type 0
IsFedIn a p b q = (source : Port) → map.get a.feeders p ≡ Some source → map.get b.feeders q ≡ Some source

-- a node of the first graph stands in the second, and what feeds its inputs feeds them there
pub record StandsIn (a : NamedGraph) (name : Name) (body : Body) (b : NamedGraph) : Type 0 where
  pub node : map.get b.nodes name ≡ Some body
  pub wires : (port : ℕ) → IsSome (port_get (ins body.kind) port) →
      IsFedIn a (record { node = name; port = port }) b (record { node = name; port = port })

-- the live node of this id, if any, stands in the second graph
abbrev pub IdStandsIn : GraphValue → NodeId → NamedGraph → Type 0
IdStandsIn a id b = (name : Name) (body : Body) → Denotes a id name → map.get a.graph.nodes name ≡ Some body → StandsIn a.graph name body b

-- each node and each wire of the first graph stands in the second
pub record IsWithin (a b : NamedGraph) : Type 0 where
  pub nodes : (name : Name) (body : Body) → map.get a.nodes name ≡ Some body → map.get b.nodes name ≡ Some body
  pub wires : (p : Port) → IsFedIn a p b p
