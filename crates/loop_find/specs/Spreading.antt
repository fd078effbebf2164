-- Walks along wires, either way, within a set.
use Rattle.std.specs.Prelude.{◌≡◌, ◌⊎◌, List, ◌++◌, Some}
use Rattle.components.specs.Name.{Name, Port}
use Rattle.circuits.specs.Circuit.{circuit_of}
use Rattle.circuits.specs.Replacing.{In}
use Rattle.graph_core.specs.declared.place.NodeId.{NodeId}
use Rattle.graph_core.specs.GraphValue.{GraphValue, Denotes}
use Rattle.loop_find.specs.Walks.{Has, Picks}

-- the node of the set that feeds an input, or that an output feeds
abbrev pub SourceOf : GraphValue → List NodeId → Port → Name → Type 0
SourceOf g within p n = Has g within n × (q : Port) × ((circuit_of g.graph).feeder p ≡ Some q) × (q.node ≡ n)

abbrev pub TargetOf : GraphValue → List NodeId → Port → Name → Type 0
TargetOf g within q n = Has g within n × (p : Port) × ((circuit_of g.graph).feeder p ≡ Some q) × (p.node ≡ n)

-- the same of any input or output of a node
abbrev pub IsSource : GraphValue → List NodeId → Name → Name → Type 0
IsSource g within a n = (p : Port) × (p.node ≡ a) × SourceOf g within p n

abbrev pub IsTarget : GraphValue → List NodeId → Name → Name → Type 0
IsTarget g within a n = (q : Port) × (q.node ≡ a) × TargetOf g within q n

-- a wire joins the node with this one of the set, one way or the other
abbrev pub IsJoined : GraphValue → List NodeId → Name → Name → Type 0
IsJoined g within a n = IsTarget g within a n ⊎ IsSource g within a n

-- behind those that were there stand all nodes of which this holds, and no others
pub record Brings (g : GraphValue) (P : Name → Type 0) (before after : List NodeId) : Type 0 where
  pub more : List NodeId
  pub grows : after ≡ before ++ more
  pub each : (id : NodeId) → In id more → Picks g P id
  pub has : (n : Name) → P n → Has g after n

-- what wires lead to, either way, from some nodes and within a set
pub data JoinedTo (g : GraphValue) (within from : List NodeId) : Name → Type 0 where
  begun : {n : Name} (id : NodeId) → In id from → Denotes g id n → JoinedTo g within from n
  onward : {n : Name} (k : Name) → JoinedTo g within from k → IsJoined g within k n → JoinedTo g within from n
