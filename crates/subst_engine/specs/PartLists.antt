-- What goes and what comes where a part of a graph is replaced, as lists.
use Rattle.std.specs.Prelude.{◌≡◌, ◌≢◌, ◌⊎◌, ℕ, ◌<◌, true, false, List, length, Some, All, AllPairs, Contains, slice_index}
use Rattle.std.specs.FinMap as finite
use Rattle.components.specs.declared.node.Node.{Node}
use Rattle.components.specs.Name.{Name, Port}
use Rattle.components.specs.NamedGraph.{NamedGraph}
use Rattle.components.specs.Node.{NodeOk, body_of}
use Rattle.circuits.specs.Circuit.{circuit_of}
use Rattle.circuits.specs.ReplacedGraph.{has_inner}
use Rattle.graph_core.specs.declared.exchange.End.{End}
use Rattle.graph_core.specs.declared.exchange.End.TheVariants.{Old, Fresh}
use Rattle.graph_core.specs.declared.place.NodeId.{NodeId}
use Rattle.graph_core.specs.Exchange.{IsAtNode, end_ports, fresh_name}
use Rattle.graph_core.specs.GraphValue.{GraphValue, Denotes}
use Rattle.graph_core.specs.Place.{id_of}
use Rattle.subst_engine.specs.Gathered.{Gathered}
use Rattle.subst_engine.specs.NewWires.{IsNewWire}

-- Whole lists

-- g has each inner node of left, with its name and its kind
abbrev pub HasNodesOf : NamedGraph → NamedGraph → Type 0
HasNodesOf g left = (name : Name) → has_inner left name ≡ true → (circuit_of g).kind_at name ≡ (circuit_of left).kind_at name

-- the id of a node of g with the name of an inner node of left
abbrev pub IsGone : GraphValue → NamedGraph → NodeId → Type 0
IsGone g left id = (name : Name) × Denotes g id name × (has_inner left name ≡ true)

-- these ids, each once
pub record AreGone (g : GraphValue) (left : NamedGraph) (gone : List NodeId) : Type 0 where
  pub are : All (IsGone g left) gone
  pub each : (id : NodeId) → IsGone g left id → Contains gone id
  pub once : AllPairs (λ i j. i ≢ j) gone

-- an inner node of right
pub record IsFresh (right : NamedGraph) (node : Node) : Type 0 where
  pub ok : NodeOk node
  pub inner : has_inner right node.name ≡ true
  pub body : finite.get right.nodes node.name ≡ Some (body_of node)

-- the inner nodes of right, each once
pub record AreFresh (right : NamedGraph) (fresh : List Node) : Type 0 where
  pub are : All (IsFresh right) fresh
  pub each : (name : Name) → has_inner right name ≡ true → (node : Node) × Contains fresh node × (node.name ≡ name)
  pub once : AllPairs (λ a b. a.name ≢ b.name) fresh

-- a new wire for some input of right
abbrev pub ServesSomeInput : NamedGraph → NamedGraph → NamedGraph → Port × Port → Type 0
ServesSomeInput g left right wire = (p r : Port) × (finite.get right.feeders p ≡ Some r) × IsNewWire g left right p wire

-- the new wires, one for each input of right, where the new nodes are these
pub record AreNewWires (g : GraphValue) (left right : NamedGraph) (gone : List NodeId) (fresh : List Node) (wires : List (End × End)) : Type 0 where
  pub ends : All (λ wire. IsAtNode g gone fresh wire.0 × IsAtNode g gone fresh wire.1) wires
  pub are : All (λ wire. ServesSomeInput g.graph left right (end_ports g fresh wire)) wires
  pub each : (p r : Port) → finite.get right.feeders p ≡ Some r → (wire : End × End) × Contains wires wire × IsNewWire g.graph left right p (end_ports g fresh wire)
  pub once : AllPairs (λ a b. (end_ports g fresh a).1 ≢ (end_ports g fresh b).1) wires

-- How far they are gathered, by the indices of left or of right

-- the inner node of this index has this name
pub record IsInnerAt (v : GraphValue) (index : ℕ) (name : Name) : Type 0 where
  pub denotes : Denotes v (id_of index) name
  pub inner : has_inner v.graph name ≡ true

-- the name of an inner node whose index is below the bound
abbrev pub IsInnerBelow : GraphValue → ℕ → Name → Type 0
IsInnerBelow v bound name = (index : ℕ) × (index < bound) × IsInnerAt v index name

abbrev pub GoneBelow : GraphValue → GraphValue → ℕ → List NodeId → Type 0
GoneBelow g left bound gone = Gathered (IsInnerBelow left bound) (λ name id. Denotes g id name) (λ i j. i ≢ j) gone

abbrev pub FreshBelow : GraphValue → ℕ → List Node → Type 0
FreshBelow right bound fresh = Gathered (IsInnerBelow right bound) (λ name node. (node.name ≡ name) × IsFresh right.graph node) (λ a b. a.name ≢ b.name) fresh

-- the place of each of these nodes stands under its index
pub record ArePlaced (right : GraphValue) (bound : ℕ) (fresh : List Node) (places : List ℕ) : Type 0 where
  pub count : length places ≡ bound
  pub within : (index : ℕ) (name : Name) → index < bound → IsInnerAt right index name → slice_index places index < length fresh
  pub named : (index : ℕ) (name : Name) → index < bound → IsInnerAt right index name → fresh_name fresh (slice_index places index) ≡ name

-- the end is at a node of g that stays, or at a new one
abbrev pub IsAtPlace : GraphValue → NamedGraph → List Node → End → Type 0
IsAtPlace g left fresh (Old p) = (name : Name) × Denotes g p.node name × (has_inner left name ≡ false)
IsAtPlace g left fresh (Fresh index port) = index < length fresh

-- the new wire for an input of right that stands on a wire
pub record IsWireFor (g : GraphValue) (left right : NamedGraph) (fresh : List Node) (p : Port) (wire : End × End) : Type 0 where
  pub before : Port
  pub fed : finite.get right.feeders p ≡ Some before
  pub is_new : IsNewWire g.graph left right p (end_ports g fresh wire)
  pub source : IsAtPlace g left fresh wire.0
  pub target : IsAtPlace g left fresh wire.1

abbrev pub TargetsDiffer : GraphValue → List Node → End × End → End × End → Type 0
TargetsDiffer g fresh a b = (end_ports g fresh a).1 ≢ (end_ports g fresh b).1

-- an input of right that stands on a wire, of a node whose index is below the bound
pub record IsInputBelow (right : GraphValue) (bound : ℕ) (p : Port) : Type 0 where
  pub index : ℕ
  pub below : index < bound
  pub denotes : Denotes right (id_of index) p.node
  pub before : Port
  pub fed : finite.get right.graph.feeders p ≡ Some before

-- an input of right that stands on a wire, of the node with this index, with a number below the bound
pub record IsInputAt (right : GraphValue) (index bound : ℕ) (p : Port) : Type 0 where
  pub denotes : Denotes right (id_of index) p.node
  pub below : p.port < bound
  pub before : Port
  pub fed : finite.get right.graph.feeders p ≡ Some before

abbrev pub WiresBelow : GraphValue → NamedGraph → GraphValue → List Node → ℕ → List (End × End) → Type 0
WiresBelow g left right fresh bound wires = Gathered (IsInputBelow right bound) (IsWireFor g left right.graph fresh) (TargetsDiffer g fresh) wires

-- and those of the node with this index whose numbers are below the bound
abbrev pub WiresTo : GraphValue → NamedGraph → GraphValue → List Node → ℕ → ℕ → List (End × End) → Type 0
WiresTo g left right fresh index bound wires =
    Gathered (λ p. IsInputBelow right index p ⊎ IsInputAt right index bound p) (IsWireFor g left right.graph fresh) (TargetsDiffer g fresh) wires
