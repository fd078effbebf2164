-- Walks along wires, forward from some nodes, into nodes of some kinds alone.
use Rattle.std.specs.Prelude.{◌≡◌, ◌↔◌, ℕ, List, ◌++◌, Bool, true, false, Option, Some}
use Rattle.components.specs.declared.kind.Kind.{Kind}
use Rattle.components.specs.declared.kind.Kind.TheVariants.{Buffer, Fork, Join, Split, Operator, Constant, Sink0, Pure, Mux, Branch}
use Rattle.components.specs.Name.{Name, Port}
use Rattle.circuits.specs.Circuit.{Circuit, circuit_of}
use Rattle.circuits.specs.Replacing.{In}
use Rattle.circuits.specs.Root.{PassesThrough}
use Rattle.loop_laws.specs.Reached.{port_at, HasKind, IsPassed}
use Rattle.loop_laws.specs.Faults.{IsMux, IsBranch}
use Rattle.graph_core.specs.declared.place.NodeId.{NodeId}
use Rattle.graph_core.specs.GraphValue.{GraphValue, Denotes, name_by}
use Rattle.loop_find.specs.declared.walk.Way.{Way}
use Rattle.loop_find.specs.declared.walk.Way.TheVariants.{Tree, Body, Selects, Leaves, Branches}

-- the id is that of a node of which this holds
abbrev pub Picks : GraphValue → (Name → Type 0) → NodeId → Type 0
Picks g P id = (n : Name) × Denotes g id n × P n

-- the ids are those of all nodes of which this holds
abbrev pub AreAll : GraphValue → (Name → Type 0) → List NodeId → Type 0
AreAll g P ids = (id : NodeId) → In id ids ↔ Picks g P id

-- each id is that of a node
abbrev pub AreLive : GraphValue → List NodeId → Type 0
AreLive g ids = (id : NodeId) → In id ids → Denotes g id (name_by g.ids id)

-- a Buffer or a Fork
abbrev pub passes_through : Option Kind → Bool
passes_through (Some (Buffer shape)) = true
passes_through (Some (Fork shape count)) = true
passes_through _ = false

abbrev pub is_branch : Option Kind → Bool
is_branch (Some (Branch shape)) = true
is_branch _ = false

-- the select of a Mux
abbrev pub IsSelect : Circuit → Port → Type 0
IsSelect c p = (p.port ≡ 1) × HasKind c IsMux p.node

-- what a walk goes into: in a tree Forks and Buffers, behind the lanes of a mark all but Branches and the mark; from a tree to its lanes Muxes by their selects,
-- and to what should not be there all else; from a body to Branches
abbrev pub Enters : GraphValue → Way → Port → Type 0
Enters g Tree p = HasKind (circuit_of g.graph) PassesThrough p.node
Enters g (Body mark) p = IsPassed (circuit_of g.graph) (name_by g.ids mark) p.node
Enters g Selects p = IsSelect (circuit_of g.graph) p
Enters g Leaves p = ¬ (HasKind (circuit_of g.graph) PassesThrough p.node) × ¬ (IsSelect (circuit_of g.graph) p)
Enters g Branches p = HasKind (circuit_of g.graph) IsBranch p.node

-- a walk goes on from one node into another
pub record Follows (g : GraphValue) (way : Way) (from n : Name) : Type 0 where
  pub input : ℕ
  pub source : Port
  pub leaves : source.node ≡ from
  pub fed : (circuit_of g.graph).feeder (port_at n input) ≡ Some source
  pub enters : Enters g way (port_at n input)

abbrev pub is_mux : Option Kind → Bool
is_mux (Some (Mux shape)) = true
is_mux _ = false

-- the kinds that may be reached
abbrev pub is_pure : Option Kind → Bool
is_pure (Some (Buffer shape)) = true
is_pure (Some (Fork shape count)) = true
is_pure (Some (Join shapes)) = true
is_pure (Some (Split shapes)) = true
is_pure (Some (Operator op widths width)) = true
is_pure (Some (Constant shape width value)) = true
is_pure (Some (Pure fun shape)) = true
is_pure (Some (Sink0 shape)) = true
is_pure _ = false

-- what one step from these nodes comes to
abbrev pub SteppedTo : GraphValue → Way → List NodeId → Name → Type 0
SteppedTo g way from n = (id : NodeId) × In id from × Follows g way (name_by g.ids id) n

-- what walks from these nodes come to
pub data WalkedTo (g : GraphValue) (way : Way) (from : List NodeId) : Name → Type 0 where
  begun : {n : Name} (id : NodeId) → In id from → Denotes g id n → WalkedTo g way from n
  onward : {n : Name} (k : Name) → WalkedTo g way from k → Follows g way k n → WalkedTo g way from n

-- more nodes behind the others, each one of which this holds
pub record Grows (g : GraphValue) (P : Name → Type 0) (before after : List NodeId) : Type 0 where
  pub more : List NodeId
  pub is : after ≡ before ++ more
  pub each : (id : NodeId) → In id more → Picks g P id

-- the node of this name is among them
abbrev pub Has : GraphValue → List NodeId → Name → Type 0
Has g ids n = (id : NodeId) × Denotes g id n × In id ids

-- all that follow one output, or any output of a node
abbrev pub HasBehind : GraphValue → Way → Port → List NodeId → Type 0
HasBehind g way source ids = (n : Name) (i : ℕ) → (circuit_of g.graph).feeder (port_at n i) ≡ Some source → Enters g way (port_at n i) → Has g ids n

abbrev pub HasFollowers : GraphValue → Way → Name → List NodeId → Type 0
HasFollowers g way from ids = (n : Name) → Follows g way from n → Has g ids n
