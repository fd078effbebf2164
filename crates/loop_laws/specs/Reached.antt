-- What is reached from a mark: its tree, its lanes, and what lies behind them.
use Rattle.std.specs.Prelude.{◌≡◌, ◌≢◌, ℕ, Some}
use Rattle.components.specs.declared.kind.Kind.{Kind}
use Rattle.components.specs.declared.kind.Kind.TheVariants.{Buffer, Fork, Join, Split, Operator, Constant, Sink0, Pure, Mux, Branch}
use Rattle.components.specs.Name.{Name, Port}
use Rattle.components.specs.Kind.{Shape}
use Rattle.circuits.specs.Circuit.{Circuit}
use Rattle.circuits.specs.Root.{PassesThrough}

-- port i of a side of node n
abbrev pub port_at : Name → ℕ → Port
port_at n i = record { node = n; port = i }

-- n is a node of a kind of which this holds
abbrev pub HasKind : Circuit → (Kind → Type 0) → Name → Type 0
HasKind c P n = (kind : Kind) × (c.kind_at n ≡ Some kind) × P kind

-- each input of n that is fed is fed by a node of which this holds
abbrev pub FedBy : Circuit → (Name → Type 0) → Name → Type 0
FedBy c P n = (i : ℕ) (q : Port) → c.feeder (port_at n i) ≡ Some q → P q.node

-- m, and the Forks and Buffers that are reached from it
pub data OnTree (c : Circuit) (m : Name) : Name → Type 0 where
  root : {n : Name} → n ≡ m → OnTree c m n
  grown : {n : Name} (i : ℕ) (q : Port) (kind : Kind) → OnTree c m q.node → c.feeder (port_at n i) ≡ Some q →
      c.kind_at n ≡ Some kind → PassesThrough kind → OnTree c m n

-- a lane of m: a Mux whose select comes from m or its tree
pub record IsLane (c : Circuit) (m lane : Name) : Type 0 where
  pub shape : Shape
  pub is_mux : c.kind_at lane ≡ Some (Mux shape)
  pub source : Port
  pub fed : c.feeder (port_at lane 1) ≡ Some source
  pub by_tree : OnTree c m source.node

-- a walk from the lanes goes on into n: it ends before a Branch and before m
abbrev pub IsPassed : Circuit → Name → Name → Type 0
IsPassed c m n = (n ≢ m) × ((shape : Shape) → c.kind_at n ≢ Some (Branch shape))

-- what is reached by wires from the outputs of the lanes
pub data Reached (c : Circuit) (m : Name) : Name → Type 0 where
  first : {n : Name} (i : ℕ) (q : Port) → IsLane c m q.node → c.feeder (port_at n i) ≡ Some q → IsPassed c m n → Reached c m n
  later : {n : Name} (i : ℕ) (q : Port) → Reached c m q.node → c.feeder (port_at n i) ≡ Some q → IsPassed c m n → Reached c m n

-- the kinds that may be reached
abbrev pub IsPure : Kind → Type 0
IsPure (Buffer shape) = Unit {0}
IsPure (Fork shape count) = Unit {0}
IsPure (Join shapes) = Unit {0}
IsPure (Split shapes) = Unit {0}
IsPure (Operator op widths width) = Unit {0}
IsPure (Constant shape width value) = Unit {0}
IsPure (Pure fun shape) = Unit {0}
IsPure (Sink0 shape) = Unit {0}
IsPure _ = ⊥
