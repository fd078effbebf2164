-- The table of faults: what keeps a mark from having a loop, and at which node.
use Rattle.std.specs.Prelude.{◌≡◌, ◌≢◌, ◌⊎◌, ℕ, ◌<◌, Bool, List, length, Some}
use Rattle.components.specs.declared.kind.Kind.{Kind}
use Rattle.components.specs.declared.kind.Kind.TheVariants.{Mux, Branch}
use Rattle.components.specs.Name.{Name, Port}
use Rattle.circuits.specs.Circuit.{Circuit}
use Rattle.circuits.specs.Replacing.{In, NoneTwice}
use Rattle.circuits.specs.Root.{PassesThrough, Root}
use Rattle.loop_laws.specs.declared.fault.LoopFaultKind.{LoopFaultKind}
use Rattle.loop_laws.specs.declared.fault.LoopFaultKind.TheVariants.{SelectLeaf, NotPure, ForeignInput, BodyCycle, BodyTooBig, BackPath, LanesUneven, ConditionRoot, FreeCondition, FreeData, TooManyLanes, TooWide, OnCycle}
use Rattle.loop_laws.specs.Polarity.{back_in, back_out, IsMarkOf}
use Rattle.loop_laws.specs.Reached.{port_at, HasKind, OnTree, IsLane, Reached, IsPure}
use Rattle.loop_laws.specs.BackPath.{IsBuffer, Through, BranchOf, IsLaneBranch}
use Rattle.loop_laws.specs.Feeders.{Feeder}
use Rattle.loop_laws.specs.BodyOrder.{IsBefore}
use Rattle.loop_laws.specs.Weight.{weight_of, fields_of}

-- a body node: reached, or a feeder
abbrev pub InBody : Circuit → Name → Bool → Name → Type 0
InBody c m goes_back n = Reached c m n ⊎ Feeder c m goes_back n

-- a lane or a body node
abbrev pub Inside : Circuit → Name → Bool → Name → Type 0
Inside c m goes_back n = IsLane c m n ⊎ InBody c m goes_back n

abbrev pub IsMux : Kind → Type 0
IsMux (Mux shape) = Unit {0}
IsMux _ = ⊥

abbrev pub IsBranch : Kind → Type 0
IsBranch (Branch shape) = Unit {0}
IsBranch _ = ⊥

-- a walk along wires of the body, of at least one wire
pub data BodyPath (c : Circuit) (m : Name) (goes_back : Bool) (a : Name) : Name → Type 0 where
  wire : {b : Name} (i : ℕ) (q : Port) → q.node ≡ a → InBody c m goes_back a → c.feeder (port_at b i) ≡ Some q → InBody c m goes_back b →
      BodyPath c m goes_back a b
  further : {b : Name} (i : ℕ) (q : Port) → BodyPath c m goes_back a q.node → c.feeder (port_at b i) ≡ Some q → InBody c m goes_back b →
      BodyPath c m goes_back a b

-- r is the Branch of the lane that is first in byte order
pub record FirstBranch (c : Circuit) (m : Name) (goes_back : Bool) (r : Name) : Type 0 where
  pub lane : Name
  pub is_first : (other : Name) → IsLane c m other → other ≢ lane → IsBefore lane other
  pub its : BranchOf c m goes_back lane r

-- the two inputs have different roots, or just one of them has a root
abbrev pub RootsDiffer : Circuit → Port → Port → Type 0
RootsDiffer c p r = ((root : Port) → Root c p root → Root c r root → ⊥) × (root : Port) × (Root c p root ⊎ Root c r root)

-- the row of this kind holds at node n
abbrev pub Row : Circuit → Name → Bool → LoopFaultKind → Name → Type 0
-- a wire from m or the tree enters something other than a tree node or the select of a Mux
Row c m goes_back SelectLeaf n =
    (i : ℕ) × (q : Port) × OnTree c m q.node × (c.feeder (port_at n i) ≡ Some q) × ¬ (HasKind c PassesThrough n) × ¬ ((i ≡ 1) × HasKind c IsMux n)
-- a reached node is of a kind that is not pure
Row c m goes_back NotPure n = Reached c m n × ¬ (HasKind c IsPure n)
-- a body node has an input that comes neither from a lane nor from the body
Row c m goes_back ForeignInput n =
    InBody c m goes_back n × (i : ℕ) × (q : Port) × (c.feeder (port_at n i) ≡ Some q) × ¬ (Inside c m goes_back q.node)
-- a body node lies on a cycle of the body
Row c m goes_back BodyCycle n = BodyPath c m goes_back n n
-- more than 4096 body nodes, or a weight above 16384
Row c m goes_back BodyTooBig n =
    (n ≡ m) × (ns : List Name) × NoneTwice ns × ((x : Name) → In x ns → InBody c m goes_back x) × ((4096 < length ns) ⊎ (16384 < weight_of c ns))
-- a lane's back input comes, through Buffers alone, from something other than the back output of a Branch
Row c m goes_back BackPath n =
    IsLane c m n × (q : Port) × (bs : List Name) × Through c q bs (port_at n (back_in goes_back)) × ¬ (HasKind c IsBuffer q.node) ×
    ¬ ((q.port ≡ back_out goes_back) × HasKind c IsBranch q.node)
-- a wire from a lane or the body enters a Branch that is no lane's, or a lane's Branch has an input that comes neither from a lane nor from the body
Row c m goes_back LanesUneven n =
    HasKind c IsBranch n × (i : ℕ) × (q : Port) × (c.feeder (port_at n i) ≡ Some q) ×
    ((Inside c m goes_back q.node × ¬ (IsLaneBranch c m goes_back n)) ⊎ (IsLaneBranch c m goes_back n × ¬ (Inside c m goes_back q.node)))
-- the root of input 2 of a lane's Branch differs from that of the first lane's, at the first such Branch by lanes; or else that of m's input does
Row c m goes_back ConditionRoot n =
    (r : Name) × FirstBranch c m goes_back r ×
    (((lane : Name) × BranchOf c m goes_back lane n × RootsDiffer c (port_at n 2) (port_at r 2) ×
    ((other s : Name) → BranchOf c m goes_back other s → IsBefore other lane → ¬ (RootsDiffer c (port_at s 2) (port_at r 2)))) ⊎
    ((n ≡ m) × RootsDiffer c (port_at m 1) (port_at r 2) × ((lane s : Name) → BranchOf c m goes_back lane s → ¬ (RootsDiffer c (port_at s 2) (port_at r 2)))))
-- the root of input 2 of the first lane's Branch is an output of a feeder
Row c m goes_back FreeCondition n =
    (r : Name) × FirstBranch c m goes_back r × (root : Port) × Root c (port_at r 2) root × (root.node ≡ n) × Feeder c m goes_back n
-- input 1 of every lane's Branch comes from a feeder
Row c m goes_back FreeData n =
    FirstBranch c m goes_back n ×
    ((lane r : Name) → BranchOf c m goes_back lane r → (q : Port) → c.feeder (port_at r 1) ≡ Some q → Feeder c m goes_back q.node)
-- more than 62 lanes
Row c m goes_back TooManyLanes n = (n ≡ m) × (ns : List Name) × NoneTwice ns × ((x : Name) → In x ns → IsLane c m x) × (62 < length ns)
-- more than 127 fields in the lanes together
Row c m goes_back TooWide n = (n ≡ m) × (ns : List Name) × NoneTwice ns × ((x : Name) → In x ns → IsLane c m x) × (127 < fields_of c ns)
-- judged of all marks together, and not by the table
Row c m goes_back OnCycle n = ⊥

-- the place of a row in the table
abbrev pub place_of : LoopFaultKind → ℕ
place_of SelectLeaf = 1
place_of NotPure = 2
place_of ForeignInput = 3
place_of BodyCycle = 4
place_of BodyTooBig = 5
place_of BackPath = 6
place_of LanesUneven = 7
place_of ConditionRoot = 8
place_of FreeCondition = 9
place_of FreeData = 10
place_of TooManyLanes = 11
place_of TooWide = 12
place_of OnCycle = 13

-- the first row that holds for the mark m, and of its nodes the least by name
pub record Fault (c : Circuit) (m : Name) (kind : LoopFaultKind) (node : Name) : Type 0 where
  pub goes_back : Bool
  pub tags : ℕ
  pub mark : IsMarkOf c m goes_back tags
  pub row : Row c m goes_back kind node
  pub first : (earlier : LoopFaultKind) (n : Name) → place_of earlier < place_of kind → ¬ (Row c m goes_back earlier n)
  pub least : (n : Name) → Row c m goes_back kind n → n ≢ node → IsBefore node n
