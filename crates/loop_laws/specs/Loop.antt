-- The loop at a mark.
use Rattle.std.specs.Prelude.{◌≡◌, ◌≢◌, ◌↔◌, ◌⊎◌, ℕ, ◌≤◌, Bool, List, [], map, length, Some}
use Rattle.std.specs.List.{concat}
use Rattle.components.specs.declared.kind.Kind.TheVariants.{Mux, Branch}
use Rattle.components.specs.Name.{Name, Port}
use Rattle.components.specs.Kind.{Shape}
use Rattle.circuits.specs.Circuit.{Circuit}
use Rattle.circuits.specs.Replacing.{In}
use Rattle.circuits.specs.Root.{Root}
use Rattle.loop_laws.specs.Polarity.{fresh_in, back_in, back_out, exit_out, IsMarkOf}
use Rattle.loop_laws.specs.Reached.{port_at, HasKind, FedBy, OnTree, IsLane, Reached, IsPure}
use Rattle.loop_laws.specs.BackPath.{Through}
use Rattle.loop_laws.specs.Feeders.{Feeder}
use Rattle.loop_laws.specs.BodyOrder.{Ascending, InBodyOrder}
use Rattle.loop_laws.specs.Weight.{weight_of}

-- a lane: its Mux, its Branch, the Buffers from the Branch back to the Mux, and the shape of its tokens
pub record Lane : Type 0 where
  pub mux : Name
  pub branch : Name
  pub back : List Name
  pub shape : Shape

-- goes_back tells the bit on which the loop goes on with another turn
pub record Loop : Type 0 where
  pub tags : ℕ
  pub goes_back : Bool
  pub tree : List Name
  pub lanes : List Lane
  pub body : List Name

abbrev pub muxes_of : Loop → List Name
muxes_of l = map (λ (x : Lane). x.mux) l.lanes

abbrev pub branches_of : Loop → List Name
branches_of l = map (λ (x : Lane). x.branch) l.lanes

abbrev pub shapes_of : Loop → List Shape
shapes_of l = map (λ (x : Lane). x.shape) l.lanes

abbrev pub HasLane : Loop → Name → Type 0
HasLane l n = (x : Lane) × In x l.lanes × (x.mux ≡ n)

abbrev pub HasBranch : Loop → Name → Type 0
HasBranch l n = (x : Lane) × In x l.lanes × (x.branch ≡ n)

-- a lane's Mux or a body node
abbrev pub IsInside : Loop → Name → Type 0
IsInside l n = HasLane l n ⊎ In n l.body

-- the lane's Mux and Branch, of one shape, with the back path between them
pub record IsLaneOf (c : Circuit) (goes_back : Bool) (x : Lane) : Type 0 where
  pub is_mux : c.kind_at x.mux ≡ Some (Mux x.shape)
  pub is_branch : c.kind_at x.branch ≡ Some (Branch x.shape)
  pub path : Through c (port_at x.branch (back_out goes_back)) x.back (port_at x.mux (back_in goes_back))

-- the tree and the lanes: all that m leads its bit to
pub record HasTree (c : Circuit) (m : Name) (l : Loop) : Type 0 where
  pub tree : (n : Name) → In n l.tree ↔ ((n ≢ m) × OnTree c m n)
  pub tree_by_name : Ascending l.tree
  pub leaves : (p q : Port) → OnTree c m q.node → c.feeder p ≡ Some q → In p.node l.tree ⊎ ((p.port ≡ 1) × HasLane l p.node)
  pub lanes : (n : Name) → HasLane l n ↔ IsLane c m n
  pub lanes_by_name : Ascending (muxes_of l)
  pub each_lane : (x : Lane) → In x l.lanes → IsLaneOf c l.goes_back x

-- the body: the reached nodes and the feeders, without a cycle
pub record HasBody (c : Circuit) (m : Name) (l : Loop) : Type 0 where
  pub pure : (n : Name) → Reached c m n → HasKind c IsPure n
  pub body : (n : Name) → In n l.body ↔ (Reached c m n ⊎ Feeder c m l.goes_back n)
  pub closed : (n : Name) → In n l.body → FedBy c (IsInside l) n
  pub in_order : InBodyOrder c l.body [] l.body
  pub few : length l.body ≤ 4096
  pub light : weight_of c l.body ≤ 16384

-- the Branches: what the body gives, at least some of it made of what comes in
pub record HasBranches (c : Circuit) (m : Name) (l : Loop) : Type 0 where
  pub entered : (p q : Port) (shape : Shape) → IsInside l q.node → c.feeder p ≡ Some q → c.kind_at p.node ≡ Some (Branch shape) → HasBranch l p.node
  pub branches : (r : Name) → HasBranch l r → FedBy c (IsInside l) r
  pub data_lane : Lane
  pub is_data_lane : In data_lane l.lanes
  pub data_source : Port
  pub is_data : c.feeder (port_at data_lane.branch 1) ≡ Some data_source
  pub bound_data : HasLane l data_source.node ⊎ Reached c m data_source.node

-- the condition: one root for all Branches and for m, made of what comes in
pub record HasCondition (c : Circuit) (m : Name) (l : Loop) : Type 0 where
  pub condition : Port
  pub decides : (r : Name) → HasBranch l r → Root c (port_at r 2) condition
  pub decides_mark : Root c (port_at m 1) condition
  pub bound : ¬ (Feeder c m l.goes_back condition.node)

-- l is the loop at m
pub record LoopAt (c : Circuit) (m : Name) (l : Loop) : Type 0 where
  pub mark : IsMarkOf c m l.goes_back l.tags
  pub tree : HasTree c m l
  pub body : HasBody c m l
  pub branches : HasBranches c m l
  pub condition : HasCondition c m l
  pub narrow : length l.lanes ≤ 62
  pub slim : length (concat (shapes_of l)) ≤ 127

-- the nodes of the loop at m
pub data NodeOf (m : Name) (l : Loop) (n : Name) : Type 0 where
  is_mark : n ≡ m → NodeOf m l n
  in_tree : In n l.tree → NodeOf m l n
  lane : HasLane l n → NodeOf m l n
  branch : HasBranch l n → NodeOf m l n
  in_back : (x : Lane) → In x l.lanes → In n x.back → NodeOf m l n
  in_body : In n l.body → NodeOf m l n

-- the fresh inputs of the lanes, and the exit outputs of the Branches
abbrev pub IsFresh : Loop → Port → Type 0
IsFresh l p = (x : Lane) × In x l.lanes × (p ≡ port_at x.mux (fresh_in l.goes_back))

abbrev pub IsExit : Loop → Port → Type 0
IsExit l q = (x : Lane) × In x l.lanes × (q ≡ port_at x.branch (exit_out l.goes_back))
