-- The back path of a lane: from a Branch through Buffers to the lane's Mux.
use Rattle.std.specs.Prelude.{◌≡◌, Bool, List, [], ◌∷◌, Some}
use Rattle.components.specs.declared.kind.Kind.{Kind}
use Rattle.components.specs.declared.kind.Kind.TheVariants.{Buffer, Branch}
use Rattle.components.specs.Name.{Name, Port}
use Rattle.components.specs.Kind.{Shape}
use Rattle.circuits.specs.Circuit.{Circuit}
use Rattle.circuits.specs.Buffers.{first_port}
use Rattle.loop_laws.specs.Polarity.{back_in, back_out}
use Rattle.loop_laws.specs.Reached.{port_at, HasKind, IsLane}

abbrev pub IsBuffer : Kind → Type 0
IsBuffer (Buffer shape) = Unit {0}
IsBuffer _ = ⊥

-- output q feeds input p through these Buffers, one after the other
abbrev pub Through : Circuit → Port → List Name → Port → Type 0
Through c q [] p = c.feeder p ≡ Some q
Through c q (b ∷ bs) p = HasKind c IsBuffer b × (c.feeder (first_port b) ≡ Some q) × Through c (first_port b) bs p

-- r is the Branch of this lane: its back output feeds the lane's back input through Buffers
pub record BranchOf (c : Circuit) (m : Name) (goes_back : Bool) (lane r : Name) : Type 0 where
  pub is_lane : IsLane c m lane
  pub shape : Shape
  pub is_branch : c.kind_at r ≡ Some (Branch shape)
  pub back : List Name
  pub path : Through c (port_at r (back_out goes_back)) back (port_at lane (back_in goes_back))

-- r is the Branch of some lane
abbrev pub IsLaneBranch : Circuit → Name → Bool → Name → Type 0
IsLaneBranch c m goes_back r = (lane : Name) × BranchOf c m goes_back lane r
