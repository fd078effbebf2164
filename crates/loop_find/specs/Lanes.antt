-- The lanes of a mark, by ids and in order.
use Rattle.std.specs.Prelude.{◌≡◌, ℕ, Bool, List, map, Some, slice_get}
use Rattle.components.specs.Name.{Name}
use Rattle.circuits.specs.Circuit.{circuit_of}
use Rattle.circuits.specs.Replacing.{In}
use Rattle.circuits.specs.Root.{PassesThrough, Root}
use Rattle.loop_laws.specs.Reached.{port_at, HasKind, IsLane}
use Rattle.loop_laws.specs.BackPath.{BranchOf}
use Rattle.loop_laws.specs.BodyOrder.{Ascending}
use Rattle.graph_core.specs.declared.place.PortAt.{PortAt}
use Rattle.graph_core.specs.GraphValue.{GraphValue, Denotes, name_by, port_of}
use Rattle.loop_find.specs.declared.shape.Lane.{Lane}
use Rattle.loop_find.specs.Marks.{names_by}

-- a lane of the mark, with its Branch and the Buffers from the Branch forward
pub record IsLaneBy (g : GraphValue) (m : Name) (goes_back : Bool) (x : Lane) : Type 0 where
  pub mux : Denotes g x.mux (name_by g.ids x.mux)
  pub branch : Denotes g x.branch (name_by g.ids x.branch)
  pub its : BranchOf (circuit_of g.graph) m goes_back (name_by g.ids x.mux) (name_by g.ids x.branch)
  pub back : its.back ≡ names_by g x.back

abbrev pub muxes_by : GraphValue → List Lane → List Name
muxes_by g xs = names_by g (map (λ (x : Lane). x.mux) xs)

-- all lanes of the mark in byte order of the names of their Muxes
pub record AreLanes (g : GraphValue) (m : Name) (goes_back : Bool) (xs : List Lane) : Type 0 where
  pub each : (k : ℕ) (x : Lane) → slice_get xs k ≡ Some x → IsLaneBy g m goes_back x
  pub all : (n : Name) → IsLane (circuit_of g.graph) m n → In n (muxes_by g xs)
  pub by_name : Ascending (muxes_by g xs)

-- the output is the root of input 2 of the first lane's Branch
pub record IsCondition (g : GraphValue) (xs : List Lane) (root : PortAt) : Type 0 where
  pub lane : Lane
  pub first : slice_get xs 0 ≡ Some lane
  pub its_root : Root (circuit_of g.graph) (port_at (name_by g.ids lane.branch) 2) (port_of g root)
  pub ends : ¬ (HasKind (circuit_of g.graph) PassesThrough (name_by g.ids root.node))
  pub denotes : Denotes g root.node (name_by g.ids root.node)
