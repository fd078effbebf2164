-- Back paths: backwards from an input through Buffers.
use Rattle.std.specs.Prelude.{◌≡◌, List, [], ◌∷◌, ◌++◌, Bool, true, false, Option, Some, MatchOption}
use Rattle.components.specs.declared.kind.Kind.{Kind}
use Rattle.components.specs.declared.kind.Kind.TheVariants.{Buffer}
use Rattle.components.specs.Name.{Name, Port}
use Rattle.circuits.specs.Circuit.{circuit_of}
use Rattle.loop_laws.specs.Reached.{HasKind}
use Rattle.loop_laws.specs.BackPath.{IsBuffer, Through, BranchOf}
use Rattle.loop_laws.specs.Faults.{Row}
use Rattle.loop_laws.specs.declared.fault.LoopFaultKind.TheVariants.{BackPath}
use Rattle.graph_core.specs.declared.place.NodeId.{NodeId}
use Rattle.graph_core.specs.declared.place.PortAt.{PortAt}
use Rattle.graph_core.specs.GraphValue.{GraphValue, Denotes, name_by, port_of}
use Rattle.loop_find.specs.Walks.{AreLive}

abbrev pub is_buffer : Option Kind → Bool
is_buffer (Some (Buffer shape)) = true
is_buffer _ = false

-- something feeds the input
abbrev pub IsFed : GraphValue → PortAt → Type 0
IsFed g target = (q : Port) × ((circuit_of g.graph).feeder (port_of g target) ≡ Some q)

-- the names of the nodes, the last first
abbrev pub turned_names : GraphValue → List NodeId → List Name
turned_names g [] = []
turned_names g (id ∷ ids) = turned_names g ids ++ name_by g.ids id ∷ []

-- the output of something other than a Buffer feeds the input through these Buffers, which are listed backwards
pub record IsBackOf (g : GraphValue) (target : PortAt) (ids : List NodeId) (source : PortAt) : Type 0 where
  pub path : Through (circuit_of g.graph) (port_of g source) (turned_names g ids) (port_of g target)
  pub ends : ¬ (HasKind (circuit_of g.graph) IsBuffer (name_by g.ids source.node))
  pub live : AreLive g ids
  pub denotes : Denotes g source.node (name_by g.ids source.node)

-- the id is that of the lane's Branch, behind these Buffers, which are listed backwards
pub record IsBranchBy (g : GraphValue) (m : Name) (goes_back : Bool) (lane : NodeId) (ids : List NodeId) (branch : NodeId) : Type 0 where
  pub its : BranchOf (circuit_of g.graph) m goes_back (name_by g.ids lane) (name_by g.ids branch)
  pub back : its.back ≡ turned_names g ids
  pub live : AreLive g ids
  pub denotes : Denotes g branch (name_by g.ids branch)

-- the lane's Branch, and none where the row of its back path holds at the lane
abbrev pub IsLaneEnd : GraphValue → Name → Bool → NodeId → List NodeId → Option NodeId → Type 0
IsLaneEnd g m goes_back lane ids answer =
    MatchOption answer (Row (circuit_of g.graph) m goes_back BackPath (name_by g.ids lane)) (IsBranchBy g m goes_back lane ids)
