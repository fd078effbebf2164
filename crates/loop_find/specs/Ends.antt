-- Where the back paths of all lanes of a mark come from.
use Rattle.std.specs.Prelude.{◌≡◌, ◌⊎◌, Bool, List}
use Rattle.components.specs.Name.{Name}
use Rattle.circuits.specs.Circuit.{circuit_of}
use Rattle.loop_laws.specs.Faults.{Row}
use Rattle.loop_laws.specs.declared.fault.LoopFaultKind.TheVariants.{BackPath}
use Rattle.graph_core.specs.declared.place.NodeId.{NodeId}
use Rattle.graph_core.specs.GraphValue.{GraphValue, name_by}
use Rattle.loop_find.specs.NodeSets.{IsPut}
use Rattle.loop_find.specs.Backs.{IsBranchBy}

-- the lane's Branch is put to the Branches
pub record IsBranchPut (g : GraphValue) (m : Name) (goes_back : Bool) (lane : NodeId) (before after : List NodeId) : Type 0 where
  pub branch : NodeId
  pub back : List NodeId
  pub its : IsBranchBy g m goes_back lane back branch
  pub put : IsPut before branch after

-- the row of its back path holds at the lane, and the lane is put to those of which this is so
pub record IsFaultPut (g : GraphValue) (m : Name) (goes_back : Bool) (lane : NodeId) (before after : List NodeId) : Type 0 where
  pub row : Row (circuit_of g.graph) m goes_back BackPath (name_by g.ids lane)
  pub put : IsPut before lane after

-- one of the two, and nothing else
abbrev pub IsEndPut : GraphValue → Name → Bool → NodeId → List NodeId → List NodeId → List NodeId → List NodeId → Type 0
IsEndPut g m goes_back lane branches branches_after faulty faulty_after =
    (IsBranchPut g m goes_back lane branches branches_after × (faulty_after ≡ faulty)) ⊎
    (IsFaultPut g m goes_back lane faulty faulty_after × (branches_after ≡ branches))
