-- A circuit whose ends are those of lanes.
use Rattle.std.specs.Prelude.{◌≡◌, List, Some}
use Rattle.components.specs.declared.kind.Kind.TheVariants.{Entry, Exit}
use Rattle.components.specs.Name.{Name}
use Rattle.components.specs.Kind.{Shape}
use Rattle.circuits.specs.Circuit.{Circuit}
use Rattle.circuits.specs.Replacing.{In}
use Rattle.lane_drains.specs.LaneLoop.{LoopLane}

-- the Entries and the Exits of c are the lanes'
pub record HasLaneEnds (c : Circuit) (lanes : List LoopLane) : Type 0 where
  pub entry : (n : Name) (a : Shape) → c.kind_at n ≡ Some (Entry a) → (l : LoopLane) × In l lanes × (n ≡ l.entry)
  pub exit : (n : Name) (a : Shape) → c.kind_at n ≡ Some (Exit a) → (l : LoopLane) × In l lanes × (n ≡ l.exit)
