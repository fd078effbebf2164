-- A part replaced by one that drains what it drains.
use Rattle.std.proofs.Common.{Bool, List, Option}
use Rattle.components.specs.Name.{Name, Port}
use Rattle.circuits.specs.Values.{ValuesFit}
use Rattle.circuits.specs.Circuit.{Circuit, Typed}
use Rattle.circuits.specs.Refines.{SamePorts}
use Rattle.circuits.specs.Replacing.{IsPart, IsNew, replaced}
use Rattle.part_drains.specs.Part.{FiresLast, PartOffCycle, HasNodes}
use Rattle.part_drains.proofs.Draining.{HoldsRestBy, KeepsDrainsTo}
use Rattle.part_drains.proofs.PartDrains.{changed_drains}
use Rattle.part_drains.proofs.OffCycles.{late, fires_last}

pub replaced_drains : ValuesFit → (g left right : Circuit) (target : Port → Option Port) (later : Name → Bool) → IsPart g left target → Typed right → SamePorts right left → IsNew g left right → HoldsRestBy left → HoldsRestBy right → FiresLast g left later → KeepsDrainsTo left right → KeepsDrainsTo g (replaced g left right target)
replaced_drains values g left right target later pt tr ports new hl hr fl keep ins outs fit d =
    changed_drains g left right target pt tr ports new hl hr values ins outs fit d later fl keep

pub replaced_drains_off_cycle : ValuesFit → (g left right : Circuit) (target : Port → Option Port) (nodes : List Name) → IsPart g left target → Typed right → SamePorts right left → IsNew g left right → HoldsRestBy left → HoldsRestBy right → HasNodes g nodes → PartOffCycle g left → KeepsDrainsTo left right → KeepsDrainsTo g (replaced g left right target)
replaced_drains_off_cycle values g left right target nodes pt tr ports new hl hr all off keep =
    replaced_drains values g left right target (late g left pt.whole nodes all off) pt tr ports new hl hr (fires_last g left pt.whole nodes all off) keep
