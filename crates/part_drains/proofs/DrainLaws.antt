-- The laws: each part replaced, and the drains that are kept.
use Rattle.std.proofs.Common.{Option}
use Rattle.components.specs.Name.{Port}
use Rattle.circuits.specs.Values.{ValuesFit}
use Rattle.circuits.specs.Circuit.{Circuit}
use Rattle.circuits.specs.Replacing.{IsPart, IsNew, replaced}
use Rattle.part_drains.specs.Part.{KeepsDrains}
use Rattle.part_drains.specs.Laws.{OffCycleFiresLast, ReplacementKeepsDrains, NodeReplacementKeepsDrains, PairReplacementKeepsDrains, ReplacedHasPorts}
use Rattle.part_drains.proofs.Draining.{KeepsDrainsTo}
use Rattle.part_drains.proofs.Notions.{holds_by, keeps_to, keeps_of}
use Rattle.part_drains.proofs.OffCycles.{late, fires_last}
use Rattle.part_drains.proofs.DrainSteps.{replaced_ports}
use Rattle.part_drains.proofs.ReplacedDrains.{replaced_drains_off_cycle}
use Rattle.part_drains.proofs.OneNode.{one_node_keeps}
use Rattle.part_drains.proofs.PureAndSplit.{pure_and_split_keeps}

pub off_cycle : OffCycleFiresLast
off_cycle g part nodes ty all off = (late g part ty nodes all off, fires_last g part ty nodes all off)

pub has_ports : ReplacedHasPorts
has_ports g left right target pt new = replaced_ports g left right target pt new

keeps : (g left right : Circuit) (target : Port → Option Port) → IsPart g left target → IsNew g left right →
    KeepsDrainsTo g (replaced g left right target) → KeepsDrains g (replaced g left right target)
keeps g left right target pt new = keeps_of g (replaced g left right target) (replaced_ports g left right target pt new)

pub replacement : ValuesFit → ReplacementKeepsDrains
replacement values g left right target nodes pt new ty ports hl hr all off keep =
    keeps g left right target pt new
    (replaced_drains_off_cycle values g left right target nodes pt ty ports new (holds_by left hl) (holds_by right hr) all off (keeps_to values left right pt.part keep))

pub node_replacement : ValuesFit → NodeReplacementKeepsDrains
node_replacement values g left right target node pt new ty ports hl hr nl nr one keep =
    keeps g left right target pt new
    (one_node_keeps values g left right target pt ty ports new (holds_by left hl) (holds_by right hr) nl nr (keeps_to values left right pt.part keep) node one)

pub pair_replacement : ValuesFit → PairReplacementKeepsDrains
pair_replacement values g left right target first second pt new ty ports hl hr nl nr two keep =
    keeps g left right target pt new
    (pure_and_split_keeps values g left right target pt ty ports new (holds_by left hl) (holds_by right hr) nl nr (keeps_to values left right pt.part keep) first second two)
