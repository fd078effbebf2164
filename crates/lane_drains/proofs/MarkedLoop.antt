-- What may come in the place of the loop at a mark.
use Rattle.circuits.specs.Values.{ValuesFit}
use Rattle.loop_laws.specs.Laws.{LoopsShareNone}
use Rattle.part_drains.specs.Laws.{ReplacementKeepsDrains}
use Rattle.lane_drains.specs.LoopCut.{lanes_with}
use Rattle.lane_drains.specs.Laws.{MarkedLoopReplacedKeepsDrains}
use Rattle.lane_drains.proofs.LoopCut.{cut_loop_is}
use Rattle.lane_drains.proofs.LoopReplaced.{loop_replaced}
use Rattle.lane_drains.proofs.CutOffCycle.{cut_off_cycle}

pub marked_replaced : ValuesFit → LoopsShareNone → ReplacementKeepsDrains → MarkedLoopReplacedKeepsDrains
marked_replaced values apart law g part right target nodes loops m entry exit has mark off is_part cut only_loop ends new ty ports hold all fun computes runs =
    loop_replaced values law g part right target nodes is_part new ty ports hold all (cut_off_cycle apart g part loops m has mark off only_loop)
    fun (loops m).goes_back m (lanes_with entry exit (loops m)) (loops m).body (has.all m mark).condition.condition
    (cut_loop_is g part target m (loops m) (has.all m mark) entry exit is_part cut) ends computes runs
