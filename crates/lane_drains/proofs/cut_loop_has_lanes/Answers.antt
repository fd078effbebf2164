use Rattle.lane_drains.proofs.LoopCut.{cut_loop_is}
use Rattle.lane_drains.proofs.cut_loop_has_lanes.Goals as goal

pub returns : goal.returns
returns c = cut_loop_is
