use Rattle.lane_drains.proofs.LoopCut.{cut_loop_drains}
use Rattle.lane_drains.proofs.cut_loop_drains.Goals as goal

pub returns : goal.returns
returns c = cut_loop_drains (record { operators = c.value_fits.ensures; functions = c.fun_value_fits.ensures })
