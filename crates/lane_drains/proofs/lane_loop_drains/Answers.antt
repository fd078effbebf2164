use Rattle.lane_drains.proofs.LaneLoopDrains.{drains_are_loops}
use Rattle.lane_drains.proofs.TurnFunction.{function_loops}
use Rattle.lane_drains.proofs.lane_loop_drains.Goals as goal

pub returns-clause-turns : goal.returns-clause-turns
returns-clause-turns c = drains_are_loops (record { operators = c.value_fits.ensures; functions = c.fun_value_fits.ensures })

pub returns-clause-function : goal.returns-clause-function
returns-clause-function c = function_loops (record { operators = c.value_fits.ensures; functions = c.fun_value_fits.ensures })
