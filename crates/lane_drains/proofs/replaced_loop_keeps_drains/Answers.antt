use Rattle.lane_drains.proofs.LoopReplaced.{lane_loop_holds, loop_replaced}
use Rattle.lane_drains.proofs.replaced_loop_keeps_drains.Goals as goal

pub returns-clause-rest : goal.returns-clause-rest
returns-clause-rest c = lane_loop_holds

pub returns-clause-drains : goal.returns-clause-drains
returns-clause-drains c =
    loop_replaced (record { operators = c.value_fits.ensures; functions = c.fun_value_fits.ensures }) c.replacement_keeps_drains.ensures.drains
