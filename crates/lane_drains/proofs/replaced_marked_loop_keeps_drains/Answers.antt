use Rattle.lane_drains.proofs.CutOffCycle.{cut_off_cycle}
use Rattle.lane_drains.proofs.MarkedLoop.{marked_replaced}
use Rattle.lane_drains.proofs.replaced_marked_loop_keeps_drains.Goals as goal

pub returns-clause-off_cycle : goal.returns-clause-off_cycle
returns-clause-off_cycle c = cut_off_cycle c.loops_are_apart.ensures.apart

pub returns-clause-drains : goal.returns-clause-drains
returns-clause-drains c =
    marked_replaced (record { operators = c.value_fits.ensures; functions = c.fun_value_fits.ensures }) c.loops_are_apart.ensures.apart
    c.replacement_keeps_drains.ensures.drains
