use Rattle.loop_turns.proofs.GatheredTurn.{gathered_has_loops, gathered_marks, gathered_off_cycle}
use Rattle.loop_turns.proofs.gathering_leaves_all_loops.Goals as goal

pub returns-clause-loops : goal.returns-clause-loops
returns-clause-loops c = λ g loops m fun name can. gathered_has_loops g loops m fun name can.has can.mark can.function can.names

pub returns-clause-marks : goal.returns-clause-marks
returns-clause-marks c = λ g loops m fun name can. gathered_marks g loops m fun name can.has can.mark can.function can.names

pub returns-clause-off_cycle : goal.returns-clause-off_cycle
returns-clause-off_cycle c = λ g loops m fun name can. gathered_off_cycle g loops m fun name can.has can.mark can.function can.names
