use Rattle.loop_turns.proofs.TaggedTurn.{tagged_has_loops, tagged_marks, tagged_off_cycle}
use Rattle.loop_turns.proofs.tagging_leaves_other_loops.Goals as goal

pub returns-clause-loops : goal.returns-clause-loops
returns-clause-loops c = λ g loops m name can. tagged_has_loops g loops m name can.has can.mark can.names

pub returns-clause-marks : goal.returns-clause-marks
returns-clause-marks c = λ g loops m name can. tagged_marks g loops m name can.has can.mark can.names

pub returns-clause-off_cycle : goal.returns-clause-off_cycle
returns-clause-off_cycle c = λ g loops m name can. tagged_off_cycle g loops m name can.has can.mark can.names
