use Rattle.loop_turns.proofs.LoopNames.{all_turned}
use Rattle.loop_turns.proofs.tagging_one_after_the_other.Goals as goal

pub returns-clause-loops : goal.returns-clause-loops
returns-clause-loops c = λ g h loops marks can. (all_turned loops marks g h can.has can.once can.are can.turns).has

pub returns-clause-marks : goal.returns-clause-marks
returns-clause-marks c = λ g h loops marks can. (all_turned loops marks g h can.has can.once can.are can.turns).marks

pub returns-clause-off_cycle : goal.returns-clause-off_cycle
returns-clause-off_cycle c = λ g h loops marks can. (all_turned loops marks g h can.has can.once can.are can.turns).off
