use Rattle.loop_turns.proofs.LoopCombines.{can_combine}
use Rattle.loop_turns.proofs.LoopGathers.{can_gather}
use Rattle.loop_turns.proofs.first_uses_are_instances.Goals as goal

pub returns-clause-combine : goal.returns-clause-combine
returns-clause-combine c = λ g m l ty at. can_combine g ty m l at

pub returns-clause-gather : goal.returns-clause-gather
returns-clause-gather c = λ g m l name ty at names. can_gather g ty m l at name names
