use Rattle.loop_turns.proofs.GatherChain.{chain_gathers}
use Rattle.loop_turns.proofs.rule_uses_gather.Goals as goal

pub returns : goal.returns
returns c = λ g m l fun name ty at bare names. chain_gathers g ty m l at fun name names bare
