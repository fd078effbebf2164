use Rattle.loop_turns.proofs.TagChain.{chain_tags}
use Rattle.loop_turns.proofs.rule_uses_tag.Goals as goal

pub returns : goal.returns
returns c = λ g m l fun name ty at names. chain_tags g ty m l at fun name names
