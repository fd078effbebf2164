use Rattle.rule_uses.proofs.GatherTies.{gather_makes}
use Rattle.rule_uses.proofs.gather_makes.Goals as goal

-- src/lib.rt:22:1
pub returns : goal.returns
returns c = gather_makes
