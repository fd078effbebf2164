use Rattle.gather_rule.proofs.GatherMatches.{matches}
use Rattle.gather_rule.proofs.laws.gather_matches.Goals as goal

pub returns : goal.returns
returns c = matches
