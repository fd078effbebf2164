use Rattle.pure_extract.proofs.TrimForkLaws.TrimInstances.{matches}
use Rattle.pure_extract.proofs.trim_fork.trim_fork_matches.Goals as goal

pub returns : goal.returns
returns c = matches
