use Rattle.pure_extract.proofs.SplitJoinLaws.SplitInstances.{matches}
use Rattle.pure_extract.proofs.split_join.split_join_matches.Goals as goal

pub returns : goal.returns
returns c = matches
