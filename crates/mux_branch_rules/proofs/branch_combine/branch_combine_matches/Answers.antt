use Rattle.mux_branch_rules.proofs.BranchLaws.BranchInstances.{matches}
use Rattle.mux_branch_rules.proofs.branch_combine.branch_combine_matches.Goals as goal

pub returns : goal.returns
returns c = matches
