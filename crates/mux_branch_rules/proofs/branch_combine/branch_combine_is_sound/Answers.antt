use Rattle.mux_branch_rules.proofs.BranchLaws.BranchMade.{sound}
use Rattle.mux_branch_rules.proofs.branch_combine.branch_combine_is_sound.Goals as goal

pub returns : goal.returns
returns c = sound c.branch_combine_refines.ensures.rule c.branch_combine_refines.ensures.refines
