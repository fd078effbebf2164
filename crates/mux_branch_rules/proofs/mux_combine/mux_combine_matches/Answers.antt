use Rattle.mux_branch_rules.proofs.MuxLaws.MuxSound.{matches}
use Rattle.mux_branch_rules.proofs.mux_combine.mux_combine_matches.Goals as goal

pub returns : goal.returns
returns c = matches
