use Rattle.mux_branch_rules.proofs.MuxLaws.MuxSound.{sound}
use Rattle.mux_branch_rules.proofs.mux_combine.mux_combine_is_sound.Goals as goal

pub returns : goal.returns
returns c = sound c.mux_combine_refines.ensures.rule c.mux_combine_refines.ensures.refines
