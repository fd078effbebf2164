use Rattle.pure_extract.proofs.TrimForkLaws.TrimSides.{sound}
use Rattle.pure_extract.proofs.trim_fork.trim_fork_is_sound.Goals as goal

pub returns : goal.returns
returns c = sound c.trim_fork_refines.ensures.rule c.trim_fork_refines.ensures.refines
