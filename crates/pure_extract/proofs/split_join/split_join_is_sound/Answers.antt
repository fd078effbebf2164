use Rattle.pure_extract.proofs.SplitJoinLaws.SplitJoinSound.{sound}
use Rattle.pure_extract.proofs.split_join.split_join_is_sound.Goals as goal

pub returns : goal.returns
returns c = sound c.split_join_refines.ensures.rule c.split_join_refines.ensures.refines
