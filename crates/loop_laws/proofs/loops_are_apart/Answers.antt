use Rattle.loop_laws.proofs.OneLoop.{one_loop}
use Rattle.loop_laws.proofs.ShareNone.{share_none}
use Rattle.loop_laws.proofs.loops_are_apart.Goals as goal

pub returns-clause-one : goal.returns-clause-one
returns-clause-one c = one_loop

pub returns-clause-apart : goal.returns-clause-apart
returns-clause-apart c = λ g m n l k ty h j differ. share_none g ty m n l k h j differ
