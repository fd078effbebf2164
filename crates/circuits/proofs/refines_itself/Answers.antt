use Rattle.circuits.proofs.Transitive.{refines_refl}
use Rattle.circuits.proofs.refines_itself.Goals as goal

pub returns : goal.returns
returns c = refines_refl
