use Rattle.circuits.proofs.Transitive.{refines_then}
use Rattle.circuits.proofs.refines_in_steps.Goals as goal

pub returns : goal.returns
returns c = refines_then
