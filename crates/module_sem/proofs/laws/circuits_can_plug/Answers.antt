use Rattle.module_sem.proofs.ByNames.{can_plug_circuits}
use Rattle.module_sem.proofs.laws.circuits_can_plug.Goals as goal

pub returns : goal.returns
returns c = can_plug_circuits
