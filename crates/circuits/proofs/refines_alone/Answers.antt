use Rattle.circuits.proofs.Alone.{alone}
use Rattle.circuits.proofs.refines_alone.Goals as goal

pub returns : goal.returns
returns c = alone
