use Rattle.circuits.proofs.Plugging.Parts.{whole_refines}
use Rattle.circuits.proofs.whole_refines.Goals as goal

pub returns : goal.returns
returns c = whole_refines
