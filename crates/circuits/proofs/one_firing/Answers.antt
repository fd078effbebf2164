use Rattle.circuits.proofs.OneWay.{one_way}
use Rattle.circuits.proofs.one_firing.Goals as goal

pub returns : goal.returns
returns c = one_way
