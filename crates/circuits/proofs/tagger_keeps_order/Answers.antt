use Rattle.circuits.proofs.TaggerOrder.{tagger_in_order}
use Rattle.circuits.proofs.tagger_keeps_order.Goals as goal

pub returns : goal.returns
returns c = tagger_in_order
