use Rattle.port_types.proofs.ReadBack.{reads_back}
use Rattle.port_types.proofs.laws.reads_back.Goals as goal

pub returns : goal.returns
returns c = reads_back
