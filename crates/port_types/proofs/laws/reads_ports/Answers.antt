use Rattle.port_types.proofs.ReadBack.{reads_ports}
use Rattle.port_types.proofs.laws.reads_ports.Goals as goal

pub returns : goal.returns
returns c = reads_ports
