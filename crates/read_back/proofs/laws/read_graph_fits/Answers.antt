use Rattle.read_back.proofs.ReadNodes.{read_fits, read_texts}
use Rattle.read_back.proofs.laws.read_graph_fits.Goals as goal

pub returns-clause-fits : goal.returns-clause-fits
returns-clause-fits c = read_fits c.reads_ports.ensures c.rows_are_met.ensures

pub returns-clause-texts : goal.returns-clause-texts
returns-clause-texts c = read_texts c.reads_ports.ensures c.rows_are_met.ensures
