use Rattle.graph_read.proofs.GraphRead.{read_is_named}
use Rattle.graph_read.proofs.ReadTyped.{read_is_typed}
use Rattle.graph_read.proofs.laws.read_graphs_are_typed.Goals as goal

pub returns-clause-typed : goal.returns-clause-typed
returns-clause-typed c = read_is_typed c.reads_ports.ensures c.rows_are_met.ensures

pub returns-clause-named : goal.returns-clause-named
returns-clause-named c = read_is_named
