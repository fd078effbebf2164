use Rattle.commands.proofs.Prints.{graphs_are_typed}
use Rattle.commands.proofs.laws.graphs_are_typed.Goals as goal

pub returns : goal.returns
returns c = graphs_are_typed c.read_graphs_are_typed.ensures.typed
