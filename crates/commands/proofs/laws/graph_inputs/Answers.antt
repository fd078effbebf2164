use Rattle.commands.proofs.Prints.{graph_inputs}
use Rattle.commands.proofs.laws.graph_inputs.Goals as goal

pub returns : goal.returns
returns c = graph_inputs
