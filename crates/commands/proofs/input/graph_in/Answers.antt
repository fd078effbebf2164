use Rattle.std.proofs.Common.{◌≡◌, Err, rules}
use Rattle.graph_read.specs.GraphReading.{graph_reading}
use Rattle.commands.specs.Parts.{graph, no_graph}
use Rattle.commands.proofs.input.graph_in.Goals as goal

pub returns-in-Ok : goal.returns-in-Ok
returns-in-Ok c = graph c.in-Ok.g.graph c.in-Ok.ensures.graph

pub returns-in-Err-Refused : goal.returns-in-Err-Refused
returns-in-Err-Refused c =
    let refused : graph_reading c.args.document.now ≡ Err c.in-Err-Refused.refusal = search rules in
    no_graph c.in-Err-Refused.refusal refused
