use Rattle.std.proofs.Common.{sym}
use Rattle.graph_core.specs.GraphValue.{port_of}
use Rattle.loop_find.proofs.Choosing.{fed_from_in}
use Rattle.loop_find.proofs.Walking.{source_live}
use Rattle.loop_find.proofs.choose.is_fed_by.Goals as goal

pub returns-in-Some : goal.returns-in-Some
returns-in-Some c =
    let g = c.args.g.now in
    let live = source_live g c.is_graph.ensures (port_of g c.args.target) c.in-Some.source (sym c.in-Some.ensures) in
    let same = fed_from_in g c.is_graph.ensures c.args.set.now.ids c.args.target c.in-Some.source (sym c.in-Some.ensures) live in
    (λ yes. same.0 (c.contains.ensures.0 yes), λ all. c.contains.ensures.1 (same.1 all))
