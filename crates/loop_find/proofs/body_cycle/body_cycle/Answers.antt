use Rattle.std.proofs.Common.{subst}
use Rattle.circuits.specs.Circuit.{circuit_of}
use Rattle.graph_core.specs.GraphValue.{name_by}
use Rattle.loop_laws.specs.Faults.{BodyPath}
use Rattle.loop_find.specs.BodyGraphs.{AreTold}
use Rattle.loop_find.proofs.BodyCycles.{told_cycles, cycle_judged}
use Rattle.loop_find.proofs.MarkWalks.{live_of}
use Rattle.loop_find.proofs.body_cycle.body_cycle.Goals as goal

pub least-requires : goal.least-requires
least-requires c =
    let g = c.args.g.now in
    let m = name_by g.ids c.args.mark in
    let told = subst (λ on. AreTold c.args.body.now.ids on c.choose_told.new.found.ids) c.deref.ensures.value c.in_ok-choose_told.ensures.told in
    live_of g (λ n. BodyPath (circuit_of g.graph) m c.args.goes_back n n) c.choose_told.new.found.ids
    (told_cycles g c.is_graph.ensures m c.args.goes_back c.args.body.now.ids c.requires.body c.differ.ensures c.in_ok-graph.graph c.in_ok-graph.ensures c.in_ok-on.on.items c.in_ok-on.ensures
    c.choose_told.new.found.ids told)

pub returns-clause-node : goal.returns-clause-node
returns-clause-node c =
    let g = c.args.g.now in
    let told = subst (λ on. AreTold c.args.body.now.ids on c.choose_told.new.found.ids) c.deref.ensures.value c.in_ok-choose_told.ensures.told in
    cycle_judged g c.is_graph.ensures (name_by g.ids c.args.mark) c.args.goes_back c.args.body.now.ids c.requires.body c.differ.ensures c.in_ok-graph.graph c.in_ok-graph.ensures c.in_ok-on.on.items c.in_ok-on.ensures
    c.choose_told.new.found.ids told c.least.result c.least.ensures
