use Rattle.std.proofs.Common.{◌∙◌, get_or, map, sym, ap, subst}
use Rattle.components.specs.NamedGraph.{IsTyped}
use Rattle.circuits.specs.Circuit.{circuit_of}
use Rattle.circuits.specs.Plug.{CanPlug}
use Rattle.circuits.specs.PluggedGraph.{link_graph}
use Rattle.module_sem.specs.GraphLinks.{by_names}
use Rattle.module_sem.specs.Linking.{CanJoin}
use Rattle.module_sem.proofs.Ends.{are_apart, no_link}
use Rattle.module_sem.proofs.PlugSteps.{joins_so_far, so_far_more, typed_all, typed_so_far}
use Rattle.module_sem.proofs.plugging.plug.Goals as goal
use Rattle.module_sem.proofs.plugging.plug.Goals.{In_ok-both}

circuits : (c : In_ok-both) → CanPlug (circuit_of c.args.c.now.graph) (map (by_names c.args.c.now c.args.g.now) c.args.links.now) (circuit_of c.args.g.now.graph)
circuits c = c.circuits_can_plug.ensures c.args.c.now c.args.links.now c.args.g.now c.is_graph.ensures c.is_graph-2.ensures c.requires

pub beside-requires-clause-apart : goal.beside-requires-clause-apart
beside-requires-clause-apart c = are_apart c.args.c.now c.args.g.now c.requires.apart

pub join-requires-clause-typed : goal.join-requires-clause-typed
join-requires-clause-typed c =
    let laws = c.plugged_graph_as_circuit.ensures in
    subst IsTyped (sym c.loop-link.invariant)
    (typed_so_far laws.circuit laws.typed c.args.c.now c.args.g.now c.args.links.now c.requires (circuits (goal.at.join-requires-clause-typed c).In_ok-both) c.loop-link.link-index no_link c.loop-link-test.true)

pub join-requires-clause-can : goal.join-requires-clause-can
join-requires-clause-can c =
    let laws = c.plugged_graph_as_circuit.ensures in
    let next = by_names c.args.c.now c.args.g.now (get_or c.args.links.now c.loop-link.link-index no_link) in
    subst (λ k. CanJoin k next) (sym c.loop-link.invariant)
    (joins_so_far laws.circuit laws.typed c.args.c.now c.args.g.now c.args.links.now c.requires (circuits (goal.at.join-requires-clause-can c).In_ok-both) c.loop-link.link-index no_link c.loop-link-test.true)

pub loop-link-preserved : goal.loop-link-preserved
loop-link-preserved c =
    let laws = c.plugged_graph_as_circuit.ensures in
    c.in_ok-join.ensures ∙ ap (link_graph _) c.loop-link.invariant
    ∙ so_far_more laws.circuit laws.typed c.args.c.now c.args.g.now c.args.links.now c.requires (circuits (goal.at.loop-link-preserved c).In_ok-both) c.loop-link.link-index no_link c.loop-link-test.true

pub returns-clause-typed : goal.returns-clause-typed
returns-clause-typed c =
    let laws = c.plugged_graph_as_circuit.ensures in
    subst IsTyped (sym c.loop-link.invariant)
    (typed_all laws.circuit laws.typed c.args.c.now c.args.g.now c.args.links.now c.requires (circuits (goal.at.returns-clause-typed c).In_ok-both) c.loop-link.link-index c.loop-link-test.false)
