use Rattle.std.proofs.Common.{Some, sym, ap, ◌∙◌}
use Rattle.graph_core.specs.GraphValue.{port_of}
use Rattle.subst_engine.proofs.OuterPorts.{target_stays}
use Rattle.subst_engine.proofs.wires.target_end.Goals as goal

pub returns-in-Some-Exit-clause-place : goal.returns-in-Some-Exit-clause-place
returns-in-Some-Exit-clause-place c =
    let (q, fed, feeds) = c.outer_target.ensures in
    target_stays c.args.g.now c.args.left.now.graph c.args.right.now.graph c.is_graph.ensures c.requires.can (port_of c.args.right.now c.args.target) q c.outer_target.result c.in-Some-Exit.field-0-0
    (sym c.in-Some-Exit.ensures ∙ ap (λ x. Some x) c.in-Some-Exit.field-0-is) fed feeds

pub returns-in_default-clause-place : goal.returns-in_default-clause-place
returns-in_default-clause-place c = c.fresh_end.ensures.place c.args.g.now c.args.left.now.graph
