use Rattle.std.proofs.Common.{Some, sym, ap, ◌∙◌}
use Rattle.graph_core.specs.GraphValue.{port_of}
use Rattle.subst_engine.proofs.OuterPorts.{source_stays}
use Rattle.subst_engine.proofs.wires.source_end.Goals as goal

pub returns-in-Some-Entry-clause-place : goal.returns-in-Some-Entry-clause-place
returns-in-Some-Entry-clause-place c =
    let (t, fed, feeds) = c.outer_source.ensures in
    source_stays c.args.g.now c.args.left.now.graph c.args.right.now.graph c.is_graph.ensures c.requires.can (port_of c.args.right.now c.args.source) t c.outer_source.result c.in-Some-Entry.field-0-0
    (sym c.in-Some-Entry.ensures ∙ ap (λ x. Some x) c.in-Some-Entry.field-0-is) fed feeds

pub returns-in_default-clause-place : goal.returns-in_default-clause-place
returns-in_default-clause-place c = c.fresh_end.ensures.place c.args.g.now c.args.left.now.graph
