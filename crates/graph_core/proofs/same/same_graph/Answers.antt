use Rattle.std.proofs.Common.{sym}
use Rattle.graph_core.proofs.SameGraphs.{same_where_within, within_where_same}
use Rattle.graph_core.proofs.same.same_graph.Goals as goal

pub returns-then-is_within : goal.returns-then-is_within
returns-then-is_within c =
    let a = c.args.a.now.graph in
    let b = c.args.b.now.graph in (
      λ back. same_where_within a b (c.is_within.ensures.0 c.if-is_within.true) (c.is_within-then-is_within.ensures.0 back),
      λ same. c.is_within-then-is_within.ensures.1 (within_where_same b a (sym same)),
    )
