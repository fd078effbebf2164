use Rattle.std.proofs.Common.{◌∙◌, refl, sym, true≢false, arith}
use Rattle.graph_core.specs.Place.{id_of}
use Rattle.module_sem.proofs.Ends.{apart_where_none, none_where_apart}
use Rattle.module_sem.proofs.conditions.are_apart.Goals as goal

pub returns-then-has_name_at : goal.returns-then-has_name_at
returns-then-has_name_at c = (
  λ e. absurd (true≢false (sym e)),
  λ apart.
      sym (none_where_apart c.args.c.now c.args.g.now c.is_graph.ensures c.is_graph-2.ensures apart (id_of c.loop-index.index)) ∙ sym c.has_name_at.ensures ∙ c.if-has_name_at.true,
)

pub returns : goal.returns
returns c = (λ _. apart_where_none c.args.c.now c.args.g.now c.is_graph.ensures (λ k below. c.loop-index.invariant k (omega arith)), λ _. refl)
