use Rattle.std.proofs.Common.{◌∙◌, sym, subst, refl, arith, below_more, true≢false}
use Rattle.graph_core.specs.Within.{IdStandsIn}
use Rattle.graph_core.proofs.SameGraphs.{within_where_all, all_where_within}
use Rattle.graph_core.proofs.same.is_within.Goals as goal

pub returns-then-not-stands_in : goal.returns-then-not-stands_in
returns-then-not-stands_in c = (
  λ e. absurd (true≢false (sym e)),
  λ within. sym c.if-not-stands_in.true ∙ c.stands_in.ensures.1 (all_where_within c.args.a.now c.args.b.now.graph within c.new.result),
)

pub loop-index-preserved : goal.loop-index-preserved
loop-index-preserved c =
    below_more _ _ c.loop-index.invariant (subst (λ id. IdStandsIn c.args.a.now id c.args.b.now.graph) c.new.ensures (c.stands_in.ensures.0 c.if-not-stands_in.false))

pub returns : goal.returns
returns c = (
  λ _.
      within_where_all c.args.a.now c.is_graph.ensures c.args.b.now.graph (λ id name body denotes.
      let within = c.is_graph.ensures.within id name denotes in
      c.loop-index.invariant id.index (omega arith) name body denotes),
  λ _. refl,
)
