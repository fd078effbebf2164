use Rattle.std.proofs.Common.{below_more, refl, arith}
use Rattle.subst_engine.proofs.NodeMatching.{stands_by_ids}
use Rattle.subst_engine.proofs.matching.stands_in.Goals as goal

pub loop-index-preserved : goal.loop-index-preserved
loop-index-preserved c = below_more _ _ c.loop-index.invariant (c.index_matches.ensures.0 c.if-not-index_matches.false)

pub returns : goal.returns
returns c = (
  λ _.
      stands_by_ids c.args.g.now.graph c.args.left.now c.is_graph.ensures (λ id name denotes.
      let within = c.is_graph.ensures.within id name denotes in
      c.loop-index.invariant id.index (omega arith) name denotes),
  λ _. refl,
)
