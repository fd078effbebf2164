use Rattle.std.proofs.Common.{below_more, refl, arith}
use Rattle.subst_engine.proofs.NodeMatching.{room_by_ids}
use Rattle.subst_engine.proofs.matching.has_room.Goals as goal

pub loop-index-preserved : goal.loop-index-preserved
loop-index-preserved c = below_more _ _ c.loop-index.invariant (c.index_has_room.ensures.0 c.if-not-index_has_room.false)

pub returns : goal.returns
returns c = (
  λ _.
      room_by_ids c.args.g.now.graph c.args.left.now.graph c.args.right.now c.is_graph.ensures (λ id name denotes.
      let within = c.is_graph.ensures.within id name denotes in
      c.loop-index.invariant id.index (omega arith) name denotes),
  λ _. refl,
)
