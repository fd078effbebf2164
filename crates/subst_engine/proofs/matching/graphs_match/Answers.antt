use Rattle.subst_engine.proofs.NodeMatching.{matches_from}
use Rattle.subst_engine.proofs.matching.graphs_match.Goals as goal

pub returns-then-stands_in : goal.returns-then-stands_in
returns-then-stands_in c =
    let g = c.args.g.now.graph in
    let left = c.args.left.now.graph in
    let right = c.args.right.now.graph in (
      λ room. matches_from g left right (c.stands_in.ensures.0 c.if-stands_in.true) (c.has_room.ensures.0 room),
      λ matches. c.has_room.ensures.1 matches.new,
    )
