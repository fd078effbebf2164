use Rattle.std.proofs.Common.{◌≤◌, ◌<◌, length, refl, arith}
use Rattle.std.proofs.lemmas.Bool.{false≢true}
use Rattle.loop_find.proofs.NodeCounts.{too_many, few}
use Rattle.loop_find.proofs.limits.has_too_many_lanes.Goals as goal

pub returns-then-len-gt-MAX_LANES : goal.returns-then-len-gt-MAX_LANES
returns-then-len-gt-MAX_LANES c =
    let more : 62 < length c.args.lanes.now.ids = omega arith in
    λ goes_back. (λ yes. too_many c.args.g.now c.is_graph.ensures c.args.mark c.args.lanes.now.ids c.requires c.differ.ensures goes_back more, λ row. refl)

pub returns : goal.returns
returns c =
    let less : length c.args.lanes.now.ids ≤ 62 = omega arith in
    λ goes_back. (λ yes. absurd (false≢true yes), λ row. absurd (few c.args.g.now c.is_graph.ensures c.args.mark c.args.lanes.now.ids c.requires c.differ.ensures goes_back less row))
