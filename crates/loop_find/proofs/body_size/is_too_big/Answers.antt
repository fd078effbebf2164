use Rattle.std.proofs.Common.{◌≤◌, ◌<◌, length, refl, arith}
use Rattle.graph_core.specs.GraphValue.{name_by}
use Rattle.loop_find.proofs.BodySizes.{too_many_nodes, told_big}
use Rattle.loop_find.proofs.body_size.is_too_big.Goals as goal

pub returns-then-len-gt-MAX_NODES : goal.returns-then-len-gt-MAX_NODES
returns-then-len-gt-MAX_NODES c =
    let more : 4096 < length c.args.body.now.ids = omega arith in (
      λ yes. too_many_nodes c.args.g.now c.is_graph.ensures (name_by c.args.g.now.ids c.args.mark) c.args.goes_back c.args.body.now.ids c.requires c.differ.ensures more,
      λ row. refl,
    )

pub returns : goal.returns
returns c =
    let few : length c.args.body.now.ids ≤ 4096 = omega arith in
    told_big c.args.g.now c.is_graph.ensures (name_by c.args.g.now.ids c.args.mark) c.args.goes_back c.args.body.now.ids c.requires c.differ.ensures few c.are_light.result c.are_light.ensures
