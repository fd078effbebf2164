use Rattle.pure_extract.proofs.SplitJoinLaws.SplitSides.{can_right}
use Rattle.pure_extract.proofs.split_join_sides.right_graph.Goals as goal

pub rule_graph-requires : goal.rule_graph-requires
rule_graph-requires c =
    let found = c.args.found in
    can_right found.split.now found.join.now found.parts.now c.requires c.in_ok-nodes.nodes.items c.as_slice.result.now c.in_ok-nodes.ensures c.as_slice.ensures
