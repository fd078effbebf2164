use Rattle.std.proofs.Common.{◌∙◌, ap}
use Rattle.pure_extract.specs.SplitJoinSides.{split_ends}
use Rattle.pure_extract.proofs.SplitJoinLaws.SplitSides.{can_left, left_is}
use Rattle.pure_extract.proofs.split_join_sides.left_graph.Goals as goal

pub rule_graph-requires : goal.rule_graph-requires
rule_graph-requires c =
    let found = c.args.found in
    can_left found.split.now found.join.now found.parts.now c.requires c.in_ok-nodes.nodes.items c.as_slice-2.result.now c.split_join_refines.ensures.rule
    c.in_ok-nodes.ensures (c.as_slice-2.ensures.value ∙ c.in_ok-wires.ensures ∙ ap split_ends c.as_slice.ensures)

pub returns : goal.returns
returns c =
    let found = c.args.found in
    c.in_ok-made.ensures ∙ left_is found.split.now found.join.now found.parts.now c.requires c.in_ok-nodes.nodes.items c.as_slice-2.result.now c.split_join_refines.ensures.rule
    c.in_ok-nodes.ensures (c.as_slice-2.ensures.value ∙ c.in_ok-wires.ensures ∙ ap split_ends c.as_slice.ensures)
