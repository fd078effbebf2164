use Rattle.std.proofs.Common.{◌∙◌}
use Rattle.pure_extract.proofs.TrimForkLaws.TrimSides.{can_left, left_is}
use Rattle.pure_extract.proofs.trim_fork_sides.left_graph.Goals as goal

pub rule_graph-requires : goal.rule_graph-requires
rule_graph-requires c =
    let sunk = c.args.sunk in
    can_left c.trim_fork_refines.ensures.rule c.args.prefix c.args.ends sunk.fork.now sunk.sink.now sunk.shape.now sunk.others sunk.port c.requires
    c.in_ok-nodes.nodes.items c.as_slice.result.now c.in_ok-nodes.ensures (c.as_slice.ensures.value ∙ c.in_ok-wires.ensures)

pub returns : goal.returns
returns c =
    let sunk = c.args.sunk in
    λ output is.
    c.in_ok-made.ensures ∙ left_is c.trim_fork_refines.ensures.rule c.args.prefix c.args.ends sunk.fork.now sunk.sink.now sunk.shape.now sunk.others sunk.port c.requires
    c.in_ok-nodes.nodes.items c.as_slice.result.now c.in_ok-nodes.ensures (c.as_slice.ensures.value ∙ c.in_ok-wires.ensures) output is
