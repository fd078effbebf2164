use Rattle.std.proofs.Common.{◌∙◌, ap, length}
use Rattle.mux_branch_rules.specs.BranchSides.{new_ends}
use Rattle.mux_branch_rules.proofs.BranchLaws.BranchMade.{can_right, right_is}
use Rattle.mux_branch_rules.proofs.branch_sides.right_graph.Goals as goal

pub rule_graph-requires : goal.rule_graph-requires
rule_graph-requires c =
    let h = c.requires in
    can_right c.args.prefix c.args.ends c.args.fork.now c.args.branches.now c.args.goes_back c.args.lanes.now h.free h.long h.can c.branch_combine_refines.ensures.rule
    c.in_ok-nodes.nodes.items c.as_slice-2.result.now c.in_ok-nodes.ensures (c.as_slice-2.ensures.value ∙ c.in_ok-wires.ensures ∙ ap (λ z. new_ends (length z)) c.as_slice.ensures)

pub returns : goal.returns
returns c =
    let h = c.requires in
    c.in_ok-made.ensures
    ∙ right_is c.args.prefix c.args.ends c.args.fork.now c.args.branches.now c.args.goes_back c.args.lanes.now h.free h.long h.can c.branch_combine_refines.ensures.rule
    c.in_ok-nodes.nodes.items c.as_slice-2.result.now c.in_ok-nodes.ensures (c.as_slice-2.ensures.value ∙ c.in_ok-wires.ensures ∙ ap (λ z. new_ends (length z)) c.as_slice.ensures)
