use Rattle.std.proofs.Common.{◌∙◌, ap, length}
use Rattle.mux_branch_rules.specs.MuxSides.{mux_new_ends}
use Rattle.mux_branch_rules.proofs.MuxLaws.MuxMade.{can_right, right_is}
use Rattle.mux_branch_rules.proofs.mux_sides.right_graph.Goals as goal

pub rule_graph-requires : goal.rule_graph-requires
rule_graph-requires c =
    let h = c.requires in
    let read = c.args.read in
    can_right c.args.prefix c.args.ends read.names.now c.args.goes_back read.kinds.now read.lanes.now h.tree h.free h.long h.can c.mux_combine_refines.ensures.rule
    c.in_ok-nodes.nodes.items c.as_slice-2.result.now c.in_ok-nodes.ensures (c.as_slice-2.ensures.value ∙ c.in_ok-wires.ensures ∙ ap (λ z. mux_new_ends (length z)) c.as_slice.ensures)

pub returns : goal.returns
returns c =
    let h = c.requires in
    let read = c.args.read in
    c.in_ok-made.ensures
    ∙ right_is c.args.prefix c.args.ends read.names.now c.args.goes_back read.kinds.now read.lanes.now h.tree h.free h.long h.can c.mux_combine_refines.ensures.rule
    c.in_ok-nodes.nodes.items c.as_slice-2.result.now c.in_ok-nodes.ensures (c.as_slice-2.ensures.value ∙ c.in_ok-wires.ensures ∙ ap (λ z. mux_new_ends (length z)) c.as_slice.ensures)
