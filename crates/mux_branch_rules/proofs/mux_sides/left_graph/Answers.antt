use Rattle.std.proofs.Common.{◌∙◌, ap, true, length}
use Rattle.mux_branch_rules.specs.MuxSides.{mux_old_ends}
use Rattle.mux_branch_rules.proofs.MuxLaws.MuxMade.{can_left, left_is}
use Rattle.mux_branch_rules.proofs.mux_sides.left_graph.Goals as goal

pub rule_graph-requires : goal.rule_graph-requires
rule_graph-requires c =
    let h = c.requires in
    let read = c.args.read in
    can_left c.args.prefix c.args.ends read.names.now true read.kinds.now read.lanes.now h.tree h.free h.long h.can c.mux_combine_refines.ensures.rule
    c.in_ok-nodes.nodes.items c.as_slice.result.now read.sources.now h.has c.in_ok-nodes.ensures
    (c.as_slice.ensures.value ∙ c.in_ok-wires.ensures ∙ ap (λ z. mux_old_ends (length read.kinds.now) (length z) read.sources.now) c.as_slice-lanes.ensures)

pub returns : goal.returns
returns c = λ tree has.
    let h = c.requires in
    let read = c.args.read in
    c.in_ok-made.ensures
    ∙ left_is c.args.prefix c.args.ends read.names.now true read.kinds.now read.lanes.now tree h.free h.long h.can c.mux_combine_refines.ensures.rule
    c.in_ok-nodes.nodes.items c.as_slice.result.now read.sources.now has c.in_ok-nodes.ensures
    (c.as_slice.ensures.value ∙ c.in_ok-wires.ensures ∙ ap (λ z. mux_old_ends (length read.kinds.now) (length z) read.sources.now) c.as_slice-lanes.ensures)
