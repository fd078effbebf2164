use Rattle.std.proofs.Common.{◌∙◌, ap, length}
use Rattle.loop_body.specs.Body.{Body}
use Rattle.gather_rule.specs.GatherSides.{right_ends, right_list}
use Rattle.gather_rule.proofs.GatherLists.{can_right, right_is}
use Rattle.gather_rule.proofs.sides.right_graph.Goals as goal

pub rule_graph-requires : goal.rule_graph-requires
rule_graph-requires c =
    let b = c.args.body.now in
    let h = c.requires in
    can_right b h.body h.can c.args.prefix c.args.ends c.args.split.now h.free c.gather_is_sound.ensures c.in_ok-nodes.nodes.items c.as_slice-2.result.now
    (c.in_ok-nodes.ensures ∙ (λ i. right_list c.args.prefix c.args.ends (ap (λ (z : Body). z.vars) c.body.view_is i) (c.in_ok-fun.ensures.function i) (h.lanes_are i)))
    (c.as_slice-2.ensures.value ∙ c.in_ok-wires.ensures ∙ ap (λ z. right_ends (length z)) (c.as_slice.ensures ∙ h.lanes_are))

pub returns : goal.returns
returns c =
    let b = c.args.body.now in
    let h = c.requires in
    c.in_ok-made.ensures
    ∙ right_is b h.body h.can c.args.prefix c.args.ends c.args.split.now h.free c.gather_is_sound.ensures c.in_ok-nodes.nodes.items c.as_slice-2.result.now
    (c.in_ok-nodes.ensures ∙ (λ i. right_list c.args.prefix c.args.ends (ap (λ (z : Body). z.vars) c.body.view_is i) (c.in_ok-fun.ensures.function i) (h.lanes_are i)))
    (c.as_slice-2.ensures.value ∙ c.in_ok-wires.ensures ∙ ap (λ z. right_ends (length z)) (c.as_slice.ensures ∙ h.lanes_are))
