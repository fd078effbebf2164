use Rattle.std.proofs.Common.{◌∙◌, ◌≤◌, List, [], ◌∷◌, sym, ap, subst, length}
use Rattle.std.specs.List.{AllByRecursion}
use Rattle.loop_body.specs.declared.body_port.BodyPort.{BodyPort}
use Rattle.loop_body.specs.Body.{Body, kinds}
use Rattle.gather_rule.specs.GatherSides.{AreNear, body_ends, left_list}
use Rattle.gather_rule.proofs.GatherLists.{can_left, left_is}
use Rattle.gather_rule.proofs.Near.{few_inputs, inputs_few, near_inputs, near_next, near_conditions}
use Rattle.gather_rule.proofs.sides.left_graph.Goals as goal

pub left_wires-requires-clause-nodes : goal.left_wires-requires-clause-nodes
left_wires-requires-clause-nodes c = subst (λ z. length z ≤ 4096) (sym (c.as_slice-inputs.ensures ∙ ap (λ (z : Body). z.inputs) c.body.view_is)) (few_inputs c.args.body.now c.requires.body)

pub left_wires-requires-clause-few : goal.left_wires-requires-clause-few
left_wires-requires-clause-few c =
    let b = c.args.body.now in
    subst (AllByRecursion (λ (ports : List BodyPort). length ports ≤ 64)) (sym (c.as_slice-inputs.ensures ∙ ap (λ (z : Body). z.inputs) c.body.view_is)) (inputs_few c.ports_are_shapes.ensures (b.vars ∷ []) (kinds b) b.inputs c.requires.body.nodes)

pub left_wires-requires-clause-near_inputs : goal.left_wires-requires-clause-near_inputs
left_wires-requires-clause-near_inputs c = subst (AllByRecursion AreNear) (sym (c.as_slice-inputs.ensures ∙ ap (λ (z : Body). z.inputs) c.body.view_is)) (near_inputs c.args.body.now c.requires.body)

pub left_wires-requires-clause-near_next : goal.left_wires-requires-clause-near_next
left_wires-requires-clause-near_next c = subst AreNear (sym (c.as_slice-next.ensures ∙ ap (λ (z : Body). z.next) c.body.view_is)) (near_next c.args.body.now c.requires.body c.requires.can)

pub left_wires-requires-clause-near_conditions : goal.left_wires-requires-clause-near_conditions
left_wires-requires-clause-near_conditions c = subst AreNear (sym (c.as_slice-conditions.ensures ∙ ap (λ (z : Body). z.conditions) c.body.view_is)) (near_conditions c.args.body.now c.requires.body)

pub rule_graph-requires : goal.rule_graph-requires
rule_graph-requires c =
    let b = c.args.body.now in
    let h = c.requires in
    can_left b h.body h.can c.args.prefix c.args.ends c.args.split.now h.free c.gather_is_sound.ensures c.in_ok-nodes.nodes.items c.as_slice-3.result.now
    (c.in_ok-nodes.ensures ∙ (λ i. left_list c.args.ends c.args.split.now (ap (λ (z : Body). z.vars) c.body.view_is i) ((c.as_slice.ensures ∙ ap (λ (z : Body). z.nodes) c.body.view_is) i) ((c.as_slice-2.ensures ∙ h.lanes_are) i)))
    (c.as_slice-3.ensures.value ∙ c.in_ok-wires.ensures ∙ (λ i. body_ends ((c.as_slice-inputs.ensures ∙ ap (λ (z : Body). z.inputs) c.body.view_is) i) ((c.as_slice-next.ensures ∙ ap (λ (z : Body). z.next) c.body.view_is) i) ((c.as_slice-conditions.ensures ∙ ap (λ (z : Body). z.conditions) c.body.view_is) i)))

pub returns : goal.returns
returns c =
    let b = c.args.body.now in
    let h = c.requires in
    c.in_ok-made.ensures
    ∙ left_is b h.body h.can c.args.prefix c.args.ends c.args.split.now h.free c.gather_is_sound.ensures c.in_ok-nodes.nodes.items c.as_slice-3.result.now
    (c.in_ok-nodes.ensures ∙ (λ i. left_list c.args.ends c.args.split.now (ap (λ (z : Body). z.vars) c.body.view_is i) ((c.as_slice.ensures ∙ ap (λ (z : Body). z.nodes) c.body.view_is) i) ((c.as_slice-2.ensures ∙ h.lanes_are) i)))
    (c.as_slice-3.ensures.value ∙ c.in_ok-wires.ensures ∙ (λ i. body_ends ((c.as_slice-inputs.ensures ∙ ap (λ (z : Body). z.inputs) c.body.view_is) i) ((c.as_slice-next.ensures ∙ ap (λ (z : Body). z.next) c.body.view_is) i) ((c.as_slice-conditions.ensures ∙ ap (λ (z : Body). z.conditions) c.body.view_is) i)))
