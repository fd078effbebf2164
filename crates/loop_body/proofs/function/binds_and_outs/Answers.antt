use Rattle.std.proofs.Common.{◌++◌, length, take, ap, sym, ◌∙◌, subst}
use Rattle.std.specs.List.{concat}
use Rattle.components.specs.declared.node.Node.{Node}
use Rattle.loop_body.specs.Body.{Body, flat}
use Rattle.loop_body.specs.BodyFunction.{body_function}
use Rattle.loop_body.specs.Tables.{Differ}
use Rattle.loop_body.proofs.Steps.{length-kinds, differ_left}
use Rattle.loop_body.proofs.Whole.{fit_count, all_differ, ends_differ, whole_function_at}
use Rattle.loop_body.proofs.function.binds_and_outs.Goals as goal

pub put_nodes-requires-clause-count : goal.put_nodes-requires-clause-count
put_nodes-requires-clause-count c =
    ap length c.as_slice-nodes.ensures ∙ sym (length-kinds (λ (node : Node). node.kind) c.body.inside.nodes) ∙ fit_count _ _ c.body.inside.inputs c.body.invariant.nodes ∙ sym (ap length c.as_slice-inputs.ensures)

pub put_nodes-requires-clause-differ : goal.put_nodes-requires-clause-differ
put_nodes-requires-clause-differ c =
    let b : Body = record { vars = c.body.inside.vars; nodes = c.body.inside.nodes; inputs = c.body.inside.inputs; next = c.body.inside.next; conditions = c.body.inside.conditions } in
    subst (λ xs. Differ (flat xs)) (sym c.as_slice-inputs.ensures) (differ_left (flat b.inputs) (b.next ++ b.conditions) (all_differ b c.body.invariant))

pub take_all-requires : goal.take_all-requires
take_all-requires c =
    let b : Body = record { vars = c.body.inside.vars; nodes = c.body.inside.nodes; inputs = c.body.inside.inputs; next = c.body.inside.next; conditions = c.body.inside.conditions } in
    let ports = c.in_ok-ports.ensures ∙ ap (λ xs. xs ++ take 1 c.as_slice-3.result.now) c.as_slice-2.ensures ∙ ap (λ xs. b.next ++ take 1 xs) c.as_slice-3.ensures in
    subst Differ (sym (c.deref.ensures.value ∙ ports)) (ends_differ b c.body.invariant)

pub returns : goal.returns
returns c =
    let b : Body = record { vars = c.body.inside.vars; nodes = c.body.inside.nodes; inputs = c.body.inside.inputs; next = c.body.inside.next; conditions = c.body.inside.conditions } in
    whole_function_at b c.body.invariant c.args.widths.now c.as_slice.result.now c.as_slice-nodes.result.now c.as_slice-inputs.result.now c.as_slice-2.result.now c.as_slice-3.result.now c.new-binds.result.items
    c.in_ok-table.table c.put_nodes.new.table c.put_nodes.new.binds.items c.settle.new.binds.items c.in_ok-wires.wires.items c.deref.result.now c.in_ok-outs.outs.items
    (c.requires ∙ ap (λ (x : Body). concat x.vars) (sym c.body.view_is)) c.as_slice.ensures c.as_slice-nodes.ensures c.as_slice-inputs.ensures c.as_slice-2.ensures c.as_slice-3.ensures c.new-binds.ensures.items
    c.in_ok-table.ensures c.in_ok-put_nodes.ensures (c.deref.ensures.value ∙ c.in_ok-ports.ensures) c.in_ok-wires.ensures.wires c.in_ok-outs.ensures ∙ ap body_function c.body.view_is
