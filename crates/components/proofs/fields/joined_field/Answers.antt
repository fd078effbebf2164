use Rattle.std.proofs.Common.{◌∙◌, ◌+◌, ◌-◌, ◌<◌, ◌≤◌, length, drop, slice_get, sym, ap, subst}
use Rattle.std.specs.List.{concat}
use Rattle.components.proofs.PortFields.{field_here, field_later}
use Rattle.components.proofs.fields.joined_field.Goals as goal

pub returns-then-left-count : goal.returns-then-left-count
returns-then-left-count c =
    let within = subst (λ shape. c.loop-shape.left < length shape) c.widths-count.ensures.same c.if-left-count.true in
    let here = field_here c.args.shapes.now c.loop-shape.shape-index c.loop-shape.left c.shape-item.result c.loop-shape-test.true c.shape-item.is within in
    c.field_in.ensures ∙ sym here ∙ sym c.loop-shape.invariant

pub loop-shape-preserved : goal.loop-shape-preserved
loop-shape-preserved c =
    let past = subst (λ shape. length shape ≤ c.loop-shape.left) c.widths-count.ensures.same c.if-left-count.false in
    let later = field_later c.args.shapes.now c.loop-shape.shape-index c.loop-shape.left c.shape-item.result c.loop-shape-test.true c.shape-item.is past in
    c.loop-shape.invariant ∙ later ∙ ap (λ shape. slice_get (concat (drop (c.loop-shape.shape-index + 1) c.args.shapes.now)) (c.loop-shape.left - length shape)) (sym c.widths-count.ensures.same)
