use Rattle.std.proofs.Common.{[], ◌∷◌, ◌++◌, ap, sym, ◌∙◌}
use Rattle.std.specs.Vec.Iter.{into_iter_items}
use Rattle.loop_body.proofs.Settled.{next_taken}
use Rattle.loop_body.proofs.binds.next_part.Goals as goal

pub loop-field-preserved : goal.loop-field-preserved
loop-field-preserved c =
    let inv = c.loop-field.invariant in
    let step = next_taken (into_iter_items c.args.rest.now) (into_iter_items c.next.new.self) c.loop-field._field c.in-Some.wired (sym inv.1 ∙ c.in-Some.ensures.items) in
    (c.in_ok-push-in-Some.ensures.items ∙ ap (λ xs. xs ++ c.in-Some.wired ∷ []) inv.0 ∙ sym step.0, sym step.1)
