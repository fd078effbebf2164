use Rattle.std.proofs.Common.{◌∙◌, ap, [], ◌∷◌, ◌++◌, replicate}
use Rattle.std.proofs.lemmas.List.{replicate_more}
use Rattle.drawn_rules.proofs.shapes.copies.Goals as goal

pub loop-preserved : goal.loop-preserved
loop-preserved c =
    c.in_ok-push.ensures.items ∙ ap (λ z. z ++ c.in_ok-copy_shape.field-0 ∷ []) c.loop.invariant
    ∙ ap (λ z. replicate c.loop.counter c.args.shape.now ++ z ∷ []) c.in_ok-copy_shape.ensures ∙ replicate_more c.loop.counter c.args.shape.now
