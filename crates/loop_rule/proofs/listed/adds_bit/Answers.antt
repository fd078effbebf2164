use Rattle.std.proofs.Common.{◌≡◌, ◌↔◌, sym, ap, ◌∙◌, Bool, IsTrue, List, ℕ, [], ◌∷◌, ◌++◌}
use Rattle.std.proofs.lemmas.List.{append_cancel_right}
use Rattle.loop_rule.proofs.listed.adds_bit.Goals as goal

without_bit : (b : Bool) (widths shape output : List ℕ) (last : ℕ) → output ≡ widths ++ last ∷ [] → last ≡ 1 → IsTrue b ↔ (widths ≡ shape) → IsTrue b ↔ (output ≡ shape ++ 1 ∷ [])
without_bit b widths shape output last e one h =
    let is : output ≡ widths ++ 1 ∷ [] = e ∙ ap (λ z. widths ++ z ∷ []) one in (
      (λ t. is ∙ ap (λ z. z ++ 1 ∷ []) (h.0 t)),
      (λ f. h.1 (append_cancel_right widths shape (1 ∷ []) (sym is ∙ f))),
    )

pub returns-in-Some-eq1-default : goal.returns-in-Some-eq1-default
returns-in-Some-eq1-default c =
    let some = c.in-Some-eq1-default in
    without_bit c.same_widths.result some.widths.now c.args.shape.now c.args.output.now some.field-0-0.now
    (sym c.widths.ensures.same ∙ some.ensures.cases.0) some.field-0-0-test
    ((λ t. c.same_widths.ensures.0 t ∙ c.widths-in-Some-eq1-default.ensures.same), (λ e. c.same_widths.ensures.1 (e ∙ sym c.widths-in-Some-eq1-default.ensures.same)))
