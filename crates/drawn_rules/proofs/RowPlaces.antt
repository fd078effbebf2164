-- Wires that come in rows, place by place.
use Rattle.std.proofs.Common.{◌≡◌, ℕ, zero, suc, ◌+◌, refl, sym, ap, ◌∙◌, List, [], ◌∷◌, ◌++◌, length, append_assoc, arith}
use Rattle.graph_core.specs.declared.exchange.End.{End}
use Rattle.circuit_plans.specs.Places.{Place, before, each_of}
use Rattle.drawn_rules.specs.declared.rows.Row.{Row}
use Rattle.drawn_rules.specs.Rows.{row_end, row_wires}
use Rattle.drawn_rules.proofs.Places.{each_next}

module _ (from to : Row) where
  abbrev pub wire_at : ℕ → End × End
  wire_at index = (row_end from index, row_end to index)

  row_last : (index lanes : ℕ) → row_wires from to index (suc lanes) ≡ row_wires from to index lanes ++ wire_at (index + lanes) ∷ []
  row_last index zero = let same : index ≡ index + 0 = omega arith in ap (λ z. wire_at z ∷ []) same
  row_last index (suc lanes) =
      let same : suc index + lanes ≡ index + suc lanes = omega arith in
      ap (λ z. wire_at index ∷ z) (row_last (suc index) lanes ∙ ap (λ z. row_wires from to (suc index) lanes ++ wire_at z ∷ []) same)

  -- a wire more
  pub row_more : (lanes : ℕ) (new old start : List (End × End)) (wire : End × End) → new ≡ old ++ wire ∷ [] → old ≡ start ++ row_wires from to 0 lanes → wire ≡ wire_at lanes → new ≡ start ++ row_wires from to 0 (lanes + 1)
  row_more lanes new old start wire pushed was is =
      let next : suc lanes ≡ lanes + 1 = omega arith in
      let here : 0 + lanes ≡ lanes = omega arith in
      pushed ∙ ap (λ z. z ++ wire ∷ []) was ∙ append_assoc start (row_wires from to 0 lanes) (wire ∷ [])
      ∙ ap (λ z. start ++ z) (ap (λ z. row_wires from to 0 lanes ++ z ∷ []) (is ∙ ap wire_at (sym here)) ∙ sym (row_last 0 lanes) ∙ ap (row_wires from to 0) next)

  pub row_each : {A : Type 0} (xs : List A) (index : ℕ) → row_wires from to index (length xs) ≡ each_of xs (λ l. wire_at (index + before xs l))
  row_each [] index = refl
  row_each (x ∷ xs) index =
      let here : index ≡ index + 0 = omega arith in
      let moved : (λ (l : Place xs). wire_at (suc index + before xs l)) ≡ (λ l. wire_at (index + suc (before xs l))) = λ i l. wire_at (further l i) in
      (λ i. wire_at (here i) ∷ (row_each xs (suc index) ∙ ap (each_of xs) moved) i) ∙ sym (each_next x xs (λ l. wire_at (index + before (x ∷ xs) l)))
    where
      further : (l : Place xs) → suc index + before xs l ≡ index + suc (before xs l)
      further l = omega arith
