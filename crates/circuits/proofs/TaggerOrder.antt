-- In each run the slots of a Tagger are a queue: tags come in at its end and leave at its front.
use Rattle.std.proofs.Common.{◌≡◌, ℕ, zero, suc, inl, inr, refl, sym, ap, subst, ◌∙◌, drop, if◌then◌else◌, List, [], ◌∷◌, ◌++◌, Some, append-nil, append_assoc}
use Rattle.components.specs.declared.kind.Kind.TheVariants.{Tagger}
use Rattle.components.specs.Name.{Name}
use Rattle.components.specs.Kind.{Shape}
use Rattle.circuits.specs.PortTokens.{Token}
use Rattle.circuits.specs.Circuit.{Circuit}
use Rattle.circuits.specs.CircuitState.{Slot, CircuitState, start}
use Rattle.circuits.specs.Firing.{Label, Label.Feed, Label.Take, Label.Fire, waiting, finished, Acts}
use Rattle.circuits.specs.Run.{Move, Run}
use Rattle.circuits.specs.TaggerOrder.{tags_of, giving, tags_given, freeing, results_given}
use Rattle.circuits.proofs.Names.{name_cases}
use Rattle.circuits.proofs.Steps.{acts_at}

tags_append : (xs ys : List Slot) → tags_of (xs ++ ys) ≡ tags_of xs ++ tags_of ys
tags_append [] ys = refl
tags_append (x ∷ xs) ys = ap (λ z. x.tag ∷ z) (tags_append xs ys)

same_tags : (tag : ℕ) (v : Token) (older newer : List Slot) → tags_of (older ++ waiting tag ∷ newer) ≡ tags_of (older ++ finished tag v ∷ newer)
same_tags tag v [] newer = refl
same_tags tag v (x ∷ older) newer = ap (λ z. x.tag ∷ z) (same_tags tag v older newer)

-- what one firing does to the tags, where others come later
one_firing : (shape : Shape) (tags : ℕ) (l : Label) (old : List Slot) (taken given : List (List Token)) (new : List Slot) → Acts (Tagger shape tags) l old taken given new →
    (count : ℕ) (later : List ℕ) → drop count (tags_of new ++ later) ≡ drop (freeing l count) (tags_of old ++ giving l later)
one_firing shape tags (Feed v) old taken given new acts count later = absurd acts
one_firing shape tags (Take v) old taken given new acts count later = absurd acts
one_firing shape tags (Fire zero) old taken given new (tag, v, eo, et, eg) count later =
    sym (ap (λ z. drop (suc count) (tags_of z ++ later)) eo)
one_firing shape tags (Fire (suc zero)) old taken given new (tag, v, older, newer, eo, en, et, eg) count later =
    ap (λ z. drop count (z ++ later)) (ap tags_of en ∙ sym (same_tags tag v older newer) ∙ sym (ap tags_of eo))
one_firing shape tags (Fire (suc (suc tag))) old taken given new (v, below, none, en, et, eg) count later =
    ap (λ z. drop count (z ++ later)) (ap tags_of en ∙ tags_append old (waiting tag ∷ []))
    ∙ ap (drop count) (append_assoc (tags_of old) (tag ∷ []) later)

module _ (c : Circuit) (n : Name) (shape : Shape) (tags : ℕ) (is_tagger : c.kind_at n ≡ Some (Tagger shape tags)) where
  in_order : (s : CircuitState) (ms : List Move) (t : CircuitState) → Run c s ms t → tags_of (t.slots n) ≡ drop (results_given n ms) (tags_of (s.slots n) ++ tags_given n ms)
  in_order s [] t run = sym (append-nil (tags_of (t.slots n))) ∙ ap (λ (z : CircuitState). tags_of (z.slots n) ++ []) (sym run)
  in_order s (m ∷ ms) t run =
      in_order run.0 ms t run.2
      ∙ elim (name_cases m.node n) [
        | inl is ↦
            one_firing shape tags m.label (s.slots n) run.1.taken run.1.given (run.0.slots n)
            (subst (λ z. Acts (Tagger shape tags) m.label (s.slots z) run.1.taken run.1.given (run.0.slots z)) is.is
            (acts_at c s m.node m.label run.0 run.1 (Tagger shape tags) (ap c.kind_at is.is ∙ is_tagger)))
            (results_given n ms) (tags_given n ms)
            ∙ ap (λ b. drop (if b then freeing m.label (results_given n ms) else results_given n ms) (tags_of (s.slots n) ++ (if b then giving m.label (tags_given n ms) else tags_given n ms))) (sym is.test)
        | inr ne ↦
            ap (λ z. drop (results_given n ms) (tags_of z ++ tags_given n ms)) (run.1.others n (λ e. ne.is_not (sym e)))
            ∙ ap (λ b. drop (if b then freeing m.label (results_given n ms) else results_given n ms) (tags_of (s.slots n) ++ (if b then giving m.label (tags_given n ms) else tags_given n ms))) (sym ne.test)
      ]

  pub tagger_in_order : (ms : List Move) (t : CircuitState) → Run c (start c) ms t → tags_of (t.slots n) ≡ drop (results_given n ms) (tags_given n ms)
  tagger_in_order ms t run = in_order (start c) ms t run
