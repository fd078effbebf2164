-- Numbers that stand in different places are no more than the places.
use Rattle.std.proofs.Common.{◌≡◌, ℕ, zero, suc, ◌<◌, ◌≤◌, true, eqb, List, [], ◌∷◌, length, Option, Some, refl, ap, subst, inl, inr, arith}
use Rattle.std.specs.Prelude.{unwrap_or}
use Rattle.std.specs.List.{list_any}
use Rattle.std.proofs.lemmas.Bool.{or_left, or_right, eq-eqb, cases_eq}
use Rattle.std.proofs.lemmas.Map.Steps.{le-length_from_below}

-- what stands at each place below
abbrev at_places : (ℕ → ℕ) → ℕ → List ℕ
at_places f zero = []
at_places f (suc place) = f place ∷ at_places f place

count_places : (f : ℕ → ℕ) (count : ℕ) → length (at_places f count) ≡ count
count_places f zero = refl
count_places f (suc count) = ap suc (count_places f count)

stands_there : (f : ℕ → ℕ) (place count : ℕ) → place < count → list_any (eqb (f place)) (at_places f count) ≡ true
stands_there f place zero below = absurd (omega arith)
stands_there f place (suc count) below = elim (cases_eq place count) [
  | inl last ↦ or_left (eqb (f place) (f count)) (list_any (eqb (f place)) (at_places f count)) (eq-eqb (f place) (f count) (ap f last))
  | inr other ↦ or_right (eqb (f place) (f count)) (list_any (eqb (f place)) (at_places f count)) (stands_there f place count (omega arith))
]

-- where each number below a bound stands at a place below another, the first bound is no more than the second
pub few : (f : ℕ → Option ℕ) (places bound : ℕ) → ((place number : ℕ) → f place ≡ Some number → place < places) → ((number : ℕ) → number < bound → (place : ℕ) × (f place ≡ Some number)) → bound ≤ places
few f places bound within each =
    let g : ℕ → ℕ = λ place. unwrap_or (f place) 0 in
    subst (λ n. bound ≤ n) (count_places g places) (le-length_from_below (at_places g places) bound (λ number below.
    let (place, is) = each number below in
    let value : g place ≡ number = ap (λ o. unwrap_or o 0) is in
    subst (λ n. list_any (eqb n) (at_places g places) ≡ true) value (stands_there g place places (within place number is))))
