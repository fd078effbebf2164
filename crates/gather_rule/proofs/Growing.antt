-- Lists that grow by what one more item gives.
use Rattle.std.proofs.Common.{◌≡◌, ℕ, zero, suc, ◌+◌, ◌-◌, ◌<◌, refl, sym, ap, subst, ◌∙◌, List, [], ◌∷◌, ◌++◌, length, map, take, append_assoc, arith, slice_index_or, Some}
use Rattle.std.specs.Prelude.{slice_get}
use Rattle.std.specs.List.{AllByRecursion}
use Rattle.std.proofs.Math.Seq.{take-suc}
use Rattle.std.proofs.lemmas.List.{length-take-le}
use Rattle.components.specs.declared.kind.Kind.{Kind}
use Rattle.components.specs.declared.node.Node.{Node}
use Rattle.gather_rule.specs.GatherSides.{rows_from}

append_nil : {A : Type 0} (xs : List A) → xs ++ [] ≡ xs
append_nil [] = refl
append_nil (x ∷ xs) = ap (λ z. x ∷ z) (append_nil xs)

pub take_more : {A : Type 0} (xs : List A) (place : ℕ) (x : A) → slice_index_or xs place x ≡ x → place < length xs → take (place + 1) xs ≡ take place xs ++ x ∷ []
take_more xs place x is within =
    let next : place + 1 ≡ suc place = omega arith in
    ap (λ z. take z xs) next ∙ take-suc xs place x within ∙ ap (λ z. take place xs ++ z ∷ []) is

-- what holds of each holds at a place
pub all_at : {A : Type 0} (P : A → Type 0) (xs : List A) (place : ℕ) (x : A) → slice_index_or xs place x ≡ x → place < length xs → AllByRecursion P xs → P x
all_at P [] place x is within h = absurd (omega (arith, within))
all_at P (y ∷ ys) zero x is within h = subst P is h.0
all_at P (y ∷ ys) (suc place) x is within h = all_at P ys place x is (omega (arith, within)) h.1

module _ {A B : Type 0} (row : ℕ → A → List B) where
  rows_last : (low : ℕ) (xs : List A) (x : A) → rows_from row low (xs ++ x ∷ []) ≡ rows_from row low xs ++ row (low + length xs) x
  rows_last low [] x = let same : low ≡ low + 0 = omega arith in append_nil (row low x) ∙ ap (λ z. row z x) same
  rows_last low (y ∷ xs) x =
      let same : suc low + length xs ≡ low + suc (length xs) = omega arith in
      ap (λ z. row low y ++ z) (rows_last (suc low) xs x ∙ ap (λ z. rows_from row (suc low) xs ++ row z x) same) ∙ sym (append_assoc (row low y) (rows_from row (suc low) xs) (row (low + suc (length xs)) x))

  pub rows_more : (low : ℕ) (xs : List A) (place : ℕ) (x : A) (start old new : List B) → slice_index_or xs place x ≡ x → place < length xs → new ≡ old ++ row (low + place) x → old ≡ start ++ rows_from row low (take place xs) →
      new ≡ start ++ rows_from row low (take (place + 1) xs)
  rows_more low xs place x start old new is within pushed was =
      let long : low + length (take place xs) ≡ low + place = ap (λ z. low + z) (length-take-le place xs (omega (arith, within))) in
      pushed ∙ ap (λ z. z ++ row (low + place) x) was ∙ append_assoc start (rows_from row low (take place xs)) (row (low + place) x)
      ∙ ap (λ z. start ++ z) (ap (λ z. rows_from row low (take place xs) ++ row z x) (sym long) ∙ sym (rows_last low (take place xs) x) ∙ ap (rows_from row low) (sym (take_more xs place x is within)))

map_both : {A B : Type 0} (f : A → B) (xs ys : List A) → map f (xs ++ ys) ≡ map f xs ++ map f ys
map_both f [] ys = refl
map_both f (x ∷ xs) ys = ap (λ z. f x ∷ z) (map_both f xs ys)

pub map_more : {A B : Type 0} (f : A → B) (xs : List A) (place : ℕ) (x : A) (start old new : List B) → slice_index_or xs place x ≡ x → place < length xs → new ≡ old ++ f x ∷ [] → old ≡ start ++ map f (take place xs) →
    new ≡ start ++ map f (take (place + 1) xs)
map_more f xs place x start old new is within pushed was =
    pushed ∙ ap (λ z. z ++ f x ∷ []) was ∙ append_assoc start (map f (take place xs)) (f x ∷ [])
    ∙ ap (λ z. start ++ z) (sym (map_both f (take place xs) (x ∷ [])) ∙ ap (map f) (sym (take_more xs place x is within)))

-- the kind behind the Split
pub kind_behind : (split : Kind) (nodes : List Node) (number : ℕ) (node : Node) → (number ≡ 0 → ⊥) → slice_get nodes (number - 1) ≡ Some node → slice_get (split ∷ map (λ (n : Node). n.kind) nodes) number ≡ Some node.kind
kind_behind split nodes zero node not_zero is = absurd (not_zero refl)
kind_behind split nodes (suc i) node not_zero is = let same : suc i - 1 ≡ i = omega arith in mapped nodes i node (subst (λ z. slice_get nodes z ≡ Some node) same is)
  where
    mapped : (nodes : List Node) (i : ℕ) (node : Node) → slice_get nodes i ≡ Some node → slice_get (map (λ (n : Node). n.kind) nodes) i ≡ Some node.kind
    mapped [] i node e = absurd cc
    mapped (n ∷ nodes) zero node e = let same : n ≡ node = cc in ap (λ (z : Node). Some z.kind) same
    mapped (n ∷ nodes) (suc i) node e = mapped nodes i node e

pub value_at : {A : Type 0} (xs : List A) (place : ℕ) (x : A) → slice_get xs place ≡ Some x → slice_index_or xs place x ≡ x
value_at [] place x e = absurd cc
value_at (y ∷ xs) zero x e = let same : y ≡ x = cc in same
value_at (y ∷ xs) (suc place) x e = value_at xs place x e
