-- the places of a list. A circuit's nodes that are alike stand at the places of one
use Rattle.std.specs.Prelude.{◌≡◌, ℕ, zero, suc, Bool, true, false, List, [], ◌∷◌, Option, Some, None, refl, map}
use Rattle.circuit_plans.specs.Plans.{Out}

pub data Place {A : Type 0} : List A → Type 0 where
  first : {x : A} {xs : List A} → Place (x ∷ xs)
  later : {x : A} {xs : List A} → Place xs → Place (x ∷ xs)

-- what stands at a place
abbrev pub item : {A : Type 0} (xs : List A) → Place xs → A
item [] l = elim l [ ]
item (x ∷ xs) first = x
item (x ∷ xs) (later l) = item xs l

-- how many places come before
abbrev pub before : {A : Type 0} (xs : List A) → Place xs → ℕ
before [] l = elim l [ ]
before (x ∷ xs) first = 0
before (x ∷ xs) (later l) = suc (before xs l)

-- a place's number, counted from 1 as ports are
abbrev pub number : {A : Type 0} (xs : List A) → Place xs → ℕ
number xs l = suc (before xs l)

-- the place, one further on
abbrev pub later_of : {A : Type 0} {x : A} {xs : List A} → Option (Place xs) → Option (Place (x ∷ xs))
later_of None = None
later_of (Some l) = Some (later l)

-- the place of this number, if there is one
abbrev pub place_at : {A : Type 0} (xs : List A) → ℕ → Option (Place xs)
place_at [] i = None
place_at (x ∷ xs) zero = None
place_at (x ∷ xs) (suc zero) = Some first
place_at (x ∷ xs) (suc (suc i)) = later_of (place_at xs (suc i))

abbrev pub same_place : {A : Type 0} (xs : List A) → Place xs → Place xs → Bool
same_place [] l k = true
same_place (x ∷ xs) first first = true
same_place (x ∷ xs) first (later k) = false
same_place (x ∷ xs) (later l) first = false
same_place (x ∷ xs) (later l) (later k) = same_place xs l k

pub same_place_is : {A : Type 0} (xs : List A) (l k : Place xs) → same_place xs l k ≡ true → l ≡ k
same_place_is [] l k e = elim l [ ]
same_place_is (x ∷ xs) first first e = refl
same_place_is (x ∷ xs) first (later k) e = cc
same_place_is (x ∷ xs) (later l) first e = cc
same_place_is (x ∷ xs) (later l) (later k) e = λ i. later (same_place_is xs l k e i)

pub same_place_self : {A : Type 0} (xs : List A) (l : Place xs) → same_place xs l l ≡ true
same_place_self [] l = refl
same_place_self (x ∷ xs) first = refl
same_place_self (x ∷ xs) (later l) = same_place_self xs l

-- all places, in order
abbrev pub places : {A : Type 0} (xs : List A) → List (Place xs)
places [] = []
places (x ∷ xs) = first ∷ map later (places xs)

-- output i of the node at a place
abbrev pub output_at : {A N : Type 0} {xs : List A} → (Place xs → N) → ℕ → Option (Place xs) → Option (Out N)
output_at node i None = None
output_at node i (Some l) = Some (record { at = node l; port = i })

-- the nodes at all places
abbrev pub each_of : {A N : Type 0} (xs : List A) → (Place xs → N) → List N
each_of xs node = map node (places xs)
