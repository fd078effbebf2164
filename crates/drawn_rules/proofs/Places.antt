-- The places of the nodes of a drawing in its list, where they come in families.
use Rattle.std.proofs.Common.{◌≡◌, ◌≢◌, ℕ, suc, ◌+◌, ◌<◌, ◌≤◌, refl, sym, ap, subst, List, [], ◌∷◌, ◌++◌, Some, map, length, arith}
use Rattle.std.specs.List.{AllByRecursion, slice_get}
use Rattle.circuits.specs.Replacing.{In, head, tail}
use Rattle.circuit_plans.specs.Places.{Place, first, later, before, places, each_of}
use Rattle.subst_engine.specs.Making.{AllDiffer}

-- A family, place by place

mapped_later : {A B : Type 0} {x : A} {xs : List A} (f : Place (x ∷ xs) → B) (ls : List (Place xs)) → map f (map later ls) ≡ map (λ l. f (later l)) ls
mapped_later f [] = refl
mapped_later f (l ∷ ls) = ap (λ z. f (later l) ∷ z) (mapped_later f ls)

pub each_next : {A B : Type 0} (x : A) (xs : List A) (f : Place (x ∷ xs) → B) → each_of (x ∷ xs) f ≡ f first ∷ each_of xs (λ l. f (later l))
each_next x xs f = ap (λ z. f first ∷ z) (mapped_later f (places xs))

pub before_less : {A : Type 0} (xs : List A) (l : Place xs) → before xs l < length xs
before_less [] l = elim l [ ]
before_less (x ∷ xs) first = omega arith
before_less (x ∷ xs) (later l) = let h : before xs l < length xs = before_less xs l in omega (arith, h)

-- Lists that rise by a rank have no element twice

abbrev pub Rises : {A : Type 0} → (A → ℕ) → ℕ → List A → ℕ → Type 0
Rises rank low [] high = low ≤ high
Rises rank low (x ∷ xs) high = (low ≤ rank x) × Rises rank (suc (rank x)) xs high

pub rises_from : {A : Type 0} (rank : A → ℕ) (less low high : ℕ) (xs : List A) → less ≤ low → Rises rank low xs high → Rises rank less xs high
rises_from rank less low high [] le h = omega (arith, le, h)
rises_from rank less low high (x ∷ xs) le h = let from = h.0 in (omega (arith, le, from), h.1)

pub rises_both : {A : Type 0} (rank : A → ℕ) (low middle high : ℕ) (xs ys : List A) → Rises rank low xs middle → Rises rank middle ys high → Rises rank low (xs ++ ys) high
rises_both rank low middle high [] ys h more = rises_from rank low middle high ys h more
rises_both rank low middle high (x ∷ xs) ys h more = (h.0, rises_both rank (suc (rank x)) middle high xs ys h.1 more)

pub rises_each : {A B : Type 0} (rank : B → ℕ) (xs : List A) (f : Place xs → B) (low : ℕ) → ((l : Place xs) → rank (f l) ≡ low + before xs l) → Rises rank low (each_of xs f) (low + length xs)
rises_each rank [] f low h = omega arith
rises_each rank (x ∷ xs) f low h =
    let here : rank (f first) ≡ low + 0 = h first in
    let rest : Rises rank (suc low) (each_of xs (λ l. f (later l))) (suc low + length xs) =
    rises_each rank xs (λ l. f (later l)) (suc low) (λ l. let is : rank (f (later l)) ≡ low + suc (before xs l) = h (later l) in omega (arith, is)) in
    let top : suc low + length xs ≡ low + suc (length xs) = omega arith in
    subst (λ z. Rises rank low z (low + length (x ∷ xs))) (sym (each_next x xs f))
    (omega (arith, here), rises_from rank (suc (rank (f first))) (suc low) (low + suc (length xs)) (each_of xs (λ l. f (later l))) (omega (arith, here)) (subst (Rises rank (suc low) (each_of xs (λ l. f (later l)))) top rest))

above : {A : Type 0} (rank : A → ℕ) (x : A) (low high : ℕ) (xs : List A) → rank x < low → Rises rank low xs high → AllByRecursion (λ y. x ≢ y) xs
above rank x low high [] less h = tt
above rank x low high (y ∷ ys) less h =
    let from = h.0 in (
      (λ e. let same : rank x ≡ rank y = ap rank e in absurd (omega (arith, same, less, from))),
      above rank x (suc (rank y)) high ys (omega (arith, less, from)) h.1,
    )

pub rises_differ : {A : Type 0} (rank : A → ℕ) (low high : ℕ) (xs : List A) → Rises rank low xs high → AllDiffer xs
rises_differ rank low high [] h = tt
rises_differ rank low high (x ∷ xs) h = (above rank x (suc (rank x)) high xs (omega arith) h.1, rises_differ rank (suc (rank x)) high xs h.1)

pub rises_mapped : {A B : Type 0} (f : A → B) (rank : B → ℕ) (low high : ℕ) (xs : List A) → Rises (λ x. rank (f x)) low xs high → Rises rank low (map f xs) high
rises_mapped f rank low high [] h = h
rises_mapped f rank low high (x ∷ xs) h = (h.0, rises_mapped f rank (suc (rank (f x))) high xs h.1)

-- Lists whose elements are counted by their places

abbrev pub Counts : {A : Type 0} → (A → ℕ) → ℕ → List A → ℕ → Type 0
Counts place low [] high = low ≡ high
Counts place low (x ∷ xs) high = (place x ≡ low) × Counts place (suc low) xs high

pub counts_both : {A : Type 0} (place : A → ℕ) (low middle high : ℕ) (xs ys : List A) → Counts place low xs middle → Counts place middle ys high → Counts place low (xs ++ ys) high
counts_both place low middle high [] ys h more = subst (λ z. Counts place z ys high) (sym h) more
counts_both place low middle high (x ∷ xs) ys h more = (h.0, counts_both place (suc low) middle high xs ys h.1 more)

pub counts_each : {A B : Type 0} (place : B → ℕ) (xs : List A) (f : Place xs → B) (low : ℕ) → ((l : Place xs) → place (f l) ≡ low + before xs l) → Counts place low (each_of xs f) (low + length xs)
counts_each place [] f low h = omega arith
counts_each place (x ∷ xs) f low h =
    let here : place (f first) ≡ low + 0 = h first in
    let rest : Counts place (suc low) (each_of xs (λ l. f (later l))) (suc low + length xs) =
    counts_each place xs (λ l. f (later l)) (suc low) (λ l. let is : place (f (later l)) ≡ low + suc (before xs l) = h (later l) in omega (arith, is)) in
    let top : suc low + length xs ≡ low + suc (length xs) = omega arith in
    subst (λ z. Counts place low z (low + length (x ∷ xs))) (sym (each_next x xs f))
    (omega (arith, here), subst (Counts place (suc low) (each_of xs (λ l. f (later l)))) top rest)

-- so they rise
pub counts_rise : {A : Type 0} (place : A → ℕ) (low high : ℕ) (xs : List A) → Counts place low xs high → Rises place low xs high
counts_rise place low high [] h = omega (arith, h)
counts_rise place low high (x ∷ xs) h = let is = h.0 in (omega (arith, is), subst (λ z. Rises place z xs high) (ap suc (sym is)) (counts_rise place (suc low) high xs h.1))

-- and each stands at its place
counted_at : {A : Type 0} (place : A → ℕ) (low high : ℕ) (xs : List A) (x : A) → Counts place low xs high → In x xs → (i : ℕ) × (place x ≡ low + i) × (slice_get xs i ≡ Some x)
counted_at place low high [] x h i = elim i [ ]
counted_at place low high (y ∷ ys) x h (head e) = let is = h.0 in let at : place x ≡ place y = ap place e in (0, omega (arith, is, at), ap Some (sym e))
counted_at place low high (y ∷ ys) x h (tail i) = let (k, is, there) = counted_at place (suc low) high ys x h.1 i in (suc k, omega (arith, is), there)

pub stands_at : {A : Type 0} (place : A → ℕ) (high : ℕ) (xs : List A) (x : A) → Counts place 0 xs high → In x xs → slice_get xs (place x) ≡ Some x
stands_at place high xs x h i =
    let (k, is, there) = counted_at place 0 high xs x h i in
    let same : k ≡ place x = omega (arith, is) in
    subst (λ z. slice_get xs z ≡ Some x) same there
