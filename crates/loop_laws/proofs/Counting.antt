-- A list of different members of another is no longer and no heavier.
use Rattle.std.proofs.Common.{◌≡◌, ◌≢◌, ℕ, ◌+◌, ◌≤◌, refl, sym, ap, ◌∙◌, List, [], ◌∷◌, length, arith}
use Rattle.components.specs.Name.{Name}
use Rattle.circuits.specs.Circuit.{Circuit}
use Rattle.circuits.specs.Replacing.{In, In.head, In.tail, NoneTwice}
use Rattle.loop_laws.specs.Weight.{weight, weight_of, fields_at, fields_of}
use Rattle.loop_laws.proofs.Ascending.{each_in}

-- a list of different members of another is no longer and no heavier
taken_out : (x : Name) (ys : List Name) → In x ys → List Name
taken_out x [] i = []
taken_out x (y ∷ ys) (head e) = ys
taken_out x (y ∷ ys) (tail i) = y ∷ taken_out x ys i

stays_in : (x z : Name) (ys : List Name) (i : In x ys) → z ≢ x → In z ys → In z (taken_out x ys i)
unfolding taken_out
stays_in x z [] i ne j = elim i [ ]
stays_in x z (y ∷ ys) (head e) ne (head f) = absurd (ne (f ∙ sym e))
stays_in x z (y ∷ ys) (head e) ne (tail j) = j
stays_in x z (y ∷ ys) (tail i) ne (head f) = head f
stays_in x z (y ∷ ys) (tail i) ne (tail j) = tail (stays_in x z ys i ne j)

abbrev pub sum_by : (Name → ℕ) → List Name → ℕ
sum_by w [] = 0
sum_by w (x ∷ xs) = w x + sum_by w xs

sum_out : (w : Name → ℕ) (x : Name) (ys : List Name) (i : In x ys) → sum_by w ys ≡ w x + sum_by w (taken_out x ys i)
unfolding taken_out
sum_out w x [] i = elim i [ ]
sum_out w x (y ∷ ys) (head e) = ap (λ z. w z + sum_by w ys) (sym e)
sum_out w x (y ∷ ys) (tail i) = omega (arith, sum_out w x ys i)

pub no_heavier : (w : Name → ℕ) (xs ys : List Name) → NoneTwice xs → ((x : Name) → In x xs → In x ys) → sum_by w xs ≤ sum_by w ys
no_heavier w [] ys once sub = omega arith
no_heavier w (x ∷ xs) ys once sub =
    let i : In x ys = sub x (head refl) in
    let rest = no_heavier w xs (taken_out x ys i) once.1 (λ z j. stays_in x z ys i (λ e. each_in (λ m. x ≢ m) xs z once.0 j (sym e)) (sub z (tail j))) in
    let total = sum_out w x ys i in
    omega (arith, rest, total)

pub ones : (xs : List Name) → length xs ≡ sum_by (λ x. 1) xs
ones [] = refl
ones (x ∷ xs) = omega (arith, ones xs)

pub weights : (g : Circuit) (xs : List Name) → weight_of g xs ≡ sum_by (λ x. weight (g.kind_at x)) xs
weights g [] = refl
weights g (x ∷ xs) = ap (λ z. weight (g.kind_at x) + z) (weights g xs)

pub fields_sum : (g : Circuit) (xs : List Name) → fields_of g xs ≡ sum_by (λ x. fields_at (g.kind_at x)) xs
fields_sum g [] = refl
fields_sum g (x ∷ xs) = ap (λ z. fields_at (g.kind_at x) + z) (fields_sum g xs)
