-- Names in byte order: an ascending list is told by its elements.
use Rattle.std.proofs.Common.{◌≡◌, refl, sym, ap, subst, ◌∙◌, List, [], ◌∷◌, Less, Greater}
use Rattle.std.specs.List.{AllByRecursion}
use Rattle.std.specs.Ordering.{ordering_reverse}
use Rattle.components.specs.Name.{Name}
use Rattle.components.specs.Orders.{name_total}
use Rattle.circuits.specs.Replacing.{In, In.head, In.tail}
use Rattle.loop_laws.specs.BodyOrder.{IsBefore, Ascending}

pub each_in : {A : Type 0} (P : A → Type 0) (xs : List A) (x : A) → AllByRecursion P xs → In x xs → P x
each_in P [] x h i = elim i [ ]
each_in P (y ∷ ys) x h (head e) = subst P (sym e) h.0
each_in P (y ∷ ys) x h (tail i) = each_in P ys x h.1 i

pub not_both : (a b : Name) → IsBefore a b → IsBefore b a → ⊥
not_both a b less more = let e : Less ≡ Greater = sym less ∙ name_total.antisymm a b ∙ ap ordering_reverse more in cc

pub not_itself : (a : Name) → IsBefore a a → ⊥
not_itself a h = not_both a a h h

first_same : (x y : Name) (xs ys : List Name) → AllByRecursion (IsBefore x) xs → AllByRecursion (IsBefore y) ys → In x (y ∷ ys) → In y (x ∷ xs) → x ≡ y
first_same x y xs ys h k (head e) j = e
first_same x y xs ys h k (tail i) (head e) = sym e
first_same x y xs ys h k (tail i) (tail j) = absurd (not_both x y (each_in (IsBefore x) xs y h j) (each_in (IsBefore y) ys x k i))

rest_in : (x y z : Name) (xs ys : List Name) → x ≡ y → AllByRecursion (IsBefore x) xs → In z xs → In z (y ∷ ys) → In z ys
rest_in x y z xs ys e h i (head f) = absurd (not_itself z (subst (λ w. IsBefore w z) (e ∙ sym f) (each_in (IsBefore x) xs z h i)))
rest_in x y z xs ys e h i (tail j) = j

pub ascending_same : (xs ys : List Name) → Ascending xs → Ascending ys → ((n : Name) → In n xs → In n ys) → ((n : Name) → In n ys → In n xs) → xs ≡ ys
ascending_same [] [] h k f b = refl
ascending_same [] (y ∷ ys) h k f b = elim (b y (head refl)) [ ]
ascending_same (x ∷ xs) [] h k f b = elim (f x (head refl)) [ ]
ascending_same (x ∷ xs) (y ∷ ys) h k f b =
    let e : x ≡ y = first_same x y xs ys h.0 k.0 (f x (head refl)) (b y (head refl)) in
    ap (λ z. z ∷ xs) e
    ∙ ap (λ zs. y ∷ zs)
    (ascending_same xs ys h.1 k.1 (λ n i. rest_in x y n xs ys e h.0 i (f n (tail i))) (λ n i. rest_in y x n ys xs (sym e) k.0 i (b n (tail i))))
