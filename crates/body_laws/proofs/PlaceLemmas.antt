-- places of lists, and what stands there
use Rattle.std.proofs.Common.{◌≡◌, ℕ, zero, suc, ◌+◌, ◌<◌, refl, sym, ap, ◌∙◌, List, [], ◌∷◌, Option, Some, None, map, length, arith}
use Rattle.std.specs.Prelude.{slice_get}
use Rattle.circuit_plans.specs.Places.{Place, first, later, item, before, place_at, later_of}
use Rattle.circuits.proofs.Beside.{none_some}
use Rattle.components.specs.Name.{port_get}
use Rattle.fun_expr.specs.Each.{Each}
use Rattle.std.proofs.lemmas.Option.{same_Some}

pub each_place : {A : Type 0} (P : A → Type 0) (xs : List A) → ((p : Place xs) → P (item xs p)) → Each P xs
each_place P [] h = tt
each_place P (x ∷ xs) h = (h first, each_place P xs (λ p. h (later p)))

pub at_place : {A : Type 0} (P : A → Type 0) (xs : List A) → Each P xs → (p : Place xs) → P (item xs p)
at_place P [] h p = elim p [ ]
at_place P (x ∷ xs) h first = h.0
at_place P (x ∷ xs) h (later p) = at_place P xs h.1 p

pub place_number : {A : Type 0} (xs : List A) (p : Place xs) → place_at xs (suc (before xs p)) ≡ Some p
place_number [] p = elim p [ ]
place_number (x ∷ xs) first = refl
place_number (x ∷ xs) (later p) = ap later_of (place_number xs p)

later_before : {A : Type 0} (x : A) (xs : List A) (i : ℕ) (p : Place (x ∷ xs)) (o : Option (Place xs)) → ((q : Place xs) → o ≡ Some q → before xs q ≡ i) → later_of {x = x} o ≡ Some p → before (x ∷ xs) p ≡ suc i
later_before x xs i p None h g = absurd (none_some None p refl g)
later_before x xs i p (Some q) h g = ap (before (x ∷ xs)) (sym (same_Some (later q) p g)) ∙ ap suc (h q refl)

pub number_of : {A : Type 0} (xs : List A) (i : ℕ) (p : Place xs) → place_at xs (suc i) ≡ Some p → before xs p ≡ i
number_of [] i p e = elim p [ ]
number_of (x ∷ xs) zero p e = ap (before (x ∷ xs)) (sym (same_Some first p e))
number_of (x ∷ xs) (suc i) p e = later_before x xs i p (place_at xs (suc i)) (λ q f. number_of xs i q f) e

pub number_lt : {A : Type 0} (xs : List A) (p : Place xs) → before xs p < length xs
number_lt [] p = elim p [ ]
number_lt (x ∷ xs) first = omega arith
number_lt (x ∷ xs) (later p) = let k : before xs p < length xs = number_lt xs p in omega (arith, k)

pub item_get : {A : Type 0} (xs : List A) (p : Place xs) → slice_get xs (before xs p) ≡ Some (item xs p)
item_get [] p = elim p [ ]
item_get (x ∷ xs) first = refl
item_get (x ∷ xs) (later p) = item_get xs p

pub item_port : {A B : Type 0} (f : A → B) (xs : List A) (p : Place xs) → port_get (map f xs) (suc (before xs p)) ≡ Some (f (item xs p))
item_port f [] p = elim p [ ]
item_port f (x ∷ xs) first = refl
item_port f (x ∷ xs) (later p) = item_port f xs p

-- the place of an item that is found
pub record Found {A : Type 0} (xs : List A) (i : ℕ) (x : A) : Type 0 where
  pub place : Place xs
  pub is_place : place_at xs (suc i) ≡ Some place
  pub is_item : item xs place ≡ x

pub found_at : {A : Type 0} (xs : List A) (i : ℕ) (x : A) → slice_get xs i ≡ Some x → Found xs i x
found_at [] i x e = absurd (none_some None x refl e)
found_at (y ∷ xs) zero x e = record { place = first; is_place = refl; is_item = same_Some y x e }
found_at (y ∷ xs) (suc i) x e =
    let go = found_at xs i x e in record { place = later go.place; is_place = ap later_of go.is_place; is_item = go.is_item }

-- ports of a list and places
pub port_place : {A B : Type 0} (f : A → B) (xs : List A) (i : ℕ) (y : B) → port_get (map f xs) i ≡ Some y → (p : Place xs) × (i ≡ suc (before xs p)) × (f (item xs p) ≡ y)
port_place f [] i y e = absurd (none_some None y refl e)
port_place f (x ∷ xs) zero y e = absurd (none_some None y refl e)
port_place f (x ∷ xs) (suc zero) y e = (first, refl, same_Some (f x) y e)
port_place f (x ∷ xs) (suc (suc i)) y e = let (p, k, g) = port_place f xs (suc i) y e in (later p, ap suc k, g)

pub port_map : {A B : Type 0} (f : A → B) (xs : List A) (i : ℕ) (x : A) → port_get xs i ≡ Some x → port_get (map f xs) i ≡ Some (f x)
port_map f [] i x e = absurd (none_some None x refl e)
port_map f (y ∷ xs) zero x e = absurd (none_some None x refl e)
port_map f (y ∷ xs) (suc zero) x e = ap (λ z. Some (f z)) (same_Some y x e)
port_map f (y ∷ xs) (suc (suc i)) x e = port_map f xs (suc i) x e

pub unport_map : {A B : Type 0} (f : A → B) (xs : List A) (i : ℕ) (y : B) → port_get (map f xs) i ≡ Some y → (x : A) × (port_get xs i ≡ Some x) × (f x ≡ y)
unport_map f [] i y e = absurd (none_some None y refl e)
unport_map f (x ∷ xs) zero y e = absurd (none_some None y refl e)
unport_map f (x ∷ xs) (suc zero) y e = (x, refl, same_Some (f x) y e)
unport_map f (x ∷ xs) (suc (suc i)) y e = unport_map f xs (suc i) y e

-- port i of two lists of the same lengths
pub port_both : {A B : Type 0} (f : A → Option B) (xs : List A) (ys : List B) → map f xs ≡ map Some ys → (i : ℕ) (x : A) → port_get xs i ≡ Some x → (y : B) × (port_get ys i ≡ Some y) × (f x ≡ Some y)
port_both f xs ys e i x g =
    let (y, h, k) = unport_map Some ys i (f x) (ap (λ z. port_get z i) (sym e) ∙ port_map f xs i x g) in (y, h, sym k)

pub somes_inj : {A : Type 0} (xs ys : List A) → map Some xs ≡ map Some ys → xs ≡ ys
somes_inj [] [] e = refl
somes_inj [] (y ∷ ys) e = cc
somes_inj (x ∷ xs) [] e = cc
somes_inj (x ∷ xs) (y ∷ ys) e =
    let k : Some x ∷ map Some xs ≡ Some y ∷ map Some ys = e in
    let head : Some x ≡ Some y = cc in
    let tails : map Some xs ≡ map Some ys = cc in
    λ i. same_Some x y head i ∷ somes_inj xs ys tails i

-- the nodes by their numbers: first those at the places of a list, and then others
abbrev pub nth_from : {A N : Type 0} (xs : List A) → (Place xs → N) → (ℕ → Option N) → ℕ → Option N
nth_from [] f g i = g i
nth_from (x ∷ xs) f g zero = Some (f first)
nth_from (x ∷ xs) f g (suc i) = nth_from xs (λ p. f (later p)) g i

pub nth_place : {A N : Type 0} (xs : List A) (f : Place xs → N) (g : ℕ → Option N) (p : Place xs) → nth_from xs f g (before xs p) ≡ Some (f p)
nth_place [] f g p = elim p [ ]
nth_place (x ∷ xs) f g first = refl
nth_place (x ∷ xs) f g (later p) = nth_place xs (λ q. f (later q)) g p

pub nth_behind : {A N : Type 0} (xs : List A) (f : Place xs → N) (g : ℕ → Option N) (k j : ℕ) → j ≡ length xs + k → nth_from xs f g j ≡ g k
nth_behind [] f g k j e = ap g (omega (arith, e))
nth_behind (x ∷ xs) f g k zero e = absurd (omega (arith, e))
nth_behind (x ∷ xs) f g k (suc j) e = nth_behind xs (λ q. f (later q)) g k j (omega (arith, e))
