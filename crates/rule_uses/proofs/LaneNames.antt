-- The names of the nodes of lanes, in order, and the number of each.
use Rattle.std.proofs.Common.{◌≡◌, ◌≢◌, ℕ, zero, suc, refl, sym, ap, subst, ◌∙◌, true, false, if◌then◌else◌, List, [], ◌∷◌, map, Option, Some, None}
use Rattle.components.specs.Name.{Name, port_get}
use Rattle.components.specs.Orders.{same_bytes, other_bytes}
use Rattle.circuits.specs.Replacing.{In, head, tail}
use Rattle.circuit_plans.specs.Places.{Place, first, later, later_of, number, places, each_of, place_at, same_place, same_place_is, same_place_self}
use Rattle.loop_turns.specs.Lanes.{next_place}
use Rattle.loop_turns.specs.GatherChain.{name_place}

one_after : {A B C : Type 0} (f : A → B) (g : B → C) (xs : List A) → map g (map f xs) ≡ map (λ x. g (f x)) xs
one_after f g [] = refl
one_after f g (x ∷ xs) = ap (λ z. g (f x) ∷ z) (one_after f g xs)

each_more : {A N : Type 0} (x : A) (xs : List A) (f : Place (x ∷ xs) → N) → each_of (x ∷ xs) f ≡ f first ∷ each_of xs (λ l. f (later l))
each_more x xs f = ap (λ z. f first ∷ z) (one_after later f (places xs))

-- what stands there is of a place
pub each_member : {A N : Type 0} (xs : List A) (f : Place xs → N) (n : N) → In n (each_of xs f) → (l : Place xs) × (n ≡ f l)
each_member [] f n i = elim i [ ]
each_member {N = N} (x ∷ xs) f n i = at (subst (In n) (each_more x xs f) i) (each_member xs (λ l. f (later l)) n)
  where
    at : In n (f first ∷ each_of xs (λ l. f (later l))) → (In n (each_of xs (λ l. f (later l))) → (l : Place xs) × (n ≡ f (later l))) → (l : Place (x ∷ xs)) × (n ≡ f l)
    at (head e) rest = (first, e)
    at (tail j) rest = let (l, e) = rest j in (later l, e)

-- what stands at the number of a place, and at no other
pub each_number : {A N : Type 0} (xs : List A) (f : Place xs → N) (l : Place xs) → port_get (each_of xs f) (number xs l) ≡ Some (f l)
each_number [] f l = elim l [ ]
each_number (x ∷ xs) f first = refl
each_number (x ∷ xs) f (later l) = ap (λ z. port_get z (suc (number xs l))) (each_more x xs f) ∙ each_number xs (λ k. f (later k)) l

pub each_none : {A N : Type 0} (xs : List A) (f : Place xs → N) (i : ℕ) → place_at xs i ≡ None → port_get (each_of xs f) i ≡ None
each_none [] f i e = refl
each_none (x ∷ xs) f zero e = refl
each_none (x ∷ xs) f (suc zero) e = cc
each_none (x ∷ xs) f (suc (suc i)) e = ap (λ z. port_get z (suc (suc i))) (each_more x xs f) ∙ each_none xs (λ l. f (later l)) (suc i) (none_later (place_at xs (suc i)) e)
  where
    none_later : (o : Option (Place xs)) → later_of {x = x} o ≡ None → o ≡ None
    none_later None e = refl
    none_later (Some l) e = cc

-- the number of a name
pub place_found : {A : Type 0} (xs : List A) (f : Place xs → Name) → ((a b : Place xs) → f a ≡ f b → a ≡ b) → (l : Place xs) → name_place (each_of xs f) (f l) ≡ Some (number xs l)
place_found [] f alone l = elim l [ ]
place_found (x ∷ xs) f alone first =
    ap (λ z. name_place z (f first)) (each_more x xs f)
    ∙ ap (λ b. if b then Some 1 else next_place (name_place (each_of xs (λ l. f (later l))) (f first))) (same_bytes (f first) (f first) refl)
place_found (x ∷ xs) f alone (later l) =
    ap (λ z. name_place z (f (later l))) (each_more x xs f)
    ∙ ap (λ b. if b then Some 1 else next_place (name_place (each_of xs (λ k. f (later k))) (f (later l)))) (other_bytes (f first) (f (later l)) (λ e. let no : true ≡ false = ap (same_place (x ∷ xs) first) (alone first (later l) e) in cc))
    ∙ ap next_place (place_found xs (λ k. f (later k)) (λ a b e. later_is (alone (later a) (later b) e)) l)
  where
    later_is : {a b : Place xs} → later {x = x} a ≡ later b → a ≡ b
    later_is {a = a} {b = b} e = same_place_is xs a b (sym (ap (same_place (x ∷ xs) (later a)) e) ∙ same_place_self xs a)

pub place_none : {A : Type 0} (xs : List A) (f : Place xs → Name) (n : Name) → ((l : Place xs) → f l ≢ n) → name_place (each_of xs f) n ≡ None
place_none [] f n away = refl
place_none (x ∷ xs) f n away =
    ap (λ z. name_place z n) (each_more x xs f)
    ∙ ap (λ b. if b then Some 1 else next_place (name_place (each_of xs (λ k. f (later k))) n)) (other_bytes (f first) n (away first))
    ∙ ap next_place (place_none xs (λ k. f (later k)) n (λ l. away (later l)))
