-- places and their numbers
use Rattle.std.proofs.Common.{◌≡◌, ℕ, zero, suc, ◌+◌, ◌≤◌, refl, sym, ap, subst, true, false, Bool, if◌then◌else◌, length, map, replicate, List, [], ◌∷◌, ◌++◌, Option, Some, None, arith}
use Rattle.std.specs.List.{AllByRecursion}
use Rattle.circuits.specs.PortTokens.{Token, at_port, one}
use Rattle.components.specs.Name.{port_get}
use Rattle.circuits.specs.Replacing.{In, head, tail}
use Rattle.circuit_plans.proofs.PlanTyped.{ForSome}
pub use Rattle.circuit_plans.specs.Places.{Place, first, later, item, before, number, later_of, place_at, same_place, same_place_is, same_place_self, places}

pub place_number : {A : Type 0} (xs : List A) (l : Place xs) → place_at xs (number xs l) ≡ Some l
place_number [] l = elim l [ ]
place_number (x ∷ xs) first = refl
place_number (x ∷ xs) (later l) = ap later_of (place_number xs l)

pub number_item : {A : Type 0} (xs : List A) (l : Place xs) → port_get xs (number xs l) ≡ Some (item xs l)
number_item [] l = elim l [ ]
number_item (x ∷ xs) first = refl
number_item (x ∷ xs) (later l) = number_item xs l

-- a port is a place's, or there is none
pub data PortOf {A : Type 0} (xs : List A) (i : ℕ) : Type 0 where
  at : (l : Place xs) → i ≡ number xs l → PortOf xs i
  no_port : place_at xs i ≡ None → port_get xs i ≡ None → PortOf xs i

port_later : {A : Type 0} (x : A) (xs : List A) (i : ℕ) → PortOf xs (suc i) → PortOf (x ∷ xs) (suc (suc i))
port_later x xs i (at l e) = at (later l) (ap suc e)
port_later x xs i (no_port e f) = no_port (ap later_of e) f

pub port_of : {A : Type 0} (xs : List A) (i : ℕ) → PortOf xs i
port_of [] i = no_port refl refl
port_of (x ∷ xs) zero = no_port refl refl
port_of (x ∷ xs) (suc zero) = at first refl
port_of (x ∷ xs) (suc (suc i)) = port_later x xs i (port_of xs (suc i))

-- the ports of a Fork: one for each place, and one more
abbrev pub fork_at : {A R : Type 0} (xs : List A) → (Place xs → Option R) → Option R → ℕ → Option R
fork_at [] f e (suc zero) = e
fork_at [] f e _ = None
fork_at (x ∷ xs) f e zero = None
fork_at (x ∷ xs) f e (suc zero) = f first
fork_at (x ∷ xs) f e (suc (suc i)) = fork_at xs (λ l. f (later l)) e (suc i)

pub fork_number : {A R : Type 0} (xs : List A) (f : Place xs → Option R) (e : Option R) (l : Place xs) → fork_at xs f e (number xs l) ≡ f l
fork_number [] f e l = elim l [ ]
fork_number (x ∷ xs) f e first = refl
fork_number (x ∷ xs) f e (later l) = fork_number xs (λ k. f (later k)) e l

pub fork_last : {A R : Type 0} (xs : List A) (f : Place xs → Option R) (e : Option R) → fork_at xs f e (suc (length xs)) ≡ e
fork_last [] f e = refl
fork_last (x ∷ xs) f e = fork_last xs (λ k. f (later k)) e

pub data ForkPort {A R B : Type 0} (xs : List A) (f : Place xs → Option R) (e : Option R) (b : B) (i : ℕ) : Type 0 where
  lane : (l : Place xs) → i ≡ number xs l → ForkPort xs f e b i
  last : i ≡ suc (length xs) → ForkPort xs f e b i
  none : fork_at xs f e i ≡ None → port_get (replicate (suc (length xs)) b) i ≡ None → ForkPort xs f e b i

fork_later : {A R B : Type 0} (x : A) (xs : List A) (f : Place (x ∷ xs) → Option R) (e : Option R) (b : B) (i : ℕ) → ForkPort xs (λ l. f (later l)) e b (suc i) → ForkPort (x ∷ xs) f e b (suc (suc i))
fork_later x xs f e b i (lane l is) = lane (later l) (ap suc is)
fork_later x xs f e b i (last is) = last (ap suc is)
fork_later x xs f e b i (none h k) = none h k

pub fork_port : {A R B : Type 0} (xs : List A) (f : Place xs → Option R) (e : Option R) (b : B) (i : ℕ) → ForkPort xs f e b i
fork_port [] f e b zero = none refl refl
fork_port [] f e b (suc zero) = last refl
fork_port [] f e b (suc (suc i)) = none refl refl
fork_port (x ∷ xs) f e b zero = none refl refl
fork_port (x ∷ xs) f e b (suc zero) = lane first refl
fork_port (x ∷ xs) f e b (suc (suc i)) = fork_later x xs f e b i (fork_port xs (λ l. f (later l)) e b (suc i))

-- what a Fork with an output for each place and one more has at its ports
pub copies_number : {A B : Type 0} (xs : List A) (b : B) (l : Place xs) → port_get (replicate (suc (length xs)) b) (number xs l) ≡ Some b
copies_number [] b l = elim l [ ]
copies_number (x ∷ xs) b first = refl
copies_number (x ∷ xs) b (later l) = copies_number xs b l

pub copies_last : {A B : Type 0} (xs : List A) (b : B) → port_get (replicate (suc (length xs)) b) (suc (length xs)) ≡ Some b
copies_last [] b = refl
copies_last (x ∷ xs) b = copies_last xs b

pub given_number : {A : Type 0} (xs : List A) (v : Token) (l : Place xs) → at_port (replicate (suc (length xs)) (one v)) (number xs l) ≡ one v
given_number [] v l = elim l [ ]
given_number (x ∷ xs) v first = refl
given_number (x ∷ xs) v (later l) = given_number xs v l

pub given_last : {A : Type 0} (xs : List A) (v : Token) → at_port (replicate (suc (length xs)) (one v)) (suc (length xs)) ≡ one v
given_last [] v = refl
given_last (x ∷ xs) v = given_last xs v

-- each place is reached, one after another
abbrev pub first_and : {A : Type 0} {x : A} {xs : List A} → (Place xs → Bool) → Place (x ∷ xs) → Bool
first_and d first = true
first_and d (later l) = d l

abbrev pub with_place : {A : Type 0} (xs : List A) → Place xs → (Place xs → Bool) → Place xs → Bool
with_place xs k d l = if same_place xs l k then true else d l

only_first : {A : Type 0} (x : A) (xs : List A) (l : Place (x ∷ xs)) → with_place (x ∷ xs) first (λ k. false) l ≡ first_and (λ k. false) l
only_first x xs first = refl
only_first x xs (later l) = refl

one_more : {A : Type 0} (x : A) (xs : List A) (k : Place xs) (d : Place xs → Bool) (l : Place (x ∷ xs)) → with_place (x ∷ xs) (later k) (first_and d) l ≡ first_and (with_place xs k d) l
one_more x xs k d first = refl
one_more x xs k d (later l) = refl

all_true : {A : Type 0} (x : A) (xs : List A) (l : Place (x ∷ xs)) → first_and (λ k. true) l ≡ true
all_true x xs first = refl
all_true x xs (later l) = refl

no_place : (A : Type 0) (l : Place {A = A} []) → false ≡ true
no_place A l = elim l [ ]

pub each_place : {A : Type 0} (xs : List A) (P : (Place xs → Bool) → Type 0) → P (λ l. false) → ((d : Place xs → Bool) (k : Place xs) → d k ≡ false → P d → P (with_place xs k d)) → P (λ l. true)
each_place {A = A} [] P p step = subst P (λ i l. no_place A l i) p
each_place (x ∷ xs) P p step =
    subst P (λ i l. all_true x xs l i)
    (each_place xs (λ d. P (first_and d)) (subst P (λ i l. only_first x xs l i) (step (λ l. false) first refl p))
    (λ d k e q. subst P (λ i l. one_more x xs k d l i) (step (first_and d) (later k) e q)))

-- the numbers of a list together
abbrev pub total : {A : Type 0} (xs : List A) → (Place xs → ℕ) → ℕ
total [] f = 0
total (x ∷ xs) f = f first + total xs (λ l. f (later l))

pub in_total : {A : Type 0} (xs : List A) (f : Place xs → ℕ) (l : Place xs) → f l ≤ total xs f
in_total [] f l = elim l [ ]
in_total (x ∷ xs) f first = omega arith
in_total (x ∷ xs) f (later l) = let h : f (later l) ≤ total xs (λ k. f (later k)) = in_total xs (λ k. f (later k)) l in omega arith

-- what holds for the value of an option that is known
pub for_is : {A : Type 0} (o : Option A) (P : A → Type 0) (x : A) → o ≡ Some x → P x → ForSome o P
for_is o P x e h = subst (λ z. ForSome z P) (sym e) h

pub for_none : {A : Type 0} (o : Option A) (P : A → Type 0) → o ≡ None → ForSome o P
for_none o P e = subst (λ z. ForSome z P) (sym e) tt

-- what stands in a list
pub in_front : {A : Type 0} (xs ys : List A) (n : A) → In n xs → In n (xs ++ ys)
in_front [] ys n h = elim h [ ]
in_front (x ∷ xs) ys n (head e) = head e
in_front (x ∷ xs) ys n (tail h) = tail (in_front xs ys n h)

pub in_back : {A : Type 0} (xs ys : List A) (n : A) → In n ys → In n (xs ++ ys)
in_back [] ys n h = h
in_back (x ∷ xs) ys n h = tail (in_back xs ys n h)

map_map : {A B C : Type 0} (f : A → B) (g : B → C) (xs : List A) → map g (map f xs) ≡ map (λ x. g (f x)) xs
map_map f g [] = refl
map_map f g (x ∷ xs) = ap (λ z. g (f x) ∷ z) (map_map f g xs)

pub in_places : {A N : Type 0} (xs : List A) (node : Place xs → N) (l : Place xs) → In (node l) (map node (places xs))
in_places [] node l = elim l [ ]
in_places (x ∷ xs) node first = head refl
in_places (x ∷ xs) node (later l) = tail (subst (In (node (later l))) (sym (map_map later node (places xs))) (in_places xs (λ k. node (later k)) l))

-- what holds of the node of each place
pub each_at : {A B : Type 0} {xs : List A} (P : B → Type 0) (f : Place xs → B) (ls : List (Place xs)) → ((l : Place xs) → P (f l)) → AllByRecursion P (map f ls)
each_at P f [] h = tt
each_at P f (l ∷ ls) h = (h l, each_at P f ls h)

pub each_both : {A : Type 0} (P : A → Type 0) (xs ys : List A) → AllByRecursion P xs → AllByRecursion P ys → AllByRecursion P (xs ++ ys)
each_both P [] ys h k = k
each_both P (x ∷ xs) ys h k = (h.0, each_both P xs ys h.1 k)
