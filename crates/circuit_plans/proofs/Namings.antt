-- Different names name the nodes of a plan.
use Rattle.std.proofs.Common.{◌≡◌, ◌≢◌, inl, inr, sym, ap, subst, ◌∙◌, bytes_eq, if◌then◌else◌, map, List, [], ◌∷◌, Option, Some, None}
use Rattle.std.specs.List.{AllByRecursion}
use Rattle.std.proofs.lemmas.Option.{none-some, same_Some}
use Rattle.components.specs.Name.{Name}
use Rattle.circuits.specs.Replacing.{In, head, tail, NoneTwice}
use Rattle.circuits.proofs.Names.{name_cases}
use Rattle.circuit_plans.specs.Plans.{Naming}

pub each_in : {A : Type 0} (P : A → Type 0) (xs : List A) (x : A) → AllByRecursion P xs → In x xs → P x
each_in P [] x h i = elim i [ ]
each_in P (y ∷ ys) x h (head e) = subst P (sym e) h.0
each_in P (y ∷ ys) x h (tail i) = each_in P ys x h.1 i

pub mapped_in : {A B : Type 0} (f : A → B) (n : A) (ns : List A) → In n ns → In (f n) (map f ns)
mapped_in f n [] h = elim h [ ]
mapped_in f n (k ∷ ks) (head e) = head (ap f e)
mapped_in f n (k ∷ ks) (tail h) = tail (mapped_in f n ks h)

-- where no name stands twice, a name is of one node alone
pub one_node : {N : Type 0} (name : N → Name) (ns : List N) → NoneTwice (map name ns) → (a b : N) → In a ns → In b ns → name a ≡ name b → a ≡ b
one_node name [] h a b i j e = elim i [ ]
one_node name (k ∷ ks) h a b (head f) (head g) e = f ∙ sym g
one_node name (k ∷ ks) h a b (head f) (tail j) e = absurd (each_in (λ m. name k ≢ m) (map name ks) (name b) h.0 (mapped_in name b ks j) (ap name (sym f) ∙ e))
one_node name (k ∷ ks) h a b (tail i) (head g) e = absurd (each_in (λ m. name k ≢ m) (map name ks) (name a) h.0 (mapped_in name a ks i) (ap name (sym g) ∙ sym e))
one_node name (k ∷ ks) h a b (tail i) (tail j) e = one_node name ks h.1 a b i j e

module _ {N : Type 0} (name : N → Name) where
  -- the first of these nodes that has a name
  abbrev pub which_of : List N → Name → Option N
  which_of [] m = None
  which_of (k ∷ ks) m = if bytes_eq (name k) m then Some k else which_of ks m

  further : (k n : N) (ks : List N) → In n (k ∷ ks) → name k ≢ name n → In n ks
  further k n ks (head e) ne = absurd (ne (ap name (sym e)))
  further k n ks (tail i) ne = i

  pub which_known : ((a b : N) → name a ≡ name b → a ≡ b) → (ks : List N) (n : N) → In n ks → which_of ks (name n) ≡ Some n
  which_known differ [] n i = elim i [ ]
  which_known differ (k ∷ ks) n i =
      elim (name_cases (name k) (name n)) [
        | inl is ↦ ap (λ b. if b then Some k else which_of ks (name n)) is.test ∙ ap Some (differ k n is.is)
        | inr ne ↦ ap (λ b. if b then Some k else which_of ks (name n)) ne.test ∙ which_known differ ks n (further k n ks i ne.is_not)
      ]

  pub which_named : (ks : List N) (m : Name) (n : N) → which_of ks m ≡ Some n → m ≡ name n
  which_named [] m n h = absurd (none-some n h)
  which_named (k ∷ ks) m n h =
      elim (name_cases (name k) m) [
        | inl is ↦ sym is.is ∙ ap name (same_Some k n (ap (λ b. if b then Some k else which_of ks m) (sym is.test) ∙ h))
        | inr ne ↦ which_named ks m n (ap (λ b. if b then Some k else which_of ks m) (sym ne.test) ∙ h)
      ]

  -- the nodes of this list, which are all that there are, by their names
  abbrev pub naming : (all : List N) → ((n : N) → In n all) → NoneTwice (map name all) → Naming N
  naming all has once =
      record {
        name = name;
        which = which_of all;
        known = λ n. which_known (λ a b e. one_node name all once a b (has a) (has b) e) all n (has n);
        named = which_named all;
      }
