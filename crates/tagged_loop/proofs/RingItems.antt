-- Tuples with tags, and how often a tag stands among them and among slots.
use Rattle.std.proofs.Common.{◌≡◌, ◌≢◌, ℕ, ◌+◌, ◌≤◌, refl, sym, ap, ◌∙◌, true, false, Bool, nat_eq, eq-eqb, if◌then◌else◌, length, map, List, [], ◌∷◌, ◌++◌, Option, Some, None, arith, append-nil}
use Rattle.std.proofs.lemmas.Bool.{eqb-true}
use Rattle.std.specs.List.{AllByRecursion}
use Rattle.port_types.specs.Token.{Fits}
use Rattle.components.specs.Kind.{Shape}
use Rattle.circuits.specs.PortTokens.{Token, one}
use Rattle.circuits.specs.CircuitState.{Slot, HasNoTag}
use Rattle.circuits.specs.Firing.{FitEach}
use Rattle.tagged_loop.proofs.Turns.{all_but_last, last_number}

-- a tuple on the ring, with the tag of its slot
pub record Item : Type 0 where
  pub tag : ℕ
  pub now : Token

abbrev pub whole : Item → Token
whole i = i.tag ∷ i.now

abbrev pub tag_of : Item → Token
tag_of i = i.tag ∷ []

abbrev pub now_of : Item → Token
now_of i = i.now

abbrev pub hit : ℕ → ℕ → ℕ
hit t u = if nat_eq t u then 1 else 0

abbrev pub count : ℕ → List Item → ℕ
count t [] = 0
count t (i ∷ is) = hit t i.tag + count t is

abbrev pub tag_count : ℕ → List Slot → ℕ
tag_count t [] = 0
tag_count t (x ∷ xs) = hit t x.tag + tag_count t xs

abbrev pub open_one : ℕ → ℕ → Option Token → ℕ
open_one t u None = hit t u
open_one t u (Some v) = 0

-- how many slots with tag t have no result
abbrev pub open_count : ℕ → List Slot → ℕ
open_count t [] = 0
open_count t (x ∷ xs) = open_one t x.tag x.result + open_count t xs

abbrev one_if : Bool → ℕ
one_if b = if b then 1 else 0

pub hit_self : (t : ℕ) → hit t t ≡ 1
hit_self t = ap one_if (eq-eqb t t refl)

hit_other_at : (t u : ℕ) (b : Bool) → nat_eq t u ≡ b → t ≢ u → one_if b ≡ 0
hit_other_at t u true e ne = absurd (ne (eqb-true t u e))
hit_other_at t u false e ne = refl

pub hit_other : (t u : ℕ) → t ≢ u → hit t u ≡ 0
hit_other t u ne = hit_other_at t u (nat_eq t u) refl ne

hit_le_at : (b : Bool) → one_if b ≤ 1
hit_le_at true = omega arith
hit_le_at false = omega arith

pub hit_le : (t u : ℕ) → hit t u ≤ 1
hit_le t u = hit_le_at (nat_eq t u)

pub count_append : (t : ℕ) (xs ys : List Item) → count t (xs ++ ys) ≡ count t xs + count t ys
count_append t [] ys = omega arith
count_append t (x ∷ xs) ys = omega (arith, count_append t xs ys)

pub tag_append : (t : ℕ) (xs ys : List Slot) → tag_count t (xs ++ ys) ≡ tag_count t xs + tag_count t ys
tag_append t [] ys = omega arith
tag_append t (x ∷ xs) ys = omega (arith, tag_append t xs ys)

pub open_append : (t : ℕ) (xs ys : List Slot) → open_count t (xs ++ ys) ≡ open_count t xs + open_count t ys
open_append t [] ys = omega arith
open_append t (x ∷ xs) ys = omega (arith, open_append t xs ys)

open_le_one : (t u : ℕ) (o : Option Token) → open_one t u o ≤ hit t u
open_le_one t u None = omega arith
open_le_one t u (Some v) = omega arith

pub open_le : (t : ℕ) (xs : List Slot) → open_count t xs ≤ tag_count t xs
open_le t [] = omega arith
open_le t (x ∷ xs) = omega (arith, open_le_one t x.tag x.result, open_le t xs)

pub no_tag_count : (t : ℕ) (xs : List Slot) → HasNoTag t xs → tag_count t xs ≡ 0
no_tag_count t [] h = refl
no_tag_count t (x ∷ xs) h =
    let e : hit t x.tag ≡ 0 = hit_other t x.tag (λ is. h.0 (sym is)) in
    let k : tag_count t xs ≡ 0 = no_tag_count t xs h.1 in
    omega (arith, e, k)

-- what stands among items of which none has tag t does not have it
pub each_other : (t : ℕ) (P : Item → Type 0) (xs : List Item) → count t xs ≡ 0 → AllByRecursion P xs → AllByRecursion (λ i. P i × (i.tag ≢ t)) xs
each_other t P [] e h = tt
each_other t P (x ∷ xs) e h =
    let z : count t xs ≡ 0 = omega (arith, e) in
    let o : hit t x.tag ≡ 0 = omega (arith, e) in (
      (h.0, λ is. let k : hit t t ≡ 0 = ap (hit t) (sym is) ∙ o in let s : hit t t ≡ 1 = hit_self t in absurd (omega (arith, k, s))),
      each_other t P xs z h.1,
    )

-- a list whose image begins with v
pub record Uncons {A : Type 0} (f : A → Token) (xs : List A) (v : Token) (r : List Token) : Type 0 where
  pub head : A
  pub tail : List A
  pub is : xs ≡ head ∷ tail
  pub value : f head ≡ v
  pub rest : map f tail ≡ r

pub uncons : {A : Type 0} (f : A → Token) (xs : List A) (v : Token) (r : List Token) → map f xs ≡ v ∷ r → Uncons f xs v r
uncons f [] v r e = absurd (let k : [] ≡ v ∷ r = e in let z : ⊥ = cc in z)
uncons f (x ∷ xs) v r e =
    let k : f x ∷ map f xs ≡ v ∷ r = e in record { head = x; tail = xs; is = refl; value = cc; rest = cc }

pub map_more : {A : Type 0} (f : A → Token) (xs : List A) (i : A) → map f xs ++ one (f i) ≡ map f (xs ++ i ∷ [])
map_more f [] i = refl
map_more f (x ∷ xs) i = ap (λ z. f x ∷ z) (map_more f xs i)

-- a wire that no step touches, and one to which a token comes
pub keep : (x y z : List Token) → x ≡ z → y ≡ z ++ [] → y ≡ x
keep x y z e g = g ∙ append-nil z ∙ sym e

pub pushed : {A : Type 0} (f : A → Token) (xs : List A) (i : A) (x y z w : List Token) → x ≡ z → y ≡ z ++ w → w ≡ one (f i) → x ≡ map f xs → y ≡ map f (xs ++ i ∷ [])
pushed f xs i x y z w e g ew ex = g ∙ (λ j. (sym e ∙ ex) j ++ ew j) ∙ map_more f xs i

-- two tokens of two shapes
pub record Two (b c : Shape) (vs : List Token) : Type 0 where
  pub left : Token
  pub right : Token
  pub is : vs ≡ left ∷ right ∷ []
  pub left_fits : Fits b left
  pub right_fits : Fits c right

pub two_of : (b c : Shape) (vs : List Token) → FitEach (b ∷ c ∷ []) vs → Two b c vs
two_of b c [] h = absurd h
two_of b c (x ∷ []) h = absurd h.1
two_of b c (x ∷ y ∷ []) h = record { left = x; right = y; is = refl; left_fits = h.0; right_fits = h.1.0 }
two_of b c (x ∷ y ∷ z ∷ zs) h = absurd h.1.1

pub two_long : (vs : List Token) → length vs ≡ 2 → (x y : Token) × (vs ≡ x ∷ y ∷ [])
two_long [] e = absurd (omega (arith, e))
two_long (x ∷ []) e = absurd (omega (arith, e))
two_long (x ∷ y ∷ []) e = (x, y, refl)
two_long (x ∷ y ∷ z ∷ zs) e = absurd (omega (arith, e))

pub one_of : (w : ℕ) (v : Token) → Fits (w ∷ []) v → (x : ℕ) × (v ≡ x ∷ [])
one_of w [] h = absurd h
one_of w (x ∷ []) h = (x, refl)
one_of w (x ∷ y ∷ ys) h = absurd h.1

pub next_more : (y : Token) (c : ℕ) → all_but_last (y ++ c ∷ []) ≡ y
next_more [] c = refl
next_more (x ∷ []) c = refl
next_more (x ∷ z ∷ y) c = ap (λ r. x ∷ r) (next_more (z ∷ y) c)

pub bit_more : (y : Token) (c : ℕ) → last_number (y ++ c ∷ []) ≡ c
bit_more [] c = refl
bit_more (x ∷ []) c = refl
bit_more (x ∷ z ∷ y) c = bit_more (z ∷ y) c
