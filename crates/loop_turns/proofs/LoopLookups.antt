-- Looking up names, lanes and new nodes.
use Rattle.std.proofs.Common.{◌≡◌, ◌≢◌, ◌⊎◌, inl, inr, ℕ, zero, suc, ◌+◌, ◌<◌, ◌≤◌, refl, sym, ap, ◌∙◌, true, false, if◌then◌else◌, List, [], ◌∷◌, ◌++◌, map, length, Option, Some, None, arith}
use Rattle.components.specs.Name.{Name, port_get}
use Rattle.circuits.specs.Replacing.{In, In.head, In.tail}
use Rattle.circuits.proofs.Names.{name_cases}
use Rattle.components.specs.Orders.{other_bytes, same_bytes}
use Rattle.circuits.proofs.Beside.{none_some}
use Rattle.std.proofs.lemmas.Option.{same_Some}
use Rattle.loop_laws.specs.BodyOrder.{IsBefore, Ascending}
use Rattle.loop_laws.specs.Loop.{Lane}
use Rattle.loop_laws.proofs.OneLoop.{map_in}
use Rattle.loop_laws.proofs.Ascending.{not_itself, each_in}
use Rattle.loop_turns.specs.Rebuilt.{new_at, has_name}
use Rattle.loop_turns.specs.Lanes.{lane_place, next_place}
use Rattle.loop_turns.specs.Tagged.{TagNode, TagNode.new_sink, sinks_from}

pub in_either : {A : Type 0} (x : A) (xs ys : List A) → In x (xs ++ ys) → In x xs ⊎ In x ys
in_either x [] ys i = inr i
in_either x (y ∷ xs) ys (head e) = inl (head e)
in_either x (y ∷ xs) ys (tail i) = elim (in_either x xs ys i) [ inl j ↦ inl (tail j) | inr j ↦ inr j ]

-- a name in a list
pub has_true : (ns : List Name) (n : Name) → In n ns → has_name ns n ≡ true
has_true [] n i = elim i [ ]
has_true (k ∷ ks) n (head e) = ap (λ b. if b then true else has_name ks n) (same_bytes k n (sym e))
has_true (k ∷ ks) n (tail i) =
    elim (name_cases k n) [
      | inl is ↦ ap (λ b. if b then true else has_name ks n) is.test
      | inr ne ↦ ap (λ b. if b then true else has_name ks n) ne.test ∙ has_true ks n i
    ]

pub has_false : (ns : List Name) (n : Name) → (In n ns → ⊥) → has_name ns n ≡ false
has_false [] n out = refl
has_false (k ∷ ks) n out =
    ap (λ b. if b then true else has_name ks n) (other_bytes k n (λ e. out (head (sym e)))) ∙ has_false ks n (λ i. out (tail i))

-- the new node of a name
module _ {X : Type 0} (name : X → Name) where
  pub new_is : (xs : List X) (n : Name) (x : X) → new_at name xs n ≡ Some x → In x xs × (name x ≡ n)
  new_is [] n x e = absurd (none_some None x refl e)
  new_is (y ∷ ys) n x e =
      elim (name_cases (name y) n) [
        | inl is ↦
            let s : y ≡ x = same_Some y x (ap (λ b. if b then Some y else new_at name ys n) (sym is.test) ∙ e) in
            (head (sym s), ap name (sym s) ∙ is.is)
        | inr ne ↦
            let r = new_is ys n x (ap (λ b. if b then Some y else new_at name ys n) (sym ne.test) ∙ e) in
            (tail r.0, r.1)
      ]

  pub new_none : (xs : List X) (n : Name) → ((x : X) → In x xs → name x ≢ n) → new_at name xs n ≡ None
  new_none [] n out = refl
  new_none (y ∷ ys) n out =
      ap (λ b. if b then Some y else new_at name ys n) (other_bytes (name y) n (out y (head refl))) ∙ new_none ys n (λ x i. out x (tail i))

  pub new_found : (xs : List X) → ((x y : X) → In x xs → In y xs → name x ≡ name y → x ≡ y) → (x : X) → In x xs → new_at name xs (name x) ≡ Some x
  new_found [] apart x i = elim i [ ]
  new_found (y ∷ ys) apart x (head e) = ap (λ b. if b then Some y else new_at name ys (name x)) (same_bytes (name y) (name x) (ap name (sym e))) ∙ ap Some (sym e)
  new_found (y ∷ ys) apart x (tail i) =
      elim (name_cases (name y) (name x)) [
        | inl is ↦ ap (λ b. if b then Some y else new_at name ys (name x)) is.test ∙ ap Some (apart y x (head refl) (tail i) is.is)
        | inr ne ↦ ap (λ b. if b then Some y else new_at name ys (name x)) ne.test ∙ new_found ys (λ a b u v. apart a b (tail u) (tail v)) x i
      ]

-- lanes by their numbers
pub in_at : {A : Type 0} (xs : List A) (x : A) → In x xs → (j : ℕ) × (port_get xs (suc j) ≡ Some x)
in_at [] x i = elim i [ ]
in_at (y ∷ ys) x (head e) = (zero, ap Some (sym e))
in_at (y ∷ ys) x (tail i) = let (j, e) = in_at ys x i in (suc j, e)

pub at_in : {A : Type 0} (xs : List A) (j : ℕ) (x : A) → port_get xs j ≡ Some x → In x xs
at_in [] j x e = absurd (none_some None x refl e)
at_in (y ∷ ys) zero x e = absurd (none_some None x refl e)
at_in (y ∷ ys) (suc zero) x e = head (sym (same_Some y x e))
at_in (y ∷ ys) (suc (suc j)) x e = tail (at_in ys (suc j) x e)

pub at_positive : {A : Type 0} (xs : List A) (x : A) → port_get xs 0 ≡ Some x → ⊥
at_positive [] x e = none_some None x refl e
at_positive (y ∷ ys) x e = none_some None x refl e

pub at_map : {A B : Type 0} (f : A → B) (xs : List A) (j : ℕ) (x : A) → port_get xs j ≡ Some x → port_get (map f xs) j ≡ Some (f x)
at_map f [] j x e = absurd (none_some None x refl e)
at_map f (y ∷ ys) zero x e = absurd (none_some None x refl e)
at_map f (y ∷ ys) (suc zero) x e = ap Some (ap f (same_Some y x e))
at_map f (y ∷ ys) (suc (suc j)) x e = at_map f ys (suc j) x e

pub map_at : {A B : Type 0} (f : A → B) (xs : List A) (j : ℕ) (b : B) → port_get (map f xs) j ≡ Some b → (x : A) × (port_get xs j ≡ Some x) × (f x ≡ b)
map_at f [] j b e = absurd (none_some None b refl e)
map_at f (y ∷ ys) zero b e = absurd (none_some None b refl e)
map_at f (y ∷ ys) (suc zero) b e = (y, refl, same_Some (f y) b e)
map_at f (y ∷ ys) (suc (suc j)) b e = map_at f ys (suc j) b e

pub at_within : {A : Type 0} (xs : List A) (j : ℕ) (x : A) → port_get xs j ≡ Some x → j ≤ length xs
at_within [] j x e = absurd (none_some None x refl e)
at_within (y ∷ ys) zero x e = omega arith
at_within (y ∷ ys) (suc zero) x e = omega arith
at_within (y ∷ ys) (suc (suc j)) x e = omega (arith, at_within ys (suc j) x e)

pub at_beyond : {A : Type 0} (xs : List A) (j : ℕ) → port_get xs (suc j) ≡ None → length xs ≤ j
at_beyond [] j e = omega arith
at_beyond (y ∷ ys) zero e = absurd (none_some (Some y) y e refl)
at_beyond (y ∷ ys) (suc j) e = omega (arith, at_beyond ys j e)

-- lanes of different numbers differ
abbrev pub Unlike : (Lane → Name) → List Lane → Type 0
Unlike f xs = (i j : ℕ) (x y : Lane) → port_get xs i ≡ Some x → port_get xs j ≡ Some y → f x ≡ f y → i ≡ j

pub unlike_rest : (f : Lane → Name) (z : Lane) (xs : List Lane) → Unlike f (z ∷ xs) → Unlike f xs
unlike_rest f z xs u zero j x y e k s = absurd (at_positive xs x e)
unlike_rest f z xs u (suc i) zero x y e k s = absurd (at_positive xs y k)
unlike_rest f z xs u (suc i) (suc j) x y e k s = omega (arith, u (suc (suc i)) (suc (suc j)) x y e k s)

pub place_at : (f : Lane → Name) (xs : List Lane) → Unlike f xs → (j : ℕ) (x : Lane) → port_get xs j ≡ Some x → lane_place f xs (f x) ≡ Some j
place_at f [] u j x e = absurd (none_some None x refl e)
place_at f (y ∷ ys) u zero x e = absurd (none_some None x refl e)
place_at f (y ∷ ys) u (suc zero) x e = ap (λ b. if b then Some 1 else next_place (lane_place f ys (f x))) (same_bytes (f y) (f x) (ap f (same_Some y x e)))
place_at f (y ∷ ys) u (suc (suc j)) x e =
    let ne : f y ≢ f x = λ s. one_more j (u 1 (suc (suc j)) y x refl e s) in
    ap (λ b. if b then Some 1 else next_place (lane_place f ys (f x))) (other_bytes (f y) (f x) ne) ∙ ap next_place (place_at f ys (unlike_rest f y ys u) (suc j) x e)
  where
    one_more : (j : ℕ) → 1 ≡ suc (suc j) → ⊥
    one_more j e = omega arith

pub place_none : (f : Lane → Name) (xs : List Lane) (n : Name) → ((x : Lane) → In x xs → f x ≢ n) → lane_place f xs n ≡ None
place_none f [] n out = refl
place_none f (x ∷ xs) n out =
    ap (λ b. if b then Some 1 else next_place (lane_place f xs n)) (other_bytes (f x) n (out x (head refl))) ∙ ap next_place (place_none f xs n (λ y i. out y (tail i)))

-- what a place says
place_next : (f : Lane → Name) (n : Name) (j : ℕ) (x : Lane) (xs : List Lane) → ((i : ℕ) → lane_place f xs n ≡ Some i → (y : Lane) × (port_get xs i ≡ Some y) × (f y ≡ n)) → (o : Option ℕ) → lane_place f xs n ≡ o → next_place o ≡ Some j → (y : Lane) × (port_get (x ∷ xs) j ≡ Some y) × (f y ≡ n)
place_next f n j x xs rest None h e = absurd (none_some None j refl e)
place_next f n j x xs rest (Some zero) h e = let (y, k, s) = rest zero h in absurd (at_positive xs y k)
place_next f n j x xs rest (Some (suc i)) h e =
    let (y, k, s) = rest (suc i) h in
    (y, ap (port_get (x ∷ xs)) (sym (same_Some (suc (suc i)) j e)) ∙ k, s)

pub place_is : (f : Lane → Name) (xs : List Lane) (n : Name) (j : ℕ) → lane_place f xs n ≡ Some j → (x : Lane) × (port_get xs j ≡ Some x) × (f x ≡ n)
place_is f [] n j e = absurd (none_some None j refl e)
place_is f (x ∷ xs) n j e =
    elim (name_cases (f x) n) [
      | inl is ↦
          let s : 1 ≡ j = same_Some 1 j (ap (λ b. if b then Some 1 else next_place (lane_place f xs n)) (sym is.test) ∙ e) in
          (x, ap (port_get (x ∷ xs)) (sym s), is.is)
      | inr ne ↦ place_next f n j x xs (λ i h. place_is f xs n i h) (lane_place f xs n) refl (ap (λ b. if b then Some 1 else next_place (lane_place f xs n)) (sym ne.test) ∙ e)
    ]

-- lanes by name
pub ascending_unlike : (xs : List Lane) → Ascending (map (λ (x : Lane). x.mux) xs) → Unlike (λ (x : Lane). x.mux) xs
ascending_unlike [] a i j x y e k s = absurd (none_some None x refl e)
ascending_unlike (z ∷ zs) a zero j x y e k s = absurd (none_some None x refl e)
ascending_unlike (z ∷ zs) a (suc i) zero x y e k s = absurd (none_some None y refl k)
ascending_unlike (z ∷ zs) a (suc zero) (suc zero) x y e k s = refl
ascending_unlike (z ∷ zs) a (suc zero) (suc (suc j)) x y e k s =
    absurd (not_itself z.mux (each_in (IsBefore z.mux) (map (λ (w : Lane). w.mux) zs) z.mux a.0 (map_in zs z.mux (y, at_in zs (suc j) y k, sym s ∙ ap (λ (w : Lane). w.mux) (sym (same_Some z x e))))))
ascending_unlike (z ∷ zs) a (suc (suc i)) (suc zero) x y e k s =
    absurd (not_itself z.mux (each_in (IsBefore z.mux) (map (λ (w : Lane). w.mux) zs) z.mux a.0 (map_in zs z.mux (x, at_in zs (suc i) x e, s ∙ ap (λ (w : Lane). w.mux) (sym (same_Some z y k))))))
ascending_unlike (z ∷ zs) a (suc (suc i)) (suc (suc j)) x y e k s = ap suc (ascending_unlike zs a.1 (suc i) (suc j) x y e k s)

-- the numbers of the sinks
data AtOrPast (i j : ℕ) : Type 0 where
  is_at : j ≡ i → AtOrPast i j
  is_past : suc i ≤ j → AtOrPast i j

at_or_past : (i j : ℕ) → i ≤ j → AtOrPast i j
at_or_past zero zero h = is_at refl
at_or_past zero (suc j) h = is_past (omega arith)
at_or_past (suc i) zero h = absurd (none_there i h)
  where
    none_there : (i : ℕ) → suc i ≤ 0 → ⊥
    none_there i h = omega arith
at_or_past (suc i) (suc j) h = elim (at_or_past i j (omega arith)) [ is_at e ↦ is_at (ap suc e) | is_past u ↦ is_past (omega arith) ]

pub sink_in : (i k j : ℕ) → i ≤ j → j < i + k → In (new_sink j) (sinks_from i k)
sink_in i zero j h u = absurd (none_there i j h u)
  where
    none_there : (i j : ℕ) → i ≤ j → j < i + 0 → ⊥
    none_there i j h u = omega arith
sink_in i (suc k) j h u =
    elim (at_or_past i j h) [
      | is_at e ↦ head (ap new_sink e)
      | is_past v ↦ tail (sink_in (suc i) k j v (omega arith))
    ]

pub in_sinks : (i k : ℕ) (x : TagNode) → In x (sinks_from i k) → (j : ℕ) × (x ≡ new_sink j) × (i ≤ j) × (j < i + k)
in_sinks i zero x m = elim m [ ]
in_sinks i (suc k) x (head e) = (i, e, omega arith, omega arith)
in_sinks i (suc k) x (tail m) = let (j, e, a, b) = in_sinks (suc i) k x m in (j, e, omega arith, omega arith)
