-- Places in lists.
use Rattle.std.proofs.Common.{◌≡◌, ◌≢◌, ◌⊎◌, inl, inr, ℕ, zero, suc, ◌+◌, ◌<◌, refl, sym, ap, subst, List, [], ◌∷◌, ◌++◌, map, length, set, get_or, replicate, Some, arith}
use Rattle.std.specs.Prelude.{slice_get}
use Rattle.std.proofs.lemmas.Option.{same_Some, none-some}

module _ {A : Type 0} where
  pub got_below : (xs : List A) (k : ℕ) (x : A) → slice_get xs k ≡ Some x → k < length xs
  got_below [] k x e = absurd (none-some x e)
  got_below (y ∷ xs) zero x e = omega arith
  got_below (y ∷ xs) (suc k) x e = let less = got_below xs k x e in omega (arith, less)

  pub got_before : (xs ys : List A) (k : ℕ) (x : A) → slice_get xs k ≡ Some x → slice_get (xs ++ ys) k ≡ Some x
  got_before [] ys k x e = absurd (none-some x e)
  got_before (z ∷ xs) ys zero x e = e
  got_before (z ∷ xs) ys (suc k) x e = got_before xs ys k x e

  pub got_first : (xs : List A) (y : A) (ys : List A) → slice_get (xs ++ y ∷ ys) (length xs) ≡ Some y
  got_first [] y ys = refl
  got_first (z ∷ xs) y ys = got_first xs y ys

  pub got_last : (xs : List A) (y x : A) (k : ℕ) → slice_get (xs ++ y ∷ []) k ≡ Some x → (slice_get xs k ≡ Some x) ⊎ ((k ≡ length xs) × (x ≡ y))
  got_last [] y x zero e = inr (refl, same_Some x y (sym e))
  got_last [] y x (suc k) e = absurd (none-some x e)
  got_last (z ∷ xs) y x zero e = inl e
  got_last (z ∷ xs) y x (suc k) e = elim (got_last xs y x k e) [ inl h ↦ inl h | inr h ↦ inr (ap suc h.0, h.1) ]

  pub got_behind : (xs ys : List A) (k : ℕ) (x : A) → slice_get ys k ≡ Some x → slice_get (xs ++ ys) (length xs + k) ≡ Some x
  got_behind [] ys k x e = subst (λ n. slice_get ys n ≡ Some x) (let z : k ≡ 0 + k = omega arith in z) e
  got_behind (z ∷ xs) ys k x e = subst (λ n. slice_get (z ∷ xs ++ ys) n ≡ Some x) (let n : suc (length xs + k) ≡ suc (length xs) + k = omega arith in n) (got_behind xs ys k x e)

  -- what stands in two lists one behind the other stands in the first, or in the second as far behind the first
  pub got_either : (xs ys : List A) (k : ℕ) (x : A) → slice_get (xs ++ ys) k ≡ Some x → (slice_get xs k ≡ Some x) ⊎ ((j : ℕ) × (k ≡ length xs + j) × (slice_get ys j ≡ Some x))
  got_either [] ys k x e = inr (k, omega arith, e)
  got_either (z ∷ xs) ys zero x e = inl e
  got_either (z ∷ xs) ys (suc k) x e = elim (got_either xs ys k x e) [ inl h ↦ inl h | inr h ↦ inr (h.0, (let at = h.1 in omega (arith, at)), h.2) ]

  pub stands_one : (xs : List A) (k : ℕ) → k < length xs → (x : A) × (slice_get xs k ≡ Some x)
  stands_one [] k less = absurd (omega arith)
  stands_one (x ∷ xs) zero less = (x, refl)
  stands_one (x ∷ xs) (suc k) less = stands_one xs k (omega arith)

  pub got_or : (xs : List A) (k : ℕ) (d : A) → k < length xs → slice_get xs k ≡ Some (get_or xs k d)
  got_or [] k d less = absurd (omega arith)
  got_or (x ∷ xs) zero d less = refl
  got_or (x ∷ xs) (suc k) d less = got_or xs k d (omega arith)

  pub set_here : (xs : List A) (i : ℕ) (v : A) → i < length xs → slice_get (set xs i v) i ≡ Some v
  set_here [] i v less = absurd (omega arith)
  set_here (x ∷ xs) zero v less = refl
  set_here (x ∷ xs) (suc i) v less = set_here xs i v (omega arith)

  pub set_elsewhere : (xs : List A) (i j : ℕ) (v : A) → j ≢ i → slice_get (set xs i v) j ≡ slice_get xs j
  set_elsewhere [] i j v apart = refl
  set_elsewhere (x ∷ xs) zero zero v apart = absurd (apart refl)
  set_elsewhere (x ∷ xs) zero (suc j) v apart = refl
  set_elsewhere (x ∷ xs) (suc i) zero v apart = refl
  set_elsewhere (x ∷ xs) (suc i) (suc j) v apart = set_elsewhere xs i j v (λ e. apart (ap suc e))

  pub set_as_it_is : (xs : List A) (i : ℕ) (v : A) → slice_get xs i ≡ Some v → set xs i v ≡ xs
  set_as_it_is [] i v e = refl
  set_as_it_is (x ∷ xs) zero v e = ap (λ y. y ∷ xs) (sym (same_Some x v e))
  set_as_it_is (x ∷ xs) (suc i) v e = ap (λ ys. x ∷ ys) (set_as_it_is xs i v e)

  pub set_length : (xs : List A) (i : ℕ) (v : A) → length (set xs i v) ≡ length xs
  set_length [] i v = refl
  set_length (x ∷ xs) zero v = refl
  set_length (x ∷ xs) (suc i) v = ap suc (set_length xs i v)

  pub repeated : (n k : ℕ) (y x : A) → slice_get (replicate n y) k ≡ Some x → x ≡ y
  repeated zero k y x e = absurd (none-some x e)
  repeated (suc n) zero y x e = same_Some x y (sym e)
  repeated (suc n) (suc k) y x e = repeated n k y x e

  pub repeated_more : (n : ℕ) (y : A) → replicate n y ++ y ∷ [] ≡ y ∷ replicate n y
  repeated_more zero y = refl
  repeated_more (suc n) y = ap (λ ys. y ∷ ys) (repeated_more n y)

  pub length_repeated : (n : ℕ) (y : A) → length (replicate n y) ≡ n
  length_repeated zero y = refl
  length_repeated (suc n) y = ap suc (length_repeated n y)

  pub length_more : (xs : List A) (y : A) → length (xs ++ y ∷ []) ≡ length xs + 1
  length_more [] y = refl
  length_more (x ∷ xs) y = let more = length_more xs y in omega (arith, more)

module _ {A B : Type 0} (f : A → B) where
  pub mapped : (xs : List A) (k : ℕ) (t : B) → slice_get (map f xs) k ≡ Some t → (y : A) × (slice_get xs k ≡ Some y) × (t ≡ f y)
  mapped [] k t e = absurd (none-some t e)
  mapped (x ∷ xs) zero t e = (x, refl, same_Some t (f x) (sym e))
  mapped (x ∷ xs) (suc k) t e = mapped xs k t e

  pub mapped_at : (xs : List A) (k : ℕ) (y : A) → slice_get xs k ≡ Some y → slice_get (map f xs) k ≡ Some (f y)
  mapped_at [] k y e = absurd (none-some y e)
  mapped_at (x ∷ xs) zero y e = ap Some (ap f (same_Some x y e))
  mapped_at (x ∷ xs) (suc k) y e = mapped_at xs k y e

  pub length_mapped : (xs : List A) → length (map f xs) ≡ length xs
  length_mapped [] = refl
  length_mapped (x ∷ xs) = ap suc (length_mapped xs)

pub length_both : {A : Type 0} (xs ys : List A) → length (xs ++ ys) ≡ length xs + length ys
length_both [] ys = omega arith
length_both (x ∷ xs) ys = let both = length_both xs ys in omega (arith, both)
