-- Places in lists, and the places of the nodes of a set.
use Rattle.std.proofs.Common.{◌≡◌, ◌≢◌, ◌⊎◌, inl, inr, ℕ, zero, suc, ◌<◌, ◌≤◌, refl, sym, ap, subst, ◌∙◌, List, [], ◌∷◌, ◌++◌, length, replicate, set, Some, None, Result, Ok, Err, OnOk, OnErr, arith}
use Rattle.std.specs.Prelude.{slice_get}
use Rattle.std.proofs.lemmas.Option.{same_Some, none-some}
use Rattle.circuits.specs.Replacing.{In, In.head, In.tail}
use Rattle.port_types.specs.declared.memory.NoMemory.{NoMemory}
use Rattle.graph_core.specs.declared.place.NodeId.{NodeId}
use Rattle.graph_core.specs.Place.{id_of, index_of}
use Rattle.loop_find.specs.NodeSets.{HavePlaces}

module _ {A : Type 0} where
  pub in_at : (x : A) (xs : List A) → In x xs → (k : ℕ) × (slice_get xs k ≡ Some x)
  in_at x [] i = elim i [ ]
  in_at x (y ∷ xs) (head e) = (zero, ap Some (sym e))
  in_at x (y ∷ xs) (tail i) = let (k, at) = in_at x xs i in (suc k, at)

  pub at_in : (xs : List A) (k : ℕ) (x : A) → slice_get xs k ≡ Some x → In x xs
  at_in [] k x e = absurd (none-some x e)
  at_in (y ∷ xs) zero x e = head (same_Some x y (sym e))
  at_in (y ∷ xs) (suc k) x e = tail (at_in xs k x e)

  pub got_before : (xs ys : List A) (k : ℕ) (x : A) → slice_get xs k ≡ Some x → slice_get (xs ++ ys) k ≡ Some x
  got_before [] ys k x e = absurd (none-some x e)
  got_before (z ∷ xs) ys zero x e = e
  got_before (z ∷ xs) ys (suc k) x e = got_before xs ys k x e

  pub got_last : (xs : List A) (y x : A) (k : ℕ) → slice_get (xs ++ y ∷ []) k ≡ Some x → (slice_get xs k ≡ Some x) ⊎ ((k ≡ length xs) × (x ≡ y))
  got_last [] y x zero e = inr (refl, same_Some x y (sym e))
  got_last [] y x (suc k) e = absurd (none-some x e)
  got_last (z ∷ xs) y x zero e = inl e
  got_last (z ∷ xs) y x (suc k) e = elim (got_last xs y x k e) [ inl h ↦ inl h | inr h ↦ inr (ap suc h.0, h.1) ]

  pub stands_one : (xs : List A) (k : ℕ) → k < length xs → (x : A) × (slice_get xs k ≡ Some x)
  stands_one [] k less = absurd (omega arith)
  stands_one (x ∷ xs) zero less = (x, refl)
  stands_one (x ∷ xs) (suc k) less = stands_one xs k (omega arith)

  pub in_left : (x : A) (xs ys : List A) → In x xs → In x (xs ++ ys)
  in_left x [] ys i = elim i [ ]
  in_left x (y ∷ xs) ys (head e) = head e
  in_left x (y ∷ xs) ys (tail i) = tail (in_left x xs ys i)

  pub in_right : (x : A) (xs ys : List A) → In x ys → In x (xs ++ ys)
  in_right x [] ys i = i
  in_right x (y ∷ xs) ys i = tail (in_right x xs ys i)

  pub in_either : (x : A) (xs ys : List A) → In x (xs ++ ys) → In x xs ⊎ In x ys
  in_either x [] ys i = inr i
  in_either x (y ∷ xs) ys (head e) = inl (head e)
  in_either x (y ∷ xs) ys (tail i) = elim (in_either x xs ys i) [ inl h ↦ inl (tail h) | inr h ↦ inr h ]

  pub set_here : (xs : List A) (i : ℕ) (v : A) → i < length xs → slice_get (set xs i v) i ≡ Some v
  set_here [] i v less = absurd (omega arith)
  set_here (x ∷ xs) zero v less = refl
  set_here (x ∷ xs) (suc i) v less = set_here xs i v (omega arith)

  pub set_elsewhere : (xs : List A) (i j : ℕ) (v : A) → j ≢ i → slice_get (set xs i v) j ≡ slice_get xs j
  set_elsewhere [] i j v apart = refl
  set_elsewhere (x ∷ xs) zero zero v apart = absurd (apart refl)
  set_elsewhere (x ∷ xs) zero (suc j) v apart = refl
  set_elsewhere (x ∷ xs) (suc i) zero v apart = refl
  set_elsewhere (x ∷ xs) (suc i) (suc j) v apart = set_elsewhere xs i j v (λ e. apart (ap suc e))

-- a list that has each number below n has as many elements

taken_out : (x : ℕ) (ys : List ℕ) → In x ys → List ℕ
taken_out x [] i = []
taken_out x (y ∷ ys) (head e) = ys
taken_out x (y ∷ ys) (tail i) = y ∷ taken_out x ys i

stays_in : (x z : ℕ) (ys : List ℕ) (i : In x ys) → z ≢ x → In z ys → In z (taken_out x ys i)
unfolding taken_out
stays_in x z [] i ne j = elim i [ ]
stays_in x z (y ∷ ys) (head e) ne (head f) = absurd (ne (f ∙ sym e))
stays_in x z (y ∷ ys) (head e) ne (tail j) = j
stays_in x z (y ∷ ys) (tail i) ne (head f) = head f
stays_in x z (y ∷ ys) (tail i) ne (tail j) = tail (stays_in x z ys i ne j)

one_less : (x : ℕ) (ys : List ℕ) (i : In x ys) → length ys ≡ suc (length (taken_out x ys i))
unfolding taken_out
one_less x [] i = elim i [ ]
one_less x (y ∷ ys) (head e) = refl
one_less x (y ∷ ys) (tail i) = ap suc (one_less x ys i)

has_all_below : (n : ℕ) (ys : List ℕ) → ((k : ℕ) → k < n → In k ys) → n ≤ length ys
has_all_below zero ys all = omega arith
has_all_below (suc n) ys all =
    let i : In n ys = all n (omega arith) in
    let rest = has_all_below n (taken_out n ys i) (λ k less. stays_in n k ys i (λ e. absurd (omega arith)) (all k (omega arith))) in
    omega (arith, rest, one_less n ys i)

-- the sets

module _ (ids : List NodeId) (places : List ℕ) (have : HavePlaces ids places) where
  pub no_more : length ids ≤ length places
  no_more = has_all_below (length ids) places (λ k less. let (id, at) = stands_one ids k less in at_in places (index_of id) k (have k id at))

  -- a node of the set stands where its place says
  pub stands : (id : NodeId) (place : ℕ) → slice_get places (index_of id) ≡ Some place → In id ids → slice_get ids place ≡ Some id
  stands id place at i =
      let (k, here) = in_at id ids i in
      let same : k ≡ place = same_Some k place (sym (have k id here) ∙ at) in
      subst (λ n. slice_get ids n ≡ Some id) same here

  -- a node with no place is not in the set
  pub no_place : (id : NodeId) → slice_get places (index_of id) ≡ None → ¬ (In id ids)
  no_place id none i = let (k, here) = in_at id ids i in absurd (none-some k (sym none ∙ have k id here))

  module _ (id : NodeId) (new : ¬ (In id ids)) where
    other_index : (x : NodeId) (k : ℕ) → slice_get ids k ≡ Some x → index_of x ≢ index_of id
    other_index x k at same = new (at_in ids k id (at ∙ ap (λ n. Some (id_of n)) same))

    -- what stands under the index of a node that is not in the set means nothing
    pub still_have : (n : ℕ) → HavePlaces ids (set places (index_of id) n)
    still_have n k x at = set_elsewhere places (index_of id) (index_of x) n (other_index x k at) ∙ have k x at

    pub have_new : index_of id < length places → HavePlaces (ids ++ id ∷ []) (set places (index_of id) (length ids))
    have_new room k x at =
        elim (got_last ids id x k at) [
          | inl before ↦ still_have (length ids) k x before
          | inr last ↦
              subst (λ (y : NodeId). slice_get (set places (index_of id) (length ids)) (index_of y) ≡ Some k) (sym last.1)
              (set_here places (index_of id) (length ids) room ∙ ap Some (sym last.0))
        ]

    -- the same whether there was memory or not
    pub have_after : (r : Result (Unit {0}) NoMemory) (after : List NodeId) → OnOk r (after ≡ ids ++ id ∷ []) → OnErr r (after ≡ ids) → index_of id < length places →
        HavePlaces after (set places (index_of id) (length ids))
    have_after (Ok u) after ok err room = subst (λ xs. HavePlaces xs (set places (index_of id) (length ids))) (sym ok) (have_new room)
    have_after (Err e) after ok err room = subst (λ xs. HavePlaces xs (set places (index_of id) (length ids))) (sym err) (still_have (length ids))

pub got_below : {A : Type 0} (xs : List A) (k : ℕ) (x : A) → slice_get xs k ≡ Some x → k < length xs
got_below [] k x e = absurd (none-some x e)
got_below (y ∷ xs) zero x e = omega arith
got_below (y ∷ xs) (suc k) x e = let less = got_below xs k x e in omega (arith, less)

pub repeated : {A : Type 0} (n k : ℕ) (y x : A) → slice_get (replicate n y) k ≡ Some x → x ≡ y
repeated zero k y x e = absurd (none-some x e)
repeated (suc n) zero y x e = same_Some x y (sym e)
repeated (suc n) (suc k) y x e = repeated n k y x e
