-- The nodes that pass a test, of all nodes in the order of their names.
use Rattle.std.proofs.Common.{◌≡◌, ◌⊎◌, inl, inr, Bool, true, false, cond, T, refl, sym, ap, ◌∙◌, List, [], ◌∷◌, map, filter, Some}
use Rattle.std.proofs.lemmas.Bool.{true≢false}
use Rattle.std.proofs.lemmas.Option.{none-some}
use Rattle.std.specs.List.{AllByRecursion}
use Rattle.std.specs.FinMap as finite
use Rattle.std.specs.FinMap.{find, is_sorted}
use Rattle.std.specs.FinMap.Entries.{below_all}
use Rattle.components.specs.Name.{Name, name_cmp}
use Rattle.components.specs.Entries.{first, second, less}
use Rattle.components.specs.Lookups.{other_test}
use Rattle.components.specs.Orders.{name_total, name_same, name_cases}
use Rattle.circuits.specs.Replacing.{In, In.head, In.tail}
use Rattle.loop_laws.specs.BodyOrder.{IsBefore, Ascending}

module _ {X : Type 0} where
  found_in : (n : Name) (es : List (Name × X)) (x : X) → find name_cmp n es ≡ Some x → In n (map (λ e. e.0) es)
  found_in n [] x found = absurd (none-some x found)
  found_in n (e ∷ es) x found =
      elim (name_cases n e.0) [
        | inl same ↦ head same
        | inr apart ↦ tail (found_in n es x (ap (λ t. cond t (Some e.1) (find name_cmp n es)) (sym (other_test name_total name_same n e.0 apart)) ∙ found))
      ]

  below_each : (n : Name) (es : List (Name × X)) → T (below_all name_cmp n es) → AllByRecursion (IsBefore n) (map (λ e. e.0) es)
  below_each n [] below = tt
  below_each n (e ∷ es) below = (less (name_cmp n e.0) (first _ _ below), below_each n es (second _ _ below))

  sorted_ascends : (es : List (Name × X)) → T (is_sorted name_cmp es) → Ascending (map (λ e. e.0) es)
  sorted_ascends [] sorted = tt
  sorted_ascends (e ∷ es) sorted = (below_each e.0 es (first _ _ sorted), sorted_ascends es (second _ _ sorted))

  -- the keys of a map by names ascend, and are those that it has
  pub keys_ascend : (m : finite.FinMap name_cmp X) → Ascending (finite.keys m)
  keys_ascend m = sorted_ascends (finite.entries m) (finite.entries_sorted m)

  pub key_in : (m : finite.FinMap name_cmp X) (n : Name) (x : X) → finite.get m n ≡ Some x → In n (finite.keys m)
  key_in m n x found = found_in n (finite.entries m) x (sym (finite.get-entries m n) ∙ found)

-- what passes a test

module _ {A : Type 0} (p : A → Bool) where
  kept_in : (x n : A) (xs : List A) (t : Bool) → p x ≡ t → In n (cond t (x ∷ filter p xs) (filter p xs)) → (n ≡ x) × (p n ≡ true) ⊎ In n (filter p xs)
  kept_in x n xs true e (head is) = inl (is, ap p is ∙ e)
  kept_in x n xs true e (tail i) = inr i
  kept_in x n xs false e i = inr i

  pub filter_passes : (n : A) (xs : List A) → In n (filter p xs) → In n xs × (p n ≡ true)
  filter_passes n [] i = elim i [ ]
  filter_passes n (x ∷ xs) i =
      elim (kept_in x n xs (p x) refl i) [
        | inl here ↦ (head here.0, here.1)
        | inr later ↦ let rest = filter_passes n xs later in (tail rest.0, rest.1)
      ]

  keeps : (x n : A) (xs : List A) (t : Bool) → p x ≡ t → p n ≡ true → (n ≡ x) ⊎ In n (filter p xs) → In n (cond t (x ∷ filter p xs) (filter p xs))
  keeps x n xs true e pass (inl is) = head is
  keeps x n xs true e pass (inr i) = tail i
  keeps x n xs false e pass (inl is) = absurd (true≢false (sym pass ∙ ap p is ∙ e))
  keeps x n xs false e pass (inr i) = i

  pub filter_keeps : (n : A) (xs : List A) → In n xs → p n ≡ true → In n (filter p xs)
  filter_keeps n [] i pass = elim i [ ]
  filter_keeps n (x ∷ xs) (head is) pass = keeps x n xs (p x) refl pass (inl is)
  filter_keeps n (x ∷ xs) (tail i) pass = keeps x n xs (p x) refl pass (inr (filter_keeps n xs i pass))

  each_kept_at : (Q : A → Type 0) (x : A) (xs : List A) (t : Bool) → Q x → AllByRecursion Q (filter p xs) → AllByRecursion Q (cond t (x ∷ filter p xs) (filter p xs))
  each_kept_at Q x xs true q rest = (q, rest)
  each_kept_at Q x xs false q rest = rest

  pub each_kept : (Q : A → Type 0) (xs : List A) → AllByRecursion Q xs → AllByRecursion Q (filter p xs)
  each_kept Q [] all = tt
  each_kept Q (x ∷ xs) all = each_kept_at Q x xs (p x) all.0 (each_kept Q xs all.1)

-- names that pass a test stay in order
module _ (p : Name → Bool) where
  ascend_at : (x : Name) (xs : List Name) (t : Bool) → AllByRecursion (IsBefore x) (filter p xs) → Ascending (filter p xs) → Ascending (cond t (x ∷ filter p xs) (filter p xs))
  ascend_at x xs true before rest = (before, rest)
  ascend_at x xs false before rest = rest

  pub filter_ascends : (xs : List Name) → Ascending xs → Ascending (filter p xs)
  filter_ascends [] rise = tt
  filter_ascends (x ∷ xs) rise = ascend_at x xs (p x) (each_kept p (IsBefore x) xs rise.0) (filter_ascends xs rise.1)

-- a test of the mapped items
module _ {A B : Type 0} (f : A → B) (p : B → Bool) where
  map_at : (x : A) (xs : List A) (t : Bool) → map f (filter (λ y. p (f y)) xs) ≡ filter p (map f xs) → map f (cond t (x ∷ filter (λ y. p (f y)) xs) (filter (λ y. p (f y)) xs)) ≡ cond t (f x ∷ filter p (map f xs)) (filter p (map f xs))
  map_at x xs true rest = ap (λ ys. f x ∷ ys) rest
  map_at x xs false rest = rest

  pub map_kept : (xs : List A) → map f (filter (λ y. p (f y)) xs) ≡ filter p (map f xs)
  map_kept [] = refl
  map_kept (x ∷ xs) = map_at x xs (p (f x)) (map_kept xs)
