-- Lists of entries whose keys strictly rise, as those of finite maps, and what `find` answers in them.
use Rattle.std.proofs.Common.{◌≡◌, ◌≢◌, Bool, true, false, cond, ◌&&◌, T, List, [], ◌∷◌, ◌++◌, Option, Some, None, Ordering, Less, Equal, Greater, is_eq, is_lt, refl, sym, ap, subst, ◌∙◌}
use Rattle.std.specs.Cmp.{IsTotalOrder, tied_itself, Equal-is}
use Rattle.std.specs.List.{AllByRecursion}
use Rattle.std.specs.Ordering.{eq_by_cmp, ordering_reverse}
use Rattle.std.specs.Option.{option_or}
use Rattle.std.specs.FinMap as map
use Rattle.std.specs.FinMap.{FinMap, IsAntisymmetric}
use Rattle.std.specs.FinMap.Entries.{find, is_sorted, below_all}
use Rattle.std.proofs.lemmas.Option.{none-some, same_Some}
use Rattle.components.specs.Lookups.{other_test}

-- the test `a && b` by its two parts

pub both : (a b : Bool) → T a → T b → T (a && b)
both true b p q = q
both false b p q = p

pub first : (a b : Bool) → T (a && b) → T a
first true b p = tt
first false b p = p

pub second : (a b : Bool) → T (a && b) → T b
second true b p = p
second false b p = absurd p

pub less : (r : Ordering) → T (is_lt r) → r ≡ Less
less Less p = refl
less Equal p = absurd p
less Greater p = absurd p

pub is_less : (r : Ordering) → r ≡ Less → T (is_lt r)
is_less r is = subst (λ s. T (is_lt s)) (sym is) tt

or_else : {A : Type 0} (b : Bool) (x : A) (p q : Option A) → cond b (Some x) (option_or p q) ≡ option_or (cond b (Some x) p) q
or_else true x p q = refl
or_else false x p q = refl

module _ {K X : Type 0} (R : K → K → Ordering) where
  -- what the first list has is found there, and the rest in the second
  pub find-append : (q : K) (es fs : List (K × X)) → find R q (es ++ fs) ≡ option_or (find R q es) (find R q fs)
  find-append q [] fs = refl
  find-append q (e ∷ es) fs = ap (cond (eq_by_cmp R q e.0) (Some e.1)) (find-append q es fs) ∙ or_else (eq_by_cmp R q e.0) e.1 (find R q es) (find R q fs)

  -- a key below those of two lists is below those of both in a row
  pub below_all-append : (x : K) (es fs : List (K × X)) → T (below_all R x es) → T (below_all R x fs) → T (below_all R x (es ++ fs))
  below_all-append x [] fs g h = h
  below_all-append x (e ∷ es) fs g h = both _ _ (first _ _ g) (below_all-append x es fs (second _ _ g) h)

  -- a key below each key of a list is not found in it
  pub find_below : (q : K) (es : List (K × X)) → T (below_all R q es) → find R q es ≡ None
  find_below q [] h = refl
  find_below q (e ∷ es) h = ap (λ r. cond (is_eq r) (Some e.1) (find R q es)) (less _ (first _ _ h)) ∙ find_below q es (second _ _ h)

  Less-from_below : (x : K) (before : List (K × X)) (e : K × X) (after : List (K × X)) → T (below_all R x (before ++ e ∷ after)) → R x e.0 ≡ Less
  Less-from_below x [] e after h = less _ (first _ _ h)
  Less-from_below x (f ∷ before) e after h = Less-from_below x before e after (second _ _ h)

  -- what is known at the place of an entry
  module _ (o : IsTotalOrder R) where
    pub find_before : (before : List (K × X)) (e : K × X) (after : List (K × X)) → T (is_sorted R (before ++ e ∷ after)) → find R e.0 before ≡ None
    find_before [] e after h = refl
    find_before (f ∷ before) e after h =
        let greater : R e.0 f.0 ≡ Greater = o.antisymm e.0 f.0 ∙ ap ordering_reverse (Less-from_below f.0 before e after (first _ _ h)) in
        ap (λ r. cond (is_eq r) (Some f.1) (find R e.0 before)) greater ∙ find_before before e after (second _ _ h)

    pub find_first : (e : K × X) (after : List (K × X)) → find R e.0 (e ∷ after) ≡ Some e.1
    find_first e after = ap (λ r. cond (is_eq r) (Some e.1) (find R e.0 after)) (tied_itself o e.0)

    pub find_here : (before : List (K × X)) (e : K × X) (after : List (K × X)) → T (is_sorted R (before ++ e ∷ after)) → find R e.0 (before ++ e ∷ after) ≡ Some e.1
    find_here before e after h = find-append e.0 before (e ∷ after) ∙ ap (λ found. option_or found (find R e.0 (e ∷ after))) (find_before before e after h) ∙ find_first e after

-- The entries of a map

module _ {K X : Type 0} {R : K → K → Ordering} (o : IsTotalOrder R) (same : IsAntisymmetric R) where
  module _ (e : K × X) (es : List (K × X)) (sorted : T (is_sorted R (e ∷ es))) (k : K) (x : X) (found : find R k es ≡ Some x) where
    -- a key that is found behind an entry is another, and is found with the entry too
    pub behind_other : k ≢ e.0
    behind_other is = none-some x (sym (ap (λ (q : K). find R q es) is ∙ find_below R e.0 es (first _ _ sorted)) ∙ found)

    pub found_behind : find R k (e ∷ es) ≡ Some x
    found_behind = ap (λ t. cond t (Some e.1) (find R k es)) (other_test o same k e.0 behind_other) ∙ found

  -- an entry of a map, with those before and behind it
  module _ (m : FinMap R X) (before : List (K × X)) (e : K × X) (after : List (K × X)) (whole : map.entries m ≡ before ++ e ∷ after) where
    sorted_around : T (is_sorted R (before ++ e ∷ after))
    sorted_around = subst (λ (es : List (K × X)). T (is_sorted R es)) whole (map.entries_sorted m)

    pub none_before : find R e.0 before ≡ None
    none_before = find_before R o before e after sorted_around

    pub found_there : map.get m e.0 ≡ Some e.1
    found_there = map.get-entries m e.0 ∙ ap (find R e.0) whole ∙ find_here R o before e after sorted_around

  -- what holds at each key that is found holds of each entry
  pub each_entry : (P : K × X → Type 0) (es : List (K × X)) → T (is_sorted R es) → ((k : K) (x : X) → find R k es ≡ Some x → P (k, x)) → AllByRecursion P es
  each_entry P [] sorted holds = tt
  each_entry P (e ∷ es) sorted holds = (
    holds e.0 e.1 (find_first R o e es),
    each_entry P es (second _ _ sorted) (λ k x found. holds k x (found_behind e es sorted k x found)),
  )

  -- what holds of each entry holds of each that is found
  pub found_entry : (P : K × X → Type 0) (es : List (K × X)) → AllByRecursion P es → (k : K) (x : X) → find R k es ≡ Some x → P (k, x)
  found_entry P [] each k x found = absurd (none-some x found)
  found_entry P (e ∷ es) each k x found = at_first (eq_by_cmp R k e.0) refl (found_entry P es each.1 k x) found
    where
      at_first : (b : Bool) → eq_by_cmp R k e.0 ≡ b → (find R k es ≡ Some x → P (k, x)) → cond b (Some e.1) (find R k es) ≡ Some x → P (k, x)
      at_first true test later is = subst P (λ i. (sym (same k e.0 ((Equal-is (R k e.0)).0 test)) i, same_Some e.1 x is i)) each.0
      at_first false test later is = later is

  -- each entry is found under its key
  pub each_found : (m : FinMap R X) → AllByRecursion (λ e. map.get m e.0 ≡ Some e.1) (map.entries m)
  each_found m = each_entry (λ e. map.get m e.0 ≡ Some e.1) (map.entries m) (map.entries_sorted m) (λ k x found. map.get-entries m k ∙ found)
