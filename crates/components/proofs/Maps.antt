-- The entries of finite maps over an order in which only equal keys tie.
use Rattle.std.proofs.Common.{◌≡◌, ◌≢◌, inl, inr, zero, suc, arith, Bool, true, false, cond, T, ◌&&◌, List, [], ◌∷◌, get_or, Some, Ordering, Less, Equal, Greater, refl, sym, ap, ◌∙◌, true≢false}
use Rattle.std.specs.Ordering.{is_eq, is_lt}
use Rattle.std.specs.List.{All, AllPairs, Contains}
use Rattle.std.specs.Cmp.{IsTotalOrder}
use Rattle.std.specs.FinMap.{FinMap, IsAntisymmetric, find, is_sorted, entries, entries_sorted, get, get-entries}
use Rattle.std.specs.FinMap.Entries.{below_all}
use Rattle.std.proofs.lemmas.Option.{same_Some, none-some}
use Rattle.components.specs.Lookups.{same_test, other_test, key_cases}

-- Each entry of a map is found under its key

and_parts : (a b : Bool) → T (a && b) → T a × T b
and_parts true b h = (tt, h)
and_parts false b h = absurd h

above_ties : (r : Ordering) → T (is_lt r) → is_eq r ≡ false
above_ties Less h = refl
above_ties Equal h = absurd h
above_ties Greater h = absurd h

module _ {K X : Type 0} {R : K → K → Ordering} (total : IsTotalOrder R) (same : IsAntisymmetric R) where
  above_apart : (x : K) (es : List (K × X)) → T (below_all R x es) → All (λ e. x ≢ e.0) es
  above_apart x [] below k d within = absurd (omega arith)
  above_apart x (e ∷ es) below zero d within = λ is.
      let parts = and_parts (is_lt (R x e.0)) (below_all R x es) below in
      true≢false (sym (same_test total same x e.0 is) ∙ above_ties (R x e.0) parts.0)
  above_apart x (e ∷ es) below (suc k) d within = above_apart x es (and_parts (is_lt (R x e.0)) (below_all R x es) below).1 k d (omega arith)

  -- no two entries of a map have one key
  pub keys_apart : (es : List (K × X)) → T (is_sorted R es) → AllPairs (λ a b. a.0 ≢ b.0) es
  keys_apart [] sorted i j d less within = absurd (omega arith)
  keys_apart (e ∷ es) sorted i zero d less within = absurd (omega arith)
  keys_apart (e ∷ es) sorted zero (suc j) d less within = above_apart e.0 es (and_parts (below_all R e.0 es) (is_sorted R es) sorted).0 j d (omega arith)
  keys_apart (e ∷ es) sorted (suc i) (suc j) d less within = keys_apart es (and_parts (below_all R e.0 es) (is_sorted R es) sorted).1 i j d (omega arith) (omega arith)

  -- what is found stands in the list
  pub contains_found : (es : List (K × X)) (key : K) (value : X) → find R key es ≡ Some value → Contains es (key, value)
  contains_found [] key value found = absurd (none-some value found)
  contains_found (e ∷ es) key value found =
      elim (key_cases total same key e.0) [
        | inl one ↦
            let is : e.1 ≡ value = same_Some e.1 value (ap (λ b. cond b (Some e.1) (find R key es)) (sym (same_test total same key e.0 one)) ∙ found) in
            (0, omega arith, λ i. (sym one i, is i))
        | inr two ↦
            let later = contains_found es key value (ap (λ b. cond b (Some e.1) (find R key es)) (sym (other_test total same key e.0 two)) ∙ found) in
            (suc later.0, omega (arith, later.1), later.2)
      ]

  -- where no two have one key, what stands in the list is found
  pub found_at : (es : List (K × X)) → AllPairs (λ a b. a.0 ≢ b.0) es → All (λ e. find R e.0 es ≡ Some e.1) es
  found_at [] distinct k d within = absurd (omega arith)
  found_at (e ∷ es) distinct zero d within = ap (λ b. cond b (Some e.1) (find R e.0 es)) (same_test total same e.0 e.0 refl)
  found_at (e ∷ es) distinct (suc k) d within =
      let key = (get_or es k d).0 in
      let apart : key ≢ e.0 = λ is. distinct 0 (suc k) d (omega arith) within (sym is) in
      ap (λ b. cond b (Some e.1) (find R key es)) (other_test total same key e.0 apart)
      ∙ found_at es (λ i j x below inside. distinct (suc i) (suc j) x (omega arith) (omega arith)) k d (omega arith)

  pub each_found : (m : FinMap R X) → All (λ e. get m e.0 ≡ Some e.1) (entries m)
  each_found m = λ k d within. get-entries m (get_or (entries m) k d).0 ∙ found_at (entries m) (keys_apart (entries m) (entries_sorted m)) k d within
