-- What finite maps made of others answer.
use Rattle.std.proofs.Common.{◌≡◌, ◌≢◌, ◌⊎◌, inl, inr, Bool, true, false, cond, T, ◌||◌, ◌&&◌, List, [], ◌∷◌, map, length, Option, Some, None, refl, sym, ap, subst, ◌∙◌, true≢false}
use Rattle.std.specs.Option.{option_map}
use Rattle.std.specs.List.{list_any}
use Rattle.std.specs.declared.cmp.Ordering.{Ordering}
use Rattle.std.specs.Ordering.{eq_by_cmp, is_lt}
use Rattle.std.specs.Cmp.{IsTotalOrder}
use Rattle.std.specs.FinMap as finite
use Rattle.std.specs.FinMap.{FinMap, IsAntisymmetric, find, is_sorted, entries, entries_sorted, get, len}
use Rattle.std.specs.FinMap.Entries.{below_all}
use Rattle.std.proofs.lemmas.List.{length-map}
use Rattle.std.proofs.lemmas.Option.{none-some}
use Rattle.graph_core.specs.Tables.{map_values, put_if, tabulate}
use Rattle.components.specs.Lookups.{key_cases, other_test, get_inserted, get_not_inserted, answers_by}

-- The same keys with other values

abbrev mapped : {K X Y : Type 0} → (X → Y) → List (K × X) → List (K × Y)
mapped f es = map (λ e. (e.0, f e.1)) es

mapped_if : {X Y : Type 0} (f : X → Y) (b : Bool) (x : X) (o : Option X) (p : Option Y) → p ≡ option_map f o → cond b (Some (f x)) p ≡ option_map f (cond b (Some x) o)
mapped_if f true x o p e = refl
mapped_if f false x o p e = e

module _ {K X Y : Type 0} (R : K → K → Ordering) (f : X → Y) where
  below_mapped : (k : K) (es : List (K × X)) → below_all R k (mapped f es) ≡ below_all R k es
  below_mapped k [] = refl
  below_mapped k (e ∷ es) = ap (λ b. is_lt (R k e.0) && b) (below_mapped k es)

  sorted_mapped : (es : List (K × X)) → is_sorted R (mapped f es) ≡ is_sorted R es
  sorted_mapped [] = refl
  sorted_mapped (e ∷ es) = λ i. below_mapped e.0 es i && sorted_mapped es i

  find_mapped : (q : K) (es : List (K × X)) → find R q (mapped f es) ≡ option_map f (find R q es)
  find_mapped q [] = refl
  find_mapped q (e ∷ es) = mapped_if f (eq_by_cmp R q e.0) e.1 (find R q es) (find R q (mapped f es)) (find_mapped q es)

module _ {K X Y : Type 0} {R : K → K → Ordering} (f : X → Y) (m : FinMap R X) where
  pub entries-map_values : entries (map_values f m) ≡ mapped f (entries m)
  unfolding map_values
  entries-map_values = finite.entries-from_sorted R (mapped f (entries m)) (subst T (sym (sorted_mapped R f (entries m))) (entries_sorted m))

  pub get-map_values : (q : K) → get (map_values f m) q ≡ option_map f (get m q)
  get-map_values q = finite.get-entries (map_values f m) q ∙ ap (find R q) entries-map_values ∙ find_mapped R f q (entries m) ∙ ap (option_map f) (sym (finite.get-entries m q))

  pub len-map_values : len (map_values f m) ≡ len m
  len-map_values =
      let same : length (mapped f (entries m)) ≡ length (entries m) = length-map (entries m) (λ (e : K × X). (e.0, f e.1)) in
      finite.len-entries (map_values f m) ∙ ap length entries-map_values ∙ same ∙ sym (finite.len-entries m)

-- What a function gives at keys

pub or_true : (a b : Bool) → a || b ≡ true → (a ≡ true) ⊎ (b ≡ true)
or_true true b e = inl refl
or_true false b e = inr e

abbrev pub is_in : {K : Type 0} → (K → K → Ordering) → K → List K → Bool
is_in R q ks = list_any (eq_by_cmp R q) ks

module _ {K X : Type 0} {R : K → K → Ordering} (total : IsTotalOrder R) (same : IsAntisymmetric R) where
  put_here : (m : FinMap R X) (k : K) (o : Option X) (q : K) → q ≡ k → (x : X) → o ≡ Some x → get (put_if m k o) q ≡ Some x
  unfolding put_if
  put_here m k None q one x is = absurd (none-some _ is)
  put_here m k (Some y) q one x is = get_inserted total same m k y q one ∙ is

  put_other : (m : FinMap R X) (k : K) (o : Option X) (q : K) → (q ≢ k) ⊎ (o ≡ None) → get (put_if m k o) q ≡ get m q
  unfolding put_if
  put_other m k None q other = refl
  put_other m k (Some y) q (inl apart) = get_not_inserted total same m k y q apart
  put_other m k (Some y) q (inr none) = absurd (none-some _ (sym none))

  module _ (f : K → Option X) where
    -- what is found is what the function gives
    found_first : (ks : List K) (k q : K) (x : X) (o : Option X) → f k ≡ o → q ≡ k → (get (tabulate {R = R} ks f) q ≡ Some x → f q ≡ Some x) → get (put_if (tabulate {R = R} ks f) k (f k)) q ≡ Some x → f q ≡ Some x
    found_first ks k q x None e one later is = later (sym (put_other (tabulate ks f) k (f k) q (inr e)) ∙ is)
    found_first ks k q x (Some y) e one later is = ap f one ∙ e ∙ sym (put_here (tabulate ks f) k (f k) q one y e) ∙ is

    found : (ks : List K) (q : K) (x : X) → get (tabulate {R = R} ks f) q ≡ Some x → f q ≡ Some x
    unfolding tabulate
    found [] q x is = absurd (none-some _ (sym (sym is ∙ finite.get-empty R q)))
    found (k ∷ ks) q x is = elim (key_cases total same q k) [
      | inl one ↦ found_first ks k q x (f k) refl one (found ks q x) is
      | inr two ↦ found ks q x (sym (put_other (tabulate ks f) k (f k) q (inl two)) ∙ is)
    ]

    -- what the function gives at one of the keys is found
    there : (ks : List K) (q : K) (x : X) → is_in R q ks ≡ true → f q ≡ Some x → get (tabulate {R = R} ks f) q ≡ Some x
    unfolding tabulate
    there [] q x is_key is = absurd (true≢false (sym is_key))
    there (k ∷ ks) q x is_key is = elim (key_cases total same q k) [
      | inl one ↦ put_here (tabulate ks f) k (f k) q one x (ap f (sym one) ∙ is)
      | inr two ↦ put_other (tabulate ks f) k (f k) q (inl two) ∙ there ks q x (elim (or_true (eq_by_cmp R q k) (is_in R q ks) is_key) [
        | inl e ↦ absurd (true≢false (sym e ∙ other_test total same q k two))
        | inr e ↦ e
      ]) is
    ]

    pub get-tabulate : (ks : List K) (q : K) → ((x : X) → f q ≡ Some x → is_in R q ks ≡ true) → get (tabulate {R = R} ks f) q ≡ f q
    get-tabulate ks q keys = answers_by (get (tabulate ks f) q) (f q) (found ks q) (λ x is. there ks q x (keys x is) is)
