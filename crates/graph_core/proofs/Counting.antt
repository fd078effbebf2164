-- How many entries maps have.
use Rattle.std.proofs.Common.{◌≡◌, ◌≢◌, inl, inr, ℕ, zero, suc, ◌-◌, ◌≤◌, true, cond, List, [], ◌∷◌, length, Option, Some, None, is_some, Ordering, refl, sym, ap, ◌∙◌, arith}
use Rattle.std.specs.Option.{option_map}
use Rattle.std.specs.Cmp.{IsTotalOrder}
use Rattle.std.specs.FinMap as finite
use Rattle.std.specs.FinMap.{FinMap, IsAntisymmetric, find, entries, get, len, remove}
use Rattle.std.proofs.lemmas.Option.{none-some, same_Some}
use Rattle.components.specs.Lookups.{same_test, key_cases, get_removed, get_not_removed}
use Rattle.graph_core.specs.Tables.{map_values}
use Rattle.graph_core.proofs.Tables.{get-map_values, len-map_values}

-- maps with the same keys have as many entries
module _ {K X Y : Type 0} {R : K → K → Ordering} (total : IsTotalOrder R) (same : IsAntisymmetric R) (m : FinMap R X) (n : FinMap R Y) where
  told : {A : Type 0} (o : Option A) → option_map (λ (x : A). true) o ≡ cond (is_some o) (Some true) None
  told None = refl
  told (Some x) = refl

  pub len_keys : ((q : K) → is_some (get m q) ≡ is_some (get n q)) → len m ≡ len n
  len_keys keys =
      let one : map_values (λ (x : X). true) m ≡ map_values (λ (y : Y). true) n = finite.same_map total same _ _ (λ q.
      get-map_values (λ (x : X). true) m q ∙ told (get m q) ∙ ap (λ b. cond b (Some true) None) (keys q) ∙ sym (told (get n q)) ∙ sym (get-map_values (λ (y : Y). true) n q)) in
      sym (len-map_values (λ (x : X). true) m) ∙ ap len one ∙ len-map_values (λ (y : Y). true) n

module _ {K X : Type 0} {R : K → K → Ordering} (total : IsTotalOrder R) (same : IsAntisymmetric R) where
  -- a map without entries, or an entry
  record Entry (m : FinMap R X) : Type 0 where
    key : K
    value : X
    found : get m key ≡ Some value

  first_of : (m : FinMap R X) (es : List (K × X)) (n : ℕ) → entries m ≡ es → len m ≡ suc n → Entry m
  first_of m [] n is long = let none : len m ≡ 0 = finite.len-entries m ∙ ap length is in absurd (omega arith)
  first_of m (e ∷ es) n is long =
      record { key = e.0; value = e.1; found = finite.get-entries m e.0 ∙ ap (find R e.0) is ∙ ap (λ b. cond b (Some e.1) (find R e.0 es)) (same_test total same e.0 e.0 refl) }

  an_entry : (m : FinMap R X) (n : ℕ) → len m ≡ suc n → Entry m
  an_entry m n long = first_of m (entries m) n refl long

  some_in : (m : FinMap R X) (k : K) (x : X) → get m k ≡ Some x → 1 ≤ len m
  some_in m k x found = by_len (len m) refl
    where
      by_len : (n : ℕ) → len m ≡ n → 1 ≤ n
      by_len zero e = absurd (none-some x (sym (finite.get-empty R k) ∙ ap (λ z. get z k) (sym (finite.empty_of_len m e)) ∙ found))
      by_len (suc n) e = omega arith

  pub len_removed : (m : FinMap R X) (k : K) (x : X) → get m k ≡ Some x → suc (len (remove m k)) ≡ len m
  len_removed m k x found =
      let fewer : len (remove m k) ≡ len m - 1 = finite.len-remove total m k ∙ ap (λ o. cond (is_some o) (len m - 1) (len m)) found in
      let some = some_in m k x found in
      omega arith

-- maps that are inverse to each other have as many entries
module _ {K X : Type 0} {R : K → K → Ordering} {S : X → X → Ordering} (total : IsTotalOrder R) (same : IsAntisymmetric R) (total_back : IsTotalOrder S) (same_back : IsAntisymmetric S) where
  pub len_paired : (n : ℕ) (a : FinMap R X) (b : FinMap S K) → len a ≡ n → ((k : K) (x : X) → get a k ≡ Some x → get b x ≡ Some k) → ((x : X) (k : K) → get b x ≡ Some k → get a k ≡ Some x) → len b ≡ n
  len_paired zero a b none forth back = by_len (len b) refl
    where
      by_len : (m : ℕ) → len b ≡ m → m ≡ 0
      by_len zero e = refl
      by_len (suc m) e =
          let entry = an_entry total_back same_back b m e in
          absurd (none-some entry.key (sym (finite.get-empty R entry.value) ∙ ap (λ z. get z entry.value) (sym (finite.empty_of_len a none)) ∙ back entry.key entry.value entry.found))
  len_paired (suc n) a b long forth back =
      let entry = an_entry total same a n long in
      let there = forth entry.key entry.value entry.found in
      let less : suc (len (remove a entry.key)) ≡ len a = len_removed total same a entry.key entry.value entry.found in
      let less_back : suc (len (remove b entry.value)) ≡ len b = len_removed total_back same_back b entry.value entry.key there in
      let rest : len (remove b entry.value) ≡ n = len_paired n (remove a entry.key) (remove b entry.value) (omega arith)
      (λ k x found. elim (key_cases total same k entry.key) [
        | inl one ↦ absurd (none-some x (sym (get_removed total same a entry.key) ∙ ap (get (remove a entry.key)) (sym one) ∙ found))
        | inr two ↦
            let in_a = sym (get_not_removed total same a entry.key k two) ∙ found in
            let other : x ≢ entry.value = λ is. two (same_Some _ _ (sym (forth k x in_a) ∙ ap (get b) is ∙ there)) in
            get_not_removed total_back same_back b entry.value x other ∙ forth k x in_a
      ])
      (λ x k found. elim (key_cases total_back same_back x entry.value) [
        | inl one ↦ absurd (none-some k (sym (get_removed total_back same_back b entry.value) ∙ ap (get (remove b entry.value)) (sym one) ∙ found))
        | inr two ↦
            let in_b = sym (get_not_removed total_back same_back b entry.value x two) ∙ found in
            let other : k ≢ entry.key = λ is. two (same_Some _ _ (sym (back x k in_b) ∙ ap (get a) is ∙ entry.found)) in
            get_not_removed total same a entry.key k other ∙ back x k in_b
      ]) in
      omega arith
