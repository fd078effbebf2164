-- Finite maps within others.
use Rattle.std.proofs.Common.{◌≡◌, ◌+◌, ◌-◌, ◌≤◌, cond, T, List, [], ◌∷◌, length, Some, Ordering, is_some, sym, ap, ◌∙◌, arith}
use Rattle.std.specs.Cmp.{IsTotalOrder}
use Rattle.std.specs.FinMap as map
use Rattle.std.specs.FinMap.{FinMap, IsAntisymmetric}
use Rattle.std.specs.FinMap.Entries.{find, is_sorted}
use Rattle.std.proofs.lemmas.Option.{none-some}
use Rattle.components.specs.Entries.{find_first, second, behind_other, found_behind}
use Rattle.components.specs.Lookups.{get_not_removed}

module _ {K X : Type 0} {R : K → K → Ordering} (o : IsTotalOrder R) (same : IsAntisymmetric R) where
  holds_one : (m : FinMap R X) (k : K) (x : X) → map.get m k ≡ Some x → map.len m ≡ map.len (map.remove m k) + 1
  holds_one m k x is =
      omega (arith, some_length (map.entries m) (sym (map.get-entries m k) ∙ is), map.len-entries m, map.len-remove o m k ∙ ap (λ t. cond t (map.len m - 1) (map.len m)) (ap is_some is))
    where
      some_length : (es : List (K × X)) → find R k es ≡ Some x → 1 ≤ length es
      some_length [] found = absurd (none-some x found)
      some_length (e ∷ es) found = omega arith

  few_entries : (es : List (K × X)) → T (is_sorted R es) → (m : FinMap R X) → ((k : K) (x : X) → find R k es ≡ Some x → map.get m k ≡ Some x) → length es ≤ map.len m
  few_entries [] sorted m within = omega arith
  few_entries (e ∷ es) sorted m within =
      let one = holds_one m e.0 e.1 (within e.0 e.1 (find_first R o e es)) in
      let others = few_entries es (second _ _ sorted) (map.remove m e.0) (λ k x found.
      get_not_removed o same m e.0 k (behind_other o same e es sorted k x found) ∙ within k x (found_behind o same e es sorted k x found)) in
      omega (arith, one, others)

  -- a map within another has no more entries
  pub fewer_entries : (m n : FinMap R X) → ((k : K) (x : X) → map.get m k ≡ Some x → map.get n k ≡ Some x) → map.len m ≤ map.len n
  fewer_entries m n within =
      omega (arith, map.len-entries m, few_entries (map.entries m) (map.entries_sorted m) n (λ k x found. within k x (map.get-entries m k ∙ found)))
