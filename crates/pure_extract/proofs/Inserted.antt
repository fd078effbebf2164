-- What holds of each entry of a map that is put together entry by entry.
use Rattle.std.proofs.Common.{◌≡◌, inl, inr, Some, Ordering, sym, subst, ◌∙◌}
use Rattle.std.specs.Cmp.{IsTotalOrder}
use Rattle.std.specs.FinMap as map
use Rattle.std.specs.FinMap.{FinMap, IsAntisymmetric}
use Rattle.std.proofs.lemmas.Option.{none-some, same_Some}
use Rattle.components.specs.Lookups.{key_cases, get_inserted, get_not_inserted}

module _ {K X : Type 0} (R : K → K → Ordering) (P : K → X → Type 0) where
  pub each_empty : (q : K) (x : X) → map.get (map.empty {R = R}) q ≡ Some x → P q x
  each_empty q x found = absurd (none-some x (sym (map.get-empty R q) ∙ found))

module _ {K X : Type 0} {R : K → K → Ordering} (P : K → X → Type 0) (o : IsTotalOrder R) (same : IsAntisymmetric R) where
  pub each_inserted : (m : FinMap R X) (k : K) (v : X) → P k v → ((q : K) (x : X) → map.get m q ≡ Some x → P q x) →
      (q : K) (x : X) → map.get (map.insert m k v) q ≡ Some x → P q x
  each_inserted m k v first rest q x found =
      elim (key_cases o same q k) [
        | inl is ↦ subst (P q) (same_Some v x (sym (get_inserted o same m k v q is) ∙ found)) (subst (λ z. P z v) (sym is) first)
        | inr other ↦ rest q x (sym (get_not_inserted o same m k v q other) ∙ found)
      ]
