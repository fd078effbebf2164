-- The entries of a finite map.
use Rattle.std.proofs.Common.{◌≡◌, Bool, true, false, cond, List, [], ◌∷◌, Option, Some, Ordering, ap, ◌∙◌}
use Rattle.std.specs.List.{AllByRecursion, list_any}
use Rattle.std.specs.Ordering.{eq_by_cmp}
use Rattle.std.specs.FinMap.Entries.{find}
use Rattle.std.proofs.lemmas.Bool.{or_left, or_right}
use Rattle.std.proofs.lemmas.Option.{none-some, same_Some}
use Rattle.std.proofs.lemmas.List.Elements.{All-from_recursion}
use Rattle.std.proofs.lemmas.List.Folds.{list_any_none}

-- the value is that of the first entry, or of one behind
at_entry : {K X : Type 0} (test : K × X → Bool) (e : K × X) (es : List (K × X)) (x : X) → test (e.0, x) ≡ true → (b : Bool) {behind : Option X} →
    (behind ≡ Some x → list_any test es ≡ true) → cond b (Some e.1) behind ≡ Some x → list_any test (e ∷ es) ≡ true
at_entry test e es x passes true later is = or_left (test e) (list_any test es) (ap (λ y. test (e.0, y)) (same_Some e.1 x is) ∙ passes)
at_entry test e es x passes false later is = or_right (test e) (list_any test es) (later is)

-- a test fails at all elements
pub none_passes : {A : Type 0} (test : A → Bool) (xs : List A) → AllByRecursion (λ x. test x ≡ false) xs → list_any test xs ≡ false
none_passes test xs each = list_any_none test xs (All-from_recursion (λ x. test x ≡ false) xs each)

module _ {K X : Type 0} (R : K → K → Ordering) where
  -- what is found is some entry's value
  pub found_passes : (test : K × X → Bool) (q : K) (x : X) → ((k : K) → test (k, x) ≡ true) → (es : List (K × X)) → find R q es ≡ Some x → list_any test es ≡ true
  found_passes test q x passes [] found = absurd (none-some x found)
  found_passes test q x passes (e ∷ es) found = at_entry test e es x (passes e.0) (eq_by_cmp R q e.0) (found_passes test q x passes es) found
