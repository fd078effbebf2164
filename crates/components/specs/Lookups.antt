-- Look-ups in finite maps over an order in which only equal keys tie.
use Rattle.std.proofs.Common.{◌≡◌, ◌≢◌, ◌⊎◌, Bool, true, false, cond, inl, inr, refl, sym, ap, subst, ◌∙◌, Option, Some, None, Ordering, Equal, is_eq}
use Rattle.std.proofs.lemmas.Bool.{false_from_ne_true, true≢false}
use Rattle.std.proofs.lemmas.Option.{none-some}
use Rattle.std.specs.Ordering.{eq_by_cmp}
use Rattle.std.specs.Cmp.{IsTotalOrder, tied_itself, Equal-is}
use Rattle.std.specs.FinMap as map
use Rattle.std.specs.FinMap.{FinMap, IsAntisymmetric}

module _ {K : Type 0} {R : K → K → Ordering} (o : IsTotalOrder R) (same : IsAntisymmetric R) where
  pub same_test : (a b : K) → a ≡ b → eq_by_cmp R a b ≡ true
  same_test a b e = ap is_eq (subst (λ z. R a z ≡ Equal) e (tied_itself o a))

  pub other_test : (a b : K) → a ≢ b → eq_by_cmp R a b ≡ false
  other_test a b other = false_from_ne_true (eq_by_cmp R a b) (λ e. other (same a b ((Equal-is (R a b)).0 e)))

  cases_by : (a b : K) (r : Bool) → eq_by_cmp R a b ≡ r → (a ≡ b) ⊎ (a ≢ b)
  cases_by a b true e = inl (same a b ((Equal-is (R a b)).0 e))
  cases_by a b false e = inr (λ is. true≢false (sym (same_test a b is) ∙ e))

  -- two keys are one, or they are not
  pub key_cases : (a b : K) → (a ≡ b) ⊎ (a ≢ b)
  key_cases a b = cases_by a b (eq_by_cmp R a b) refl

  -- After a change

  pub get_inserted : {X : Type 0} (m : FinMap R X) (k : K) (v : X) (q : K) → q ≡ k → map.get (map.insert m k v) q ≡ Some v
  get_inserted m k v q is = map.get-insert o m k v q ∙ ap (λ t. cond t (Some v) (map.get m q)) (same_test q k is)

  pub get_not_inserted : {X : Type 0} (m : FinMap R X) (k : K) (v : X) (q : K) → q ≢ k → map.get (map.insert m k v) q ≡ map.get m q
  get_not_inserted m k v q other = map.get-insert o m k v q ∙ ap (λ t. cond t (Some v) (map.get m q)) (other_test q k other)

  pub get_removed : {X : Type 0} (m : FinMap R X) (k : K) → map.get (map.remove m k) k ≡ None
  get_removed m k = map.get-remove o m k k ∙ ap (λ t. cond t None (map.get m k)) (same_test k k refl)

  pub get_not_removed : {X : Type 0} (m : FinMap R X) (k q : K) → q ≢ k → map.get (map.remove m k) q ≡ map.get m q
  get_not_removed m k q other = map.get-remove o m k q ∙ ap (λ t. cond t None (map.get m q)) (other_test q k other)

  pub get_retained : {X : Type 0} (m : FinMap R X) (p : K → Bool) (q : K) → map.get (map.retain_keys m p) q ≡ cond (p q) (map.get m q) None
  get_retained m p q = map.get-retain_keys m p q (λ x tie. ap p (sym (same q x tie)))

pub found_if : {A : Type 0} (t : Bool) (o : Option A) (x : A) → cond t o None ≡ Some x → (t ≡ true) × (o ≡ Some x)
found_if true o x e = (refl, e)
found_if false o x e = absurd (none-some x e)

-- Maps with the same values at the same keys

-- two answers that give the same values are one
pub answers_by : {A : Type 0} (a b : Option A) → ((x : A) → a ≡ Some x → b ≡ Some x) → ((x : A) → b ≡ Some x → a ≡ Some x) → a ≡ b
answers_by None None f g = refl
answers_by None (Some x) f g = g x refl
answers_by (Some x) b f g = sym (f x refl)

module _ {K X : Type 0} {R : K → K → Ordering} (o : IsTotalOrder R) (same : IsAntisymmetric R) where
  pub same_by : (m n : FinMap R X) → ((q : K) (x : X) → map.get m q ≡ Some x → map.get n q ≡ Some x) → ((q : K) (x : X) → map.get n q ≡ Some x → map.get m q ≡ Some x) → m ≡ n
  same_by m n f g = map.same_map o same m n (λ q. answers_by (map.get m q) (map.get n q) (f q) (g q))

  -- a map is the one of its entries
  pub from_entries-entries : (m : FinMap R X) → map.from_entries (map.entries m) ≡ m
  from_entries-entries m = map.same_map o same (map.from_entries (map.entries m)) m (λ q. map.get-from_entries o (map.entries m) q ∙ sym (map.get-entries m q))

  module _ (m : FinMap R X) (k : K) where
    pub put_twice : (v w : X) → map.insert (map.insert m k v) k w ≡ map.insert m k w
    put_twice v w = map.same_map o same _ _ (λ q. elim (key_cases o same q k) [
      | inl one ↦ get_inserted o same (map.insert m k v) k w q one ∙ sym (get_inserted o same m k w q one)
      | inr two ↦ get_not_inserted o same (map.insert m k v) k w q two ∙ get_not_inserted o same m k v q two ∙ sym (get_not_inserted o same m k w q two)
    ])

    pub put_undone : (v : X) → map.get m k ≡ None → map.remove (map.insert m k v) k ≡ m
    put_undone v none = map.same_map o same _ _ (λ q. elim (key_cases o same q k) [
      | inl one ↦ ap (map.get (map.remove (map.insert m k v) k)) one ∙ get_removed o same (map.insert m k v) k ∙ sym none ∙ ap (map.get m) (sym one)
      | inr two ↦ get_not_removed o same (map.insert m k v) k q two ∙ get_not_inserted o same m k v q two
    ])
