-- Looking up by the bytes of the keys.
use Rattle.std.proofs.Common.{◌≡◌, ◌≢◌, ℕ, Bool, cond, List, [], ◌∷◌, Some, bytes_eq, refl, sym, ap, ◌∙◌}
use Rattle.std.specs.List.{AllZip}
use Rattle.std.specs.Map.{lookup, IsKeyTest, AreApart, KeepsOthers}
use Rattle.std.proofs.lemmas.Slice.Eq.{bytes_eq-Decides}
use Rattle.std.proofs.lemmas.Bool.{false_from_ne_true}

module _ {K : Type 0} (bytes : K → List ℕ) where
  -- whether the key has these bytes
  abbrev pub has : List ℕ → K → Bool
  has name key = bytes_eq name (bytes key)

  is_test : (name : List ℕ) → IsKeyTest (λ a b. bytes_eq (bytes a) (bytes b)) (has name)
  is_test name x y e = ap (λ n. bytes_eq n (bytes y)) ((bytes_eq-Decides name (bytes x)).0 e)

  tests_apart : (name other : List ℕ) → other ≢ name → AreApart (has name) (has other)
  tests_apart name other apart key e = false_from_ne_true (has other key) (λ f. apart ((bytes_eq-Decides other (bytes key)).0 f ∙ sym ((bytes_eq-Decides name (bytes key)).0 e)))

  -- a change at one name keeps what stands under another
  pub others_kept : {X : Type 0} (name other : List ℕ) (old new : List (K × X)) → KeepsOthers (λ a b. bytes_eq (bytes a) (bytes b)) (has name) old new → other ≢ name → lookup (has other) new ≡ lookup (has other) old
  unfolding KeepsOthers
  others_kept name other old new kept apart = kept (has other) (is_test other) (tests_apart name other apart)

  -- the same stands under each name in a list of equal keys and values
  pub lookup_same : {X : Type 0} {C : K → K → Type 0} {D : X → X → Type 0} → ((k l : K) → C k l → bytes l ≡ bytes k) → ((x y : X) → D x y → y ≡ x)
      → (name : List ℕ) (es fs : List (K × X)) → AllZip (λ p q. C p.0 q.0 × D p.1 q.1) es fs → lookup (has name) fs ≡ lookup (has name) es
  lookup_same keys values name [] [] zip = refl
  lookup_same keys values name [] (f ∷ fs) zip = absurd zip
  lookup_same keys values name (e ∷ es) [] zip = absurd zip
  lookup_same keys values name (e ∷ es) (f ∷ fs) zip =
      λ i. cond (bytes_eq name (keys e.0 f.0 zip.0.0 i)) (Some (values e.1 f.1 zip.0.1 i)) (lookup_same keys values name es fs zip.1 i)
