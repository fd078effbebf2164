-- A tree of values under keys behind references holds the entries of a map, one by one.
use Rattle.std.proofs.Common.{◌≡◌, ℕ, List, [], ◌∷◌, map, Bor, refl, sym, ap, subst, ◌∙◌}
use Rattle.std.specs.Ordering.{nat_cmp, match_ordering}
use Rattle.std.specs.Cmp.Lexicographic.{slice_cmp}
use Rattle.std.specs.declared.cmp.Ordering.{Ordering}
use Rattle.std.specs.declared.cmp.Ordering.TheVariants.{Less, Equal, Greater}
use Rattle.std.specs.BTreeMap.{insert_entry}
use Rattle.std.specs.FinMap.Entries.{put, by_order}
use Rattle.components.specs.Name.{name_cmp}
use Rattle.components.specs.Orders.{name_same}

-- the order of keys behind references
abbrev pub ref_cmp : Bor (List ℕ) → Bor (List ℕ) → Ordering
ref_cmp a b = slice_cmp nat_cmp a.now b.now

-- a value of the tree stands for an entry where it is seen as the entry is shown
module _ {T X Y : Type 0} (seen : T → Y) (shown : List ℕ × X → Y) where
  -- the keys are those of the entries, and the values stand for the entries
  abbrev pub Matches : List (Bor (List ℕ) × T) → List (List ℕ × X) → Type 0
  Matches [] [] = Unit {0}
  Matches [] (e ∷ es) = ⊥
  Matches (x ∷ xs) [] = ⊥
  Matches (x ∷ xs) (e ∷ es) = (x.0.now ≡ e.0) × (seen x.1 ≡ shown e) × Matches xs es

  pub Matches-values : (xs : List (Bor (List ℕ) × T)) (es : List (List ℕ × X)) → Matches xs es → map seen (map (λ x. x.1) xs) ≡ map shown es
  Matches-values [] [] m = refl
  Matches-values [] (e ∷ es) m = absurd m
  Matches-values (x ∷ xs) [] m = absurd m
  Matches-values (x ∷ xs) (e ∷ es) m = λ i. m.1 i ∷ Matches-values xs es m.2 i

  pub Matches-insert : (key : Bor (List ℕ)) (t : T) (v : X) → seen t ≡ shown (key.now, v) → (xs : List (Bor (List ℕ) × T)) (es : List (List ℕ × X)) → Matches xs es → Matches (insert_entry ref_cmp xs key t) (put name_cmp key.now v es)
  Matches-insert key t v is [] [] m = (refl, is, tt)
  Matches-insert key t v is [] (e ∷ es) m = absurd m
  Matches-insert key t v is (x ∷ xs) [] m = absurd m
  Matches-insert key t v is (x ∷ xs) (e ∷ es) m =
      subst (λ o. Matches (match_ordering o ((key, t) ∷ x ∷ xs) ((x.0, t) ∷ xs) (x ∷ insert_entry ref_cmp xs key t)) (put name_cmp key.now v (e ∷ es)))
      (ap (name_cmp key.now) (sym m.0))
      (at (Matches-insert key t v is xs es m.2) (name_cmp key.now e.0) refl)
    where
      at : Matches (insert_entry ref_cmp xs key t) (put name_cmp key.now v es) → (o : Ordering) → name_cmp key.now e.0 ≡ o
          → Matches (match_ordering o ((key, t) ∷ x ∷ xs) ((x.0, t) ∷ xs) (x ∷ insert_entry ref_cmp xs key t)) (by_order o ((key.now, v) ∷ e ∷ es) ((e.0, v) ∷ es) (e ∷ put name_cmp key.now v es))
      at more Less is_less = (refl, is, m)
      at more Equal is_equal = (m.0, is ∙ ap (λ k. shown (k, v)) (name_same key.now e.0 is_equal), m.2)
      at more Greater is_greater = (m.0, m.1, more)
