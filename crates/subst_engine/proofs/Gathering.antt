-- Lists that are gathered stage by stage: the first, and one stage more.
use Rattle.std.proofs.Common.{◌≡◌, ◌⊎◌, inl, inr, List, [], ◌∷◌, ◌++◌, get_or, refl, sym, subst, arith}
use Rattle.std.proofs.lemmas.List.Elements.{Contains-get_or}
use Rattle.std.proofs.lemmas.List.Quantifiers.{all_pairs_push}
use Rattle.circuits.specs.Replacing.{In, head, tail}
use Rattle.subst_engine.specs.Gathered.{Gathered}
use Rattle.subst_engine.proofs.ManyChanges.{in_where_contained}

module _ {A : Type 0} where
  in_front : (xs : List A) (y x : A) → In x xs → In x (xs ++ y ∷ [])
  in_front [] y x there = elim there [ ]
  in_front (z ∷ xs) y x (head is) = head is
  in_front (z ∷ xs) y x (tail there) = tail (in_front xs y x there)

  in_last : (xs : List A) (y : A) → In y (xs ++ y ∷ [])
  in_last [] y = head refl
  in_last (z ∷ xs) y = tail (in_last xs y)

  in_pushed : (xs : List A) (y x : A) → In x (xs ++ y ∷ []) → In x xs ⊎ (x ≡ y)
  in_pushed [] y x (head is) = inr is
  in_pushed [] y x (tail there) = elim there [ ]
  in_pushed (z ∷ xs) y x (head is) = inl (head is)
  in_pushed (z ∷ xs) y x (tail there) = elim (in_pushed xs y x there) [
    | inl front ↦ inl (tail front)
    | inr last ↦ inr last
  ]

module _ {S A : Type 0} (Gives : S → A → Type 0) (Differ : A → A → Type 0) where
  pub none_gathered : (Done : S → Type 0) → ((s : S) → ¬ (Done s)) → Gathered Done Gives Differ []
  none_gathered Done none = record {
    are = λ x there. elim there [ ];
    each = λ s done. absurd (none s done);
    once = λ i j d less below. absurd (omega arith);
  }

  module _ (Done More : S → Type 0) (kept : (s : S) → Done s → More s) (xs : List A) (gathered : Gathered Done Gives Differ xs) where
    -- a stage that gives nothing is none
    pub gather_none : ((s : S) → More s → Done s) → Gathered More Gives Differ xs
    gather_none back = record {
      are = λ x there. let (s, done, gives) = gathered.are x there in (s, kept s done, gives);
      each = λ s more. gathered.each s (back s more);
      once = gathered.once;
    }

    -- one stage more, which gives this
    pub gather_one : (t : S) (y : A) → More t → Gives t y → ((s : S) → More s → Done s ⊎ (s ≡ t)) → ((s : S) (x : A) → Done s → Gives s x → Differ x y) → Gathered More Gives Differ (xs ++ y ∷ [])
    gather_one t y now gives back apart = record {
      are = λ x there. elim (in_pushed xs y x there) [
        | inl front ↦ let (s, done, given) = gathered.are x front in (s, kept s done, given)
        | inr last ↦ (t, now, subst (Gives t) (sym last) gives)
      ];
      each = λ s more. elim (back s more) [
        | inl done ↦ let (x, there, given) = gathered.each s done in (x, in_front xs y x there, given)
        | inr same ↦ (y, in_last xs y, subst (λ r. Gives r y) (sym same) gives)
      ];
      once = all_pairs_push Differ xs y gathered.once (λ k d below.
          let (s, done, given) = gathered.are (get_or xs k d) (in_where_contained _ xs (Contains-get_or xs k d below)) in
          apart s (get_or xs k d) done given);
    }
