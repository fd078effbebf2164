-- Each element against all later ones.
use Rattle.std.proofs.Common.{◌≡◌, inl, inr, ℕ, ◌+◌, ◌-◌, ◌<◌, List, length, get_or, drop, take, sym, subst, ap, ◌∙◌, arith}
use Rattle.std.proofs.lemmas.Bool.{cases_lt}
use Rattle.std.proofs.lemmas.List.{get_or-drop, get_or_default, length-drop, take_all}
use Rattle.std.specs.List.{All, AllPairs}

module _ {A : Type 0} (R : A → A → Type 0) (xs : List A) where
  -- each of the first elements goes with all later ones
  abbrev pub FirstPairs : ℕ → Type 0
  FirstPairs n = (i j : ℕ) (d : A) → i < n → i < j → j < length xs → R (get_or xs i d) (get_or xs j d)

  module _ (i : ℕ) (e : A) (here : i < length xs) where
    -- those behind an element, as a slice gives them
    abbrev behind : List A
    behind = take (length xs - (i + 1)) (drop (i + 1) xs)

    all_behind : behind ≡ drop (i + 1) xs
    all_behind = take_all (length xs - (i + 1)) (drop (i + 1) xs) (let count = length-drop (i + 1) xs in omega (arith, count))

    at_later : All (R (get_or xs i e)) (drop (i + 1) xs) → (j : ℕ) (d : A) → i < j → j < length xs → R (get_or xs i d) (get_or xs j d)
    at_later each j d less below =
        let place : i + 1 + (j - (i + 1)) ≡ j = omega arith in
        let count = length-drop (i + 1) xs in
        let one : R (get_or xs i e) (get_or (drop (i + 1) xs) (j - (i + 1)) d) = each (j - (i + 1)) d (omega (arith, count)) in
        subst (λ x. R x (get_or xs j d)) (get_or_default xs i e d here)
        (subst (R (get_or xs i e)) (get_or-drop (i + 1) xs (j - (i + 1)) d ∙ ap (λ k. get_or xs k d) place) one)

    pub first_more : FirstPairs i → All (R (get_or xs i e)) behind → FirstPairs (i + 1)
    first_more so_far each k j d few less below =
        elim (cases_lt k i) [
          | inl before ↦ so_far k j d before less below
          | inr after ↦
              let same : i ≡ k = omega arith in
              subst (λ m. R (get_or xs m d) (get_or xs j d)) same (at_later (subst (All (R (get_or xs i e))) all_behind each) j d (omega arith) below)
        ]

    pub pairs_behind : AllPairs R xs → All (R (get_or xs i e)) behind
    pairs_behind pairs =
        subst (All (R (get_or xs i e))) (sym all_behind) (λ k d below.
        let count = length-drop (i + 1) xs in
        subst (λ x. R x (get_or (drop (i + 1) xs) k d)) (get_or_default xs i d e here)
        (subst (R (get_or xs i d)) (sym (get_or-drop (i + 1) xs k d)) (pairs i (i + 1 + k) d (omega arith) (omega (arith, count)))))
