-- The bytes of an item as it grows.
use Rattle.std.proofs.Common.{◌≡◌, ℕ, ◌+◌, ◌-◌, ◌<◌, ◌≤◌, sym, ap, ◌∙◌, List, [], ◌∷◌, ◌++◌, length, take, drop, get_or, slice_range, arith, length-drop}
use Rattle.std.proofs.lemmas.Grind.{common_steps}
use Rattle.std.proofs.lemmas.List.{take_more, get_or-drop, drop-drop}
use Rattle.std.proofs.Math.Seq.{take-add}

pub slice_none : (bytes : List ℕ) (p : ℕ) → slice_range bytes p p ≡ []
slice_none bytes p = grind (arith, common_steps)

pub slice_more : (bytes : List ℕ) (p q : ℕ) → p ≤ q → q < length bytes → slice_range bytes p (q + 1) ≡ slice_range bytes p q ++ get_or bytes q 0 ∷ []
slice_more bytes p q h l =
    let n : q + 1 - p ≡ q - p + 1 = omega arith in
    let within : q - p < length (drop p bytes) = omega (arith, length-drop p bytes) in
    let there : p + (q - p) ≡ q = omega arith in
    ap (λ k. take k (drop p bytes)) n ∙ take_more (drop p bytes) (q - p) 0 within
    ∙ ap (λ b. take (q - p) (drop p bytes) ++ b ∷ []) (get_or-drop p bytes (q - p) 0 ∙ ap (λ k. get_or bytes k 0) there)

pub slice_length : (bytes : List ℕ) (p q : ℕ) → p ≤ q → q ≤ length bytes → p + length (slice_range bytes p q) ≡ q
slice_length bytes p q h l = grind (arith, common_steps)

pub slice_join : (bytes : List ℕ) (p q r : ℕ) → p ≤ q → q ≤ r → slice_range bytes p q ++ slice_range bytes q r ≡ slice_range bytes p r
slice_join bytes p q r h l =
    let there : p + (q - p) ≡ q = omega arith in
    let n : (q - p) + (r - q) ≡ r - p = omega arith in
    ap (λ z. take (q - p) (drop p bytes) ++ take (r - q) z) (ap (λ k. drop k bytes) (sym there) ∙ sym (drop-drop (q - p) p bytes))
    ∙ sym (take-add (q - p) (r - q) (drop p bytes))
    ∙ ap (λ k. take k (drop p bytes)) n

pub slice_first : (bytes : List ℕ) (p : ℕ) → p < length bytes → slice_range bytes p (p + 1) ≡ get_or bytes p 0 ∷ []
slice_first bytes p l = slice_more bytes p p (omega arith) l ∙ ap (λ z. z ++ get_or bytes p 0 ∷ []) (slice_none bytes p)

pub drop_whole : (bytes : List ℕ) (p : ℕ) → p ≡ length bytes → drop p bytes ≡ []
drop_whole bytes p e = grind (arith, common_steps)
