-- The fields of shapes that stand one after another, and shapes with the same fields.
use Rattle.std.proofs.Common.{◌≡◌, ◌∙◌, ℕ, zero, suc, ◌+◌, ◌-◌, ◌<◌, ◌≤◌, List, [], ◌∷◌, ◌++◌, length, drop, get_or, slice_get, Option, Some, None, IsSome, Bool, true, false, true≢false, refl, sym, ap, arith}
use Rattle.std.proofs.Math.Seq.{drop-cons}
use Rattle.std.specs.Prelude.{nat_lt}
use Rattle.std.proofs.lemmas.Bool.{ltb-true, ltb-false}
use Rattle.std.proofs.lemmas.List.{length-append}
use Rattle.std.specs.List.{concat}
use Rattle.std.proofs.lemmas.Option.{same_Some, none-some}
use Rattle.components.specs.Fields.{field_of}

slice_get-left : (xs ys : List ℕ) (k : ℕ) → k < length xs → slice_get (xs ++ ys) k ≡ slice_get xs k
slice_get-left [] ys k below = absurd (omega (arith, below))
slice_get-left (x ∷ xs) ys zero below = refl
slice_get-left (x ∷ xs) ys (suc k) below = slice_get-left xs ys k (omega (arith, below))

slice_get-right : (xs ys : List ℕ) (k j : ℕ) → j ≡ length xs + k → slice_get (xs ++ ys) j ≡ slice_get ys k
slice_get-right [] ys k j e = ap (slice_get ys) (omega (arith, e))
slice_get-right (x ∷ xs) ys k zero e = absurd (omega (arith, e))
slice_get-right (x ∷ xs) ys k (suc j) e = slice_get-right xs ys k j (omega (arith, e))

-- the first of the shapes from this one on, and the others
next : (shapes : List (List ℕ)) (i : ℕ) (shape : List ℕ) → i < length shapes → shape ≡ get_or shapes i shape → concat (drop i shapes) ≡ shape ++ concat (drop (i + 1) shapes)
next shapes i shape below is =
    let more : suc i ≡ i + 1 = omega arith in
    ap concat (drop-cons shapes i shape below) ∙ (λ j. sym is j ++ concat (drop (more j) shapes))

pub field_here : (shapes : List (List ℕ)) (i k : ℕ) (shape : List ℕ) → i < length shapes → shape ≡ get_or shapes i shape → k < length shape → slice_get (concat (drop i shapes)) k ≡ slice_get shape k
field_here shapes i k shape below is within = ap (λ xs. slice_get xs k) (next shapes i shape below is) ∙ slice_get-left shape (concat (drop (i + 1) shapes)) k within

pub field_later : (shapes : List (List ℕ)) (i k : ℕ) (shape : List ℕ) → i < length shapes → shape ≡ get_or shapes i shape → length shape ≤ k → slice_get (concat (drop i shapes)) k ≡ slice_get (concat (drop (i + 1) shapes)) (k - length shape)
field_later shapes i k shape below is past =
    let same : k ≡ length shape + (k - length shape) = omega (arith, past) in
    ap (λ xs. slice_get xs k) (next shapes i shape below is) ∙ slice_get-right shape (concat (drop (i + 1) shapes)) (k - length shape) k same

-- two lists of at most n fields with the same fields are one
pub same_fields : (n : ℕ) (xs ys : List ℕ) → length xs ≤ n → length ys ≤ n → ((k : ℕ) → k < n → slice_get xs k ≡ slice_get ys k) → xs ≡ ys
same_fields n [] [] few also same = refl
same_fields zero (x ∷ xs) ys few also same = absurd (omega (arith, few))
same_fields zero [] (y ∷ ys) few also same = absurd (omega (arith, also))
same_fields (suc n) [] (y ∷ ys) few also same = let e : None ≡ Some y = same 0 (omega arith) in cc
same_fields (suc n) (x ∷ xs) [] few also same = let e : Some x ≡ None = same 0 (omega arith) in cc
same_fields (suc n) (x ∷ xs) (y ∷ ys) few also same =
    let e : Some x ≡ Some y = same 0 (omega arith) in
    let rest = same_fields n xs ys (omega (arith, few)) (omega (arith, also)) (λ k below. same (suc k) (omega (arith, below))) in
    λ i. same_Some _ _ e i ∷ rest i

past_none : (xs : List ℕ) (n : ℕ) → None ≡ slice_get xs n → length xs ≤ n
past_none [] n e = omega arith
past_none (x ∷ xs) zero e = absurd (none-some _ e)
past_none (x ∷ xs) (suc n) e = let rest = past_none xs n e in omega (arith, rest)

-- all fields of the shape have been read
pub read_all : (o : Option (List ℕ)) (n : ℕ) (widths : List ℕ) → IsSome o → length widths ≡ n → ((k : ℕ) → k < n → field_of o k ≡ slice_get widths k) → ((shape : List ℕ) → o ≡ Some shape → length shape ≤ n) → o ≡ Some widths
read_all None n widths is_there count same few = absurd (true≢false (sym is_there))
read_all (Some shape) n widths is_there count same few = ap Some (same_fields n shape widths (few shape refl) (omega (arith, count)) same)

pub few_fields : (o : Option (List ℕ)) (n : ℕ) → None ≡ field_of o n → (shape : List ℕ) → o ≡ Some shape → length shape ≤ n
few_fields o n e shape is = past_none shape n (e ∙ ap (λ x. field_of x n) is)

-- two shapes of at most n fields with the same fields are one
pub same_shapes : (o p : Option (List ℕ)) (n : ℕ) → IsSome o → IsSome p → ((shape : List ℕ) → o ≡ Some shape → length shape ≤ n) → ((shape : List ℕ) → p ≡ Some shape → length shape ≤ n) → ((k : ℕ) → k < n → field_of o k ≡ field_of p k) → o ≡ p
same_shapes None p n some also few short same = absurd (true≢false (sym some))
same_shapes (Some a) None n some also few short same = absurd (true≢false (sym also))
same_shapes (Some a) (Some b) n some also few short same = ap Some (same_fields n a b (few a refl) (short b refl) same)

after : (o : Option (List ℕ)) (widths : List ℕ) (n width : ℕ) → length widths ≡ n → ((k : ℕ) → k < n → field_of o k ≡ slice_get widths k) → Some width ≡ field_of o n → (k : ℕ) → k < n + 1 → (b : Bool) → nat_lt k n ≡ b → field_of o k ≡ slice_get (widths ++ width ∷ []) k
after o widths n width count same e k below true is = let less : k < n = ltb-true k n is in same k less ∙ sym (slice_get-left widths (width ∷ []) k (omega (arith, less, count)))
after o widths n width count same e k below false is =
    let last : n ≡ k = omega (arith, below, ltb-false k n is) in
    ap (field_of o) (sym last) ∙ sym e ∙ sym (slice_get-right widths (width ∷ []) 0 k (omega (arith, last, count)))

-- one field more has been read
pub one_more : (o : Option (List ℕ)) (widths more : List ℕ) (n width : ℕ) → length widths ≡ n → ((k : ℕ) → k < n → field_of o k ≡ slice_get widths k) → Some width ≡ field_of o n → more ≡ widths ++ width ∷ [] →
    (length more ≡ n + 1) × ((k : ℕ) → k < n + 1 → field_of o k ≡ slice_get more k)
one_more o widths more n width count same e is =
    (ap length is ∙ length-append widths (width ∷ []) ∙ ap (λ m. m + 1) count, λ k below. after o widths n width count same e k below (nat_lt k n) refl ∙ ap (λ xs. slice_get xs k) (sym is))
