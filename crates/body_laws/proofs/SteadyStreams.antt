-- slices of streams: a wire holds what its producer has given and its consumer has not taken
use Rattle.std.proofs.Common.{◌≡◌, ℕ, zero, suc, ◌<◌, ◌≤◌, refl, sym, ap, List, [], ◌∷◌, ◌++◌, length, arith}
use Rattle.body_laws.proofs.Tokens.{zeros_fit}
use Rattle.circuits.specs.PortTokens.{Token, one}
use Rattle.components.specs.Kind.{Shape}
use Rattle.port_types.specs.Token.{Fits}

-- the tokens from place lo to place hi of the stream f
abbrev pub Slice : (ℕ → Token) → ℕ → List Token → ℕ → Type 0
Slice f lo [] hi = lo ≡ hi
Slice f lo (v ∷ vs) hi = (f lo ≡ v) × Slice f (suc lo) vs hi

pub slice_le : (f : ℕ → Token) (lo : ℕ) (vs : List Token) (hi : ℕ) → Slice f lo vs hi → lo ≤ hi
slice_le f lo [] hi h = omega (arith, h)
slice_le f lo (v ∷ vs) hi h = let k : suc lo ≤ hi = slice_le f (suc lo) vs hi h.1 in omega (arith, k)

pub slice_lt : (f : ℕ → Token) (lo : ℕ) (v : Token) (vs : List Token) (hi : ℕ) → Slice f lo (v ∷ vs) hi → lo < hi
slice_lt f lo v vs hi h = slice_le f (suc lo) vs hi h.1

pub slice_more : (f : ℕ → Token) (lo : ℕ) (vs : List Token) (hi : ℕ) → Slice f lo vs hi → Slice f lo (vs ++ one (f hi)) (suc hi)
slice_more f lo [] hi h = (ap f h, ap suc h)
slice_more f lo (v ∷ vs) hi h = (h.0, slice_more f (suc lo) vs hi h.1)

-- a wire whose consumer is behind its producer holds a token
pub record Front (f : ℕ → Token) (lo : ℕ) (vs : List Token) (hi : ℕ) : Type 0 where
  pub later : List Token
  pub is : vs ≡ f lo ∷ later

pub slice_front : (f : ℕ → Token) (lo : ℕ) (vs : List Token) (hi : ℕ) → Slice f lo vs hi → lo < hi → Front f lo vs hi
slice_front f lo [] hi h lt = absurd (omega (arith, h, lt))
slice_front f lo (v ∷ vs) hi h lt = record { later = vs; is = ap (λ z. z ∷ vs) (sym h.0) }

pub slice_empty : (f : ℕ → Token) (n : ℕ) (vs : List Token) → Slice f n vs n → vs ≡ []
slice_empty f n [] h = refl
slice_empty f n (v ∷ vs) h = absurd (let k : n < n = slice_lt f n v vs n h in omega (arith, k))

-- a token of a shape
pub record Fitting (a : Shape) : Type 0 where
  pub token : Token
  pub fits : Fits a token

-- the stream goes on from these tokens
abbrev pub Begins : {a : Shape} → List (Fitting a) → (ℕ → Fitting a) → Type 0
Begins [] f = Unit {0}
Begins (x ∷ xs) f = (f 0 ≡ x) × Begins xs (λ k. f (suc k))

abbrev pub zeros_of : (a : Shape) → Fitting a
zeros_of a = record { token = _; fits = zeros_fit a }

-- one such stream
abbrev pub padded : {a : Shape} → List (Fitting a) → ℕ → Fitting a
padded {a = a} [] k = zeros_of a
padded (x ∷ xs) zero = x
padded (x ∷ xs) (suc k) = padded xs k

pub padded_begins : {a : Shape} (xs : List (Fitting a)) → Begins xs (padded xs)
padded_begins [] = tt
padded_begins (x ∷ xs) = (refl, padded_begins xs)

pub begins_more : {a : Shape} (xs : List (Fitting a)) (x : Fitting a) (f : ℕ → Fitting a) → Begins (xs ++ x ∷ []) f → Begins xs f × (f (length xs) ≡ x)
begins_more [] x f h = (tt, h.0)
begins_more (y ∷ xs) x f h = let k = begins_more xs x (λ k. f (suc k)) h.1 in ((h.0, k.0), k.1)

pub length_more : {A : Type 0} (xs : List A) (x : A) → length (xs ++ x ∷ []) ≡ suc (length xs)
length_more [] x = refl
length_more (y ∷ xs) x = ap suc (length_more xs x)
