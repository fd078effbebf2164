-- Lists of lists, cutting, and entries of tables.
use Rattle.std.proofs.Common.{◌≡◌, ℕ, zero, suc, List, [], ◌∷◌, ◌++◌, map, length, take, drop, Some, refl, ap, sym, ◌∙◌}
use Rattle.std.specs.List.{concat}
use Rattle.port_types.specs.Token.{Fits}
use Rattle.components.specs.Kind.{Shape}
use Rattle.circuits.specs.PortTokens.{Token, one}
use Rattle.circuits.specs.Firing.{FitEach}
use Rattle.loop_body.specs.BodyFunction.{cut}

pub some_inj : {A : Type 0} {a b : A} → Some a ≡ Some b → a ≡ b
some_inj e = cc

pub heads : {A : Type 0} {a b : A} {xs ys : List A} → a ∷ xs ≡ b ∷ ys → (a ≡ b) × (xs ≡ ys)
heads h = (cc, cc)

pub ones_inj : (vs ws : List Token) → map one vs ≡ map one ws → vs ≡ ws
ones_inj [] [] h = refl
ones_inj [] (w ∷ ws) h = absurd cc
ones_inj (v ∷ vs) [] h = absurd cc
ones_inj (v ∷ vs) (w ∷ ws) h =
    let e : v ≡ w = (heads (heads h).0).0 in
    ap (λ x. x ∷ vs) e ∙ ap (λ xs. w ∷ xs) (ones_inj vs ws (heads h).1)

pub append_nil : {A : Type 0} (xs : List A) → xs ++ [] ≡ xs
append_nil [] = refl
append_nil (x ∷ xs) = ap (λ ys. x ∷ ys) (append_nil xs)

pub take-front : {A : Type 0} (xs ys : List A) → take (length xs) (xs ++ ys) ≡ xs
take-front [] ys = refl
take-front (x ∷ xs) ys = ap (λ zs. x ∷ zs) (take-front xs ys)

pub drop-front : {A : Type 0} (xs ys : List A) → drop (length xs) (xs ++ ys) ≡ ys
drop-front [] ys = refl
drop-front (x ∷ xs) ys = drop-front xs ys

pub take-drop : {A : Type 0} (n : ℕ) (xs : List A) → take n xs ++ drop n xs ≡ xs
take-drop zero xs = refl
take-drop (suc n) [] = refl
take-drop (suc n) (x ∷ xs) = ap (λ ys. x ∷ ys) (take-drop n xs)

-- tokens and shapes
pub fits_length : (shape : Shape) (v : Token) → Fits shape v → length shape ≡ length v
fits_length [] [] h = refl
fits_length [] (n ∷ v) h = absurd h
fits_length (w ∷ shape) [] h = absurd h
fits_length (w ∷ shape) (n ∷ v) h = ap suc (fits_length shape v h.1)

pub fits_append : (a b : Shape) (v w : Token) → Fits a v → Fits b w → Fits (a ++ b) (v ++ w)
fits_append [] b [] w h k = k
fits_append [] b (n ∷ v) w h k = absurd h
fits_append (x ∷ a) b [] w h k = absurd h
fits_append (x ∷ a) b (n ∷ v) w h k = (h.0, fits_append a b v w h.1 k)

pub fits_take : (a b : Shape) (v : Token) → Fits (a ++ b) v → Fits a (take (length a) v)
fits_take [] b v h = tt
fits_take (x ∷ a) b [] h = absurd h
fits_take (x ∷ a) b (n ∷ v) h = (h.0, fits_take a b v h.1)

pub fits_drop : (a b : Shape) (v : Token) → Fits (a ++ b) v → Fits b (drop (length a) v)
fits_drop [] b v h = h
fits_drop (x ∷ a) b [] h = absurd h
fits_drop (x ∷ a) b (n ∷ v) h = fits_drop a b v h.1

pub fits_concat : (shapes : List Shape) (parts : List Token) → FitEach shapes parts → Fits (concat shapes) (concat parts)
fits_concat [] [] h = tt
fits_concat [] (v ∷ vs) h = absurd h
fits_concat (a ∷ shapes) [] h = absurd h
fits_concat (a ∷ shapes) (v ∷ vs) h = fits_append a (concat shapes) v (concat vs) h.0 (fits_concat shapes vs h.1)

pub cut_fits : (shapes : List Shape) (v : Token) → Fits (concat shapes) v → FitEach shapes (cut shapes v)
cut_fits [] v h = tt
cut_fits (a ∷ shapes) v h = (fits_take a (concat shapes) v h, cut_fits shapes (drop (length a) v) (fits_drop a (concat shapes) v h))

fits_nil : (v : Token) → Fits [] v → v ≡ []
fits_nil [] h = refl
fits_nil (n ∷ v) h = absurd h

pub concat-cut : (shapes : List Shape) (v : Token) → Fits (concat shapes) v → concat (cut shapes v) ≡ v
concat-cut [] v h = sym (fits_nil v h)
concat-cut (a ∷ shapes) v h =
    ap (λ xs. take (length a) v ++ xs) (concat-cut shapes (drop (length a) v) (fits_drop a (concat shapes) v h)) ∙ take-drop (length a) v

pub cut-concat : (shapes : List Shape) (parts : List Token) → FitEach shapes parts → cut shapes (concat parts) ≡ parts
cut-concat [] [] h = refl
cut-concat [] (v ∷ vs) h = absurd h
cut-concat (a ∷ shapes) [] h = absurd h
cut-concat (a ∷ shapes) (v ∷ vs) h =
    let n : length a ≡ length v = fits_length a v h.0 in
    ap (λ k. take k (v ++ concat vs) ∷ cut shapes (drop k (v ++ concat vs))) n ∙
    ap (λ x. x ∷ cut shapes (drop (length v) (v ++ concat vs))) (take-front v (concat vs)) ∙
    ap (λ xs. v ∷ cut shapes xs) (drop-front v (concat vs)) ∙
    ap (λ xs. v ∷ xs) (cut-concat shapes vs h.1)
