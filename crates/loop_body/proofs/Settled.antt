-- Binding one expression after the other.
use Rattle.std.proofs.Common.{◌≡◌, ℕ, zero, suc, subst, ◌+◌, List, [], ◌∷◌, ◌++◌, take, drop, ap, sym, ◌∙◌, arith, append_assoc}
use Rattle.fun_expr.specs.declared.expr.Expr.{Expr}
use Rattle.loop_body.specs.BodyFunction.{Places, place_then, settled}
use Rattle.loop_body.specs.Binding.{IsBound, behind, IsSettled}
use Rattle.loop_body.proofs.Lists.{append_nil}

behind_then : (places : List ℕ) (place : ℕ) (p : Places) → behind places (place_then place p) ≡ behind (places ++ place ∷ []) p
behind_then places place p = ap (λ ns. record { binds = p.binds; places = ns }) (sym (append_assoc places (place ∷ []) p.places))

pub settled_none_at : (fields : ℕ) (binds : List Expr) (places : List ℕ) → places ≡ [] → IsSettled fields binds [] places binds
settled_none_at fields binds places none more = ap (λ ns. record { binds = (settled fields more binds).binds; places = ns ++ (settled fields more binds).places }) (sym none)

pub settled_more : (fields : ℕ) (before es : List Expr) (places : List ℕ) (now : List Expr) (e : Expr) (place : ℕ) (after : List Expr) →
    IsSettled fields before es places now → IsBound fields e now place after → IsSettled fields before (es ++ e ∷ []) (places ++ place ∷ []) after
settled_more fields before es places now e place after so_far bound more =
    ap (λ xs. settled fields xs before) (append_assoc es (e ∷ []) more) ∙ so_far (e ∷ more) ∙ ap (behind places) (bound (settled fields more)) ∙ behind_then places place (settled fields more after)

pub settled_all : (fields : ℕ) (before es wire : List Expr) (places : List ℕ) (after : List Expr) → IsSettled fields before es places after → es ≡ wire → record { binds = after; places = places } ≡ settled fields wire before
settled_all fields before es wire places after so_far all =
    ap (λ ns. record { binds = after; places = ns }) (sym (append_nil places)) ∙ sym (so_far []) ∙ ap (λ xs. settled fields xs before) (append_nil es ∙ all)

-- a list from which the front is taken item by item
next_of : {A : Type 0} (xs rest : List A) (k : ℕ) (x : A) → drop k xs ≡ x ∷ rest → (take (suc k) xs ≡ take k xs ++ x ∷ []) × (drop (suc k) xs ≡ rest)
next_of [] rest zero x h = absurd cc
next_of [] rest (suc k) x h = absurd cc
next_of (y ∷ xs) rest zero x h = (cc, cc)
next_of (y ∷ xs) rest (suc k) x h = let later = next_of xs rest k x h in (ap (λ ys. y ∷ ys) later.0, later.1)

pub next_taken : {A : Type 0} (xs rest : List A) (k : ℕ) (x : A) → drop k xs ≡ x ∷ rest → (take (k + 1) xs ≡ take k xs ++ x ∷ []) × (drop (k + 1) xs ≡ rest)
next_taken xs rest k x h = let e : suc k ≡ k + 1 = omega arith in subst (λ n. (take n xs ≡ take k xs ++ x ∷ []) × (drop n xs ≡ rest)) e (next_of xs rest k x h)
