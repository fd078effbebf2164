-- The ports of a side, one after the other.
use Rattle.std.proofs.Common.{◌≡◌, ℕ, zero, suc, ◌-◌, ◌≤◌, List, [], ◌∷◌, ◌++◌, length, take, Some, None, IsSome, refl, ap, arith}
use Rattle.components.specs.Name.{port_get}

-- a port whose number is within the side is there
pub port_get-within : {A : Type 0} (xs : List A) (number : ℕ) → 1 ≤ number → number ≤ length xs → IsSome (port_get xs number)
port_get-within [] number some few = absurd (omega arith)
port_get-within (x ∷ xs) zero some few = absurd (omega arith)
port_get-within (x ∷ xs) (suc zero) some few = refl
port_get-within (x ∷ xs) (suc (suc i)) some few = port_get-within xs (suc i) (omega arith) (omega arith)

take-port : {A : Type 0} (xs : List A) (i : ℕ) (x : A) → port_get xs (suc i) ≡ Some x → take (suc i) xs ≡ take i xs ++ x ∷ []
take-port [] i x there = cc
take-port (y ∷ ys) zero x there = cc
take-port (y ∷ ys) (suc i) x there = ap (λ rest. y ∷ rest) (take-port ys i x there)

port_get-zero : {A : Type 0} (xs : List A) → port_get xs zero ≡ None
port_get-zero [] = refl
port_get-zero (x ∷ xs) = refl

-- the ports up to one are those before it and the port itself
pub next_port : {A : Type 0} (xs : List A) (number : ℕ) (x : A) → port_get xs number ≡ Some x → take number xs ≡ take (number - 1) xs ++ x ∷ []
next_port xs zero x there = cc (port_get-zero xs)
next_port xs (suc i) x there =
    let same : suc i - 1 ≡ i = omega arith in
    rw same (take-port xs i x there)
