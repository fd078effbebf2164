-- What stands at a port of a list.
use Rattle.std.proofs.Common.{◌≡◌, ◌∙◌, ap, ℕ, zero, suc, ◌-◌, ◌≤◌, ◌<◌, List, [], ◌∷◌, length, get_or, map, Some, IsSome, replicate, refl, sym, true≢false, arith}
use Rattle.std.specs.Option.{option_map}
use Rattle.components.specs.Name.{port_get}

suc_get : {A : Type 0} (xs : List A) (j : ℕ) (x : A) → j < length xs → port_get xs (suc j) ≡ Some (get_or xs j x)
suc_get [] j d below = absurd (omega (arith, below))
suc_get (x ∷ xs) zero d below = refl
suc_get (x ∷ xs) (suc j) d below = suc_get xs j d (omega (arith, below))

pub port_get-get_or : {A : Type 0} (xs : List A) (i : ℕ) (x : A) → 1 ≤ i → i ≤ length xs → port_get xs i ≡ Some (get_or xs (i - 1) x)
port_get-get_or xs i x some few =
    let same : suc (i - 1) ≡ i = omega (arith, some) in
    ap (port_get xs) (sym same) ∙ suc_get xs (i - 1) x (omega (arith, some, few))

pub port_get-map : {A B : Type 0} (f : A → B) (xs : List A) (i : ℕ) → port_get (map f xs) i ≡ option_map f (port_get xs i)
port_get-map f [] i = refl
port_get-map f (x ∷ xs) zero = refl
port_get-map f (x ∷ xs) (suc zero) = refl
port_get-map f (x ∷ xs) (suc (suc i)) = port_get-map f xs (suc i)

-- where all ports have one shape, each port has it
pub port_get-same : {A : Type 0} (n i : ℕ) (x : A) → IsSome (port_get (replicate n x) i) → port_get (replicate n x) i ≡ Some x
port_get-same zero i x is_there = absurd (true≢false (sym is_there))
port_get-same (suc n) zero x is_there = absurd (true≢false (sym is_there))
port_get-same (suc n) (suc zero) x is_there = refl
port_get-same (suc n) (suc (suc i)) x is_there = port_get-same n (suc i) x is_there
