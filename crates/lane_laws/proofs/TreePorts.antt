-- Forks and Buffers give at each output what they take.
use Rattle.std.proofs.Common.{◌≡◌, ℕ, zero, suc, refl, replicate, [], ◌∷◌, Some, None}
use Rattle.components.specs.Name.{port_get}
use Rattle.components.specs.Kind.{Shape}
use Rattle.circuits.specs.PortTokens.{Token, at_port, one}

pub fork_port : (k : ℕ) (a b : Shape) (v : Token) (i : ℕ) → port_get (replicate k a) i ≡ Some b → at_port (replicate k (one v)) i ≡ one v
fork_port zero a b v i e = let z : None ≡ Some b = e in cc
fork_port (suc k) a b v zero e = let z : None ≡ Some b = e in cc
fork_port (suc k) a b v (suc zero) e = refl
fork_port (suc k) a b v (suc (suc i)) e = fork_port k a b v (suc i) e

pub single_at : (a b : Shape) (v : Token) (i : ℕ) → port_get (a ∷ []) i ≡ Some b → at_port (one v ∷ []) i ≡ one v
single_at a b v zero e = let z : None ≡ Some b = e in cc
single_at a b v (suc zero) e = refl
single_at a b v (suc (suc i)) e = let z : None ≡ Some b = e in cc
