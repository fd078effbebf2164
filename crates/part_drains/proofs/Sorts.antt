-- Small lemmas on kinds, ports and lists.
use Rattle.std.proofs.Common.{◌≡◌, ◌⊎◌, inl, inr, refl, sym, ℕ, zero, suc, true, false, true≢false, Bool, List, [], ◌∷◌, ◌++◌, Option, Some, None}
use Rattle.components.specs.declared.kind.Kind.{Kind}
use Rattle.components.specs.declared.kind.Kind.TheVariants.{Entry, Exit}
use Rattle.components.specs.Name.{Name, Port, port_get}
use Rattle.components.specs.Kind.{Shape}
use Rattle.circuits.specs.PortTokens.{Token}
use Rattle.circuits.specs.Replacing.{is_inner}

-- the three sorts of kinds
pub data View : Kind → Type 0 where
  entry : (a : Shape) → View (Entry a)
  exit : (a : Shape) → View (Exit a)
  inner : {k : Kind} → is_inner (Some k) ≡ true → View k

pub view : (k : Kind) → View k
view (Entry a) = entry a
view (Exit a) = exit a
view _ = inner refl

pub inner_some_at : (o : Option Kind) → is_inner o ≡ true → (k : Kind) × (o ≡ Some k) × (is_inner (Some k) ≡ true)
inner_some_at None e = absurd (true≢false (sym e))
inner_some_at (Some k) e = (k, refl, e)

pub bool_cases : (b : Bool) → (b ≡ true) ⊎ (b ≡ false)
bool_cases true = inl refl
bool_cases false = inr refl

-- port i of a node
abbrev pub port_of : Name → ℕ → Port
port_of n i = record { node = n; port = i }

pub single_port : (a x : Shape) (i : ℕ) → port_get (a ∷ []) i ≡ Some x → i ≡ 1
single_port a x zero e = let k : None ≡ Some x = e in cc
single_port a x (suc zero) e = refl
single_port a x (suc (suc i)) e = let k : None ≡ Some x = e in cc

pub no_right : (xs ys : List Token) → xs ++ ys ≡ [] → ys ≡ []
no_right [] ys e = e
no_right (x ∷ xs) ys e = absurd (let k : x ∷ (xs ++ ys) ≡ [] = e in let z : ⊥ = cc in z)
