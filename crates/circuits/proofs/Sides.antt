-- What a node takes or gives at the ports of a side fits their shapes.
use Rattle.std.proofs.Common.{◌≡◌, ℕ, zero, suc, refl, sym, subst, ◌∙◌, List, [], ◌∷◌, Some, None}
use Rattle.std.specs.List.{AllByRecursion}
use Rattle.std.proofs.lemmas.Option.{same_Some}
use Rattle.port_types.specs.Token.{Fits}
use Rattle.components.specs.declared.kind.Kind.{Kind}
use Rattle.components.specs.Name.{port_get}
use Rattle.components.specs.Kind.{Shape, outs}
use Rattle.circuits.specs.PortTokens.{Token, at_port}
use Rattle.circuits.specs.CircuitState.{Slot, SlotFits, TagsDiffer}

-- what stands at each port of a side fits its shape: by port, and by recursion
abbrev pub PortsFit : List Shape → List (List Token) → Type 0
PortsFit bs side = (i : ℕ) (b : Shape) → port_get bs i ≡ Some b → AllByRecursion (Fits b) (at_port side i)

abbrev pub SideFits : List Shape → List (List Token) → Type 0
SideFits [] side = Unit {0}
SideFits (b ∷ bs) [] = Unit {0}
SideFits (b ∷ bs) (x ∷ xs) = AllByRecursion (Fits b) x × SideFits bs xs

pub port_zero : {A : Type 0} (xs : List A) → port_get xs 0 ≡ None
port_zero [] = refl
port_zero (x ∷ xs) = refl

side_of_tail : (bs : List Shape) (xs : List (List Token)) (b : Shape) (x : List Token) → PortsFit (b ∷ bs) (x ∷ xs) → (i : ℕ) (a : Shape) → port_get bs i ≡ Some a → AllByRecursion (Fits a) (at_port xs i)
side_of_tail bs xs b x h zero a e = let k : None ≡ Some a = sym (port_zero bs) ∙ e in cc
side_of_tail bs xs b x h (suc i) a e = h (suc (suc i)) a e

pub side_of : (bs : List Shape) (side : List (List Token)) → PortsFit bs side → SideFits bs side
side_of [] side h = tt
side_of (b ∷ bs) [] h = tt
side_of (b ∷ bs) (x ∷ xs) h = (h 1 b refl, side_of bs xs (side_of_tail bs xs b x h))

pub ports_of : (bs : List Shape) (side : List (List Token)) → SideFits bs side → PortsFit bs side
ports_of bs [] h i a e = tt
ports_of [] (x ∷ xs) h i a e = let k : None ≡ Some a = e in cc
ports_of (b ∷ bs) (x ∷ xs) h zero a e = tt
ports_of (b ∷ bs) (x ∷ xs) h (suc zero) a e = subst (λ z. AllByRecursion (Fits z) x) (same_Some b a e) h.0
ports_of (b ∷ bs) (x ∷ xs) h (suc (suc i)) a e = ports_of bs xs h.1 (suc i) a e

-- what is given fits, and what stands in the slots fits, with tags that differ
pub record Kept (k : Kind) (given : List (List Token)) (new : List Slot) : Type 0 where
  pub side : SideFits (outs k) given
  pub slots : AllByRecursion (SlotFits k) new
  pub tags : TagsDiffer new
