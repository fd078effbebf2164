-- The turns of a loop, and what it ends with.
use Rattle.std.proofs.Common.{◌≡◌, ℕ, Bool, List, [], ◌∷◌}
use Rattle.fun_expr.specs.Function.{Function, fun_value}
use Rattle.circuits.specs.PortTokens.{Token}
use Rattle.loop_laws.specs.Polarity.{back_bit, exit_bit}

-- a token without its last number, and that number
abbrev pub all_but_last : Token → Token
all_but_last [] = []
all_but_last (x ∷ []) = []
all_but_last (x ∷ y ∷ ys) = x ∷ all_but_last (y ∷ ys)

abbrev pub last_number : Token → ℕ
last_number [] = 0
last_number (x ∷ []) = x
last_number (x ∷ y ∷ ys) = last_number (y ∷ ys)

-- what a turn makes of a tuple: the next tuple, and the condition
abbrev pub next : Function → Token → Token
next fun v = all_but_last (fun_value fun v)

abbrev pub condition : Function → Token → ℕ
condition fun v = last_number (fun_value fun v)

-- begun with this tuple, the loop ends with y, after finitely many turns
pub data Loops (fun : Function) (goes_back : Bool) (y : Token) : Token → Type 0 where
  ends : {v : Token} → condition fun v ≡ exit_bit goes_back → next fun v ≡ y → Loops fun goes_back y v
  turns : {v : Token} → condition fun v ≡ back_bit goes_back → Loops fun goes_back y (next fun v) → Loops fun goes_back y v

-- begun with each of these in turn, the loop ends with each of those
abbrev pub LoopsAll : Function → Bool → List Token → List Token → Type 0
LoopsAll f d [] [] = Unit {0}
LoopsAll f d [] (y ∷ ys) = ⊥
LoopsAll f d (x ∷ xs) [] = ⊥
LoopsAll f d (x ∷ xs) (y ∷ ys) = Loops f d y x × LoopsAll f d xs ys
