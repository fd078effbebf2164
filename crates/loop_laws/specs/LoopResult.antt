-- What the loop of a function makes of a tuple, by finitely many turns.
use Rattle.std.specs.Prelude.{◌≡◌, Bool, List, [], ◌∷◌, ◌++◌}
use Rattle.fun_expr.specs.Function.{Function, fun_value}
use Rattle.circuits.specs.PortTokens.{Token}
use Rattle.loop_laws.specs.Polarity.{back_bit, exit_bit}

-- the function gives a tuple and a bit behind it, which says whether the loop ends with that tuple or goes on with it
pub data FunctionLoops (fun : Function) (goes_back : Bool) : Token → Token → Type 0 where
  ends_with : (tuple next : Token) → fun_value fun tuple ≡ next ++ exit_bit goes_back ∷ [] → FunctionLoops fun goes_back tuple next
  goes_on : (tuple next result : Token) → fun_value fun tuple ≡ next ++ back_bit goes_back ∷ [] → FunctionLoops fun goes_back next result →
      FunctionLoops fun goes_back tuple result

-- the loop makes of each of these tuples the result at the same place
abbrev pub EachLoops : Function → Bool → List Token → List Token → Type 0
EachLoops fun goes_back [] [] = Unit {0}
EachLoops fun goes_back (tuple ∷ tuples) (result ∷ results) = FunctionLoops fun goes_back tuple result × EachLoops fun goes_back tuples results
EachLoops fun goes_back _ _ = ⊥
