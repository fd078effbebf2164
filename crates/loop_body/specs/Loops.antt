-- What a loop with this body makes of a tuple, by finitely many turns, where it goes back on either bit.
use Rattle.std.specs.Prelude.{◌≡◌, Bool, List}
use Rattle.std.specs.List.{concat}
use Rattle.circuits.specs.PortTokens.{Token}
use Rattle.circuits.specs.Firing.{FitEach}
use Rattle.loop_laws.specs.Polarity.{back_bit, exit_bit}
use Rattle.loop_laws.specs.LoopResult.{FunctionLoops}
use Rattle.loop_body.specs.Body.{Body, IsBody}
use Rattle.loop_body.specs.BodyValue.{Turn}
use Rattle.loop_body.specs.BodyFunction.{body_function}
use Rattle.loop_body.specs.Laws.{next_shapes}

-- a turn with the one bit ends the loop with the next tuple, and one with the other goes on with it
pub data Loops (b : Body) (goes_back : Bool) : List Token → List Token → Type 0 where
  ends : (tuple next : List Token) → Turn b tuple next (exit_bit goes_back) → Loops b goes_back tuple next
  goes_on : (tuple next result : List Token) → Turn b tuple next (back_bit goes_back) → Loops b goes_back next result → Loops b goes_back tuple result

-- the data wires have the shapes of the lanes
abbrev pub ComesBack : Body → Type 0
ComesBack b = next_shapes b ≡ b.vars

-- a loop makes at most one tuple of a tuple
abbrev pub LoopIsOne : Type 0
LoopIsOne = (b : Body) (goes_back : Bool) → IsBody b → ComesBack b → (tuple result other : List Token) → FitEach b.vars tuple →
    Loops b goes_back tuple result → Loops b goes_back tuple other → other ≡ result

-- the loop of the function makes of a tuple what the loop of the body makes of it, and nothing else
abbrev pub LoopsByFunction : Type 0
LoopsByFunction = (b : Body) (goes_back : Bool) → IsBody b → ComesBack b → (tuple result : List Token) → FitEach b.vars tuple →
    Loops b goes_back tuple result → FunctionLoops (body_function b) goes_back (concat tuple) (concat result)

abbrev pub LoopsOfFunction : Type 0
LoopsOfFunction = (b : Body) (goes_back : Bool) → IsBody b → ComesBack b → (tuple : List Token) (v : Token) → FitEach b.vars tuple →
    FunctionLoops (body_function b) goes_back (concat tuple) v → (result : List Token) × Loops b goes_back tuple result × FitEach b.vars result × (v ≡ concat result)
