-- What is proved about bodies and their functions.
use Rattle.std.specs.Prelude.{◌≡◌, ℕ, ◌<◌, ◌≤◌, List, [], ◌∷◌, ◌++◌, map, length, unwrap_or}
use Rattle.std.specs.List.{concat}
use Rattle.components.specs.Kind.{Shape}
use Rattle.circuits.specs.PortTokens.{Token}
use Rattle.circuits.specs.Firing.{FitEach}
use Rattle.fun_expr.specs.Each.{total}
use Rattle.fun_expr.specs.Function.{fun_value, FunOk, fun_size, out_widths}
use Rattle.loop_body.specs.BodyKind.{weight}
use Rattle.loop_body.specs.Body.{Body, kinds, entry, shapes, IsBody}
use Rattle.loop_body.specs.BodyValue.{IsValueAt, Turn}
use Rattle.loop_body.specs.BodyFunction.{body_function}

-- the shapes of the data wires
abbrev pub next_shapes : Body → List Shape
next_shapes b = map (λ p. unwrap_or (entry (shapes b) p) []) b.next

-- at a fitting tuple there is exactly one assignment that agrees with one firing of each node
abbrev pub ValueIsOne : Type 0
ValueIsOne = (b : Body) (tuple : List Token) → IsBody b → FitEach b.vars tuple →
    (tokens : List (List Token)) × IsValueAt b tuple tokens × ((other : List (List Token)) → IsValueAt b tuple other → other ≡ tokens)

-- and exactly one turn, whose tuple fits the data wires
abbrev pub TurnIsOne : Type 0
TurnIsOne = (b : Body) (tuple : List Token) → IsBody b → FitEach b.vars tuple →
    (next : List Token) × (condition : ℕ) × Turn b tuple next condition × FitEach (next_shapes b) next × (condition < 2) ×
    ((other : List Token) (bit : ℕ) → Turn b tuple other bit → (other ≡ next) × (bit ≡ condition))

-- the function is typed and within the limits, and gives the fields of the data wires and a bit
abbrev pub FunctionIsTyped : Type 0
FunctionIsTyped = (b : Body) → IsBody b → length (concat (next_shapes b)) ≤ 127 →
    FunOk (body_function b) × (out_widths (body_function b) ≡ concat (next_shapes b) ++ 1 ∷ [])

-- it is no larger than the weight of the body
abbrev pub FunctionIsLight : Type 0
FunctionIsLight = (b : Body) → IsBody b → fun_size (body_function b) ≤ total weight (kinds b)

-- its value at a tuple is the next tuple, followed by the condition
abbrev pub FunctionTurns : Type 0
FunctionTurns = (b : Body) (tuple next : List Token) (condition : ℕ) → IsBody b → FitEach b.vars tuple → Turn b tuple next condition →
    fun_value (body_function b) (concat tuple) ≡ concat next ++ condition ∷ []
