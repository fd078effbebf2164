-- A function that computes the turns of a loop with lanes, and what its loop makes of whole tuples.
use Rattle.std.specs.Prelude.{◌≡◌, Bool, List, ◌++◌, map}
use Rattle.std.specs.List.{concat, AllByRecursion}
use Rattle.fun_expr.specs.Function.{Function, fun_value}
use Rattle.components.specs.Name.{Name, Port}
use Rattle.circuits.specs.PortTokens.{Token}
use Rattle.circuits.specs.Circuit.{Circuit}
use Rattle.circuits.specs.Replacing.{In}
use Rattle.loop_laws.specs.LoopResult.{EachLoops}
use Rattle.lane_drains.specs.LaneLoop.{LoopLane, Tuple, TupleFits, Turn}

-- the tokens of a tuple, one after another
abbrev pub tuple_token : List LoopLane → Tuple → Token
tuple_token lanes x = concat (map x lanes)

-- fun gives what a turn makes of a tuple, and the condition behind it
abbrev pub ComputesTurns : Function → Circuit → List LoopLane → List Name → Port → Type 0
ComputesTurns fun c lanes body condition =
    (x y : Tuple) (b : Token) → Turn c lanes body condition x y b → fun_value fun (tuple_token lanes x) ≡ tuple_token lanes y ++ b

-- the inputs are the columns of fitting tuples, and the outputs the columns of what the loop of the function makes of each
pub record LoopsByFunction (fun : Function) (goes_back : Bool) (lanes : List LoopLane) (ins outs : Name → List Token) : Type 0 where
  pub tuples : List Tuple
  pub results : List Tuple
  pub fits : AllByRecursion (TupleFits lanes) tuples
  pub results_fit : AllByRecursion (TupleFits lanes) results
  pub loops : EachLoops fun goes_back (map (tuple_token lanes) tuples) (map (tuple_token lanes) results)
  pub columns : (l : LoopLane) → In l lanes → ins l.entry ≡ map (λ (x : Tuple). x l) tuples
  pub result_columns : (l : LoopLane) → In l lanes → outs l.exit ≡ map (λ (y : Tuple). y l) results
