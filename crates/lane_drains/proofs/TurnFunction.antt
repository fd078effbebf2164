-- The loop of a function that computes the turns makes of a tuple what the turns make of it.
use Rattle.std.proofs.Common.{Bool, List, [], ◌∷◌, map}
use Rattle.std.specs.List.{AllByRecursion}
use Rattle.fun_expr.specs.Function.{Function}
use Rattle.components.specs.Name.{Name, Port}
use Rattle.circuits.specs.Values.{ValuesFit}
use Rattle.circuits.specs.Circuit.{Circuit}
use Rattle.loop_laws.specs.LoopResult.{FunctionLoops, FunctionLoops.ends_with, FunctionLoops.goes_on, EachLoops}
use Rattle.lane_drains.specs.LaneLoop.{LoopLane, Tuple, TupleFits, LoopsTo, LoopsTo.ends, LoopsTo.turns, AllLoopTo, back_token, exit_token}
use Rattle.lane_drains.specs.TurnFunction.{tuple_token, ComputesTurns}
use Rattle.lane_drains.specs.Laws.{DrainsAreFunctionLoops}
use Rattle.lane_drains.proofs.LaneLoopDrains.{drains_are_loops}

module _ (f : Function) (c : Circuit) (d : Bool) (lanes : List LoopLane) (body : List Name) (condition : Port) (computes : ComputesTurns f c lanes body condition) where
  loops : (y x : Tuple) → LoopsTo c d lanes body condition y x → FunctionLoops f d (tuple_token lanes x) (tuple_token lanes y)
  loops y x (ends t) = ends_with (tuple_token lanes x) (tuple_token lanes y) (computes x y (exit_token d) t)
  loops y x (turns z t more) =
      goes_on (tuple_token lanes x) (tuple_token lanes z) (tuple_token lanes y) (computes x z (back_token d) t) (loops y z more)

  pub all_loop : (xs ys : List Tuple) → AllLoopTo c d lanes body condition xs ys → EachLoops f d (map (tuple_token lanes) xs) (map (tuple_token lanes) ys)
  all_loop [] [] h = tt
  all_loop [] (y ∷ ys) h = absurd h
  all_loop (x ∷ xs) [] h = absurd h
  all_loop (x ∷ xs) (y ∷ ys) h = (loops y x h.0, all_loop xs ys h.1)

module _ (c : Circuit) (d : Bool) (lanes : List LoopLane) (body : List Name) (condition : Port) where
  begin_fits : (y x : Tuple) → LoopsTo c d lanes body condition y x → TupleFits lanes x
  begin_fits y x (ends t) = t.fits
  begin_fits y x (turns z t more) = t.fits

  end_fits : (y x : Tuple) → LoopsTo c d lanes body condition y x → TupleFits lanes y
  end_fits y x (ends t) = t.next_fits
  end_fits y x (turns z t more) = end_fits y z more

  all_begin : (xs ys : List Tuple) → AllLoopTo c d lanes body condition xs ys → AllByRecursion (TupleFits lanes) xs
  all_begin [] [] h = tt
  all_begin [] (y ∷ ys) h = absurd h
  all_begin (x ∷ xs) [] h = absurd h
  all_begin (x ∷ xs) (y ∷ ys) h = (begin_fits y x h.0, all_begin xs ys h.1)

  all_end : (xs ys : List Tuple) → AllLoopTo c d lanes body condition xs ys → AllByRecursion (TupleFits lanes) ys
  all_end [] [] h = tt
  all_end [] (y ∷ ys) h = absurd h
  all_end (x ∷ xs) [] h = absurd h
  all_end (x ∷ xs) (y ∷ ys) h = (end_fits y x h.0, all_end xs ys h.1)

pub function_loops : ValuesFit → DrainsAreFunctionLoops
function_loops values f c d mark lanes body condition ty loop computes ins outs dr =
    let h = drains_are_loops values c d mark lanes body condition ty loop ins outs dr in
    record {
      tuples = h.tuples;
      results = h.results;
      fits = all_begin c d lanes body condition h.tuples h.results h.loops;
      results_fit = all_end c d lanes body condition h.tuples h.results h.loops;
      loops = all_loop f c d lanes body condition computes h.tuples h.results h.loops;
      columns = h.columns;
      result_columns = h.result_columns;
    }
