-- What a loop makes of a tuple, said by the last number of its function's value, and by the tuple before it.
use Rattle.std.proofs.Common.{◌≡◌, sym, ap, subst, ◌∙◌, Bool, List, [], ◌∷◌, ◌++◌}
use Rattle.std.specs.List.{AllByRecursion}
use Rattle.port_types.specs.Token.{Fits}
use Rattle.fun_expr.specs.Function.{Function}
use Rattle.components.specs.Kind.{Shape}
use Rattle.circuits.specs.PortTokens.{Token}
use Rattle.loop_laws.specs.Polarity.{back_bit, exit_bit}
use Rattle.loop_laws.specs.LoopResult.{FunctionLoops, ends_with, goes_on, EachLoops}
use Rattle.tagged_loop.proofs.Turns.{all_but_last, last_number, next, Loops, ends, turns, LoopsAll}
use Rattle.tagged_loop.proofs.LoopPlans.{Maps}
use Rattle.tagged_loop.proofs.LoopRuns.{cut_value}
use Rattle.tagged_loop.proofs.RingItems.{next_more, bit_more}

module _ (f : Function) (d : Bool) where
  to_turns : (x y : Token) → FunctionLoops f d x y → Loops f d y x
  to_turns x y (ends_with tuple next e) = ends (ap last_number e ∙ bit_more next (exit_bit d)) (ap all_but_last e ∙ next_more next (exit_bit d))
  to_turns x y (goes_on tuple next r e l) =
      turns (ap last_number e ∙ bit_more next (back_bit d))
      (subst (Loops f d y) (sym (ap all_but_last e ∙ next_more next (back_bit d))) (to_turns next y l))

  pub all_to_turns : (xs ys : List Token) → EachLoops f d xs ys → LoopsAll f d xs ys
  all_to_turns [] [] l = tt
  all_to_turns [] (y ∷ ys) l = absurd l
  all_to_turns (x ∷ xs) [] l = absurd l
  all_to_turns (x ∷ xs) (y ∷ ys) l = (to_turns x y l.0, all_to_turns xs ys l.1)

module _ (a : Shape) (f : Function) (d : Bool) (is_input : f.input ≡ a) (ok : Maps f (a ++ 1 ∷ [])) where
  from_turns : (y x : Token) → Fits a x → Loops f d y x → FunctionLoops f d x y
  from_turns y x h (ends e g) =
      let c = cut_value a f d 0 is_input ok x h in ends_with x y (sym c.is ∙ (λ i. g i ++ e i ∷ []))
  from_turns y x h (turns e more) =
      let c = cut_value a f d 0 is_input ok x h in
      goes_on x (next f x) y (sym c.is ∙ ap (λ b. next f x ++ b ∷ []) e) (from_turns y (next f x) c.fits more)

  pub all_from_turns : (xs ys : List Token) → AllByRecursion (Fits a) xs → LoopsAll f d xs ys → EachLoops f d xs ys
  all_from_turns [] [] h l = tt
  all_from_turns [] (y ∷ ys) h l = absurd l
  all_from_turns (x ∷ xs) [] h l = absurd l
  all_from_turns (x ∷ xs) (y ∷ ys) h l = (from_turns y x h.0 l.0, all_from_turns xs ys h.1 l.1)

  result_fits : (y x : Token) → Fits a x → Loops f d y x → Fits a y
  result_fits y x h (ends e g) = subst (Fits a) g (cut_value a f d 0 is_input ok x h).fits
  result_fits y x h (turns e more) = result_fits y (next f x) (cut_value a f d 0 is_input ok x h).fits more

  pub results_fit : (xs ys : List Token) → AllByRecursion (Fits a) xs → LoopsAll f d xs ys → AllByRecursion (Fits a) ys
  results_fit [] [] h l = tt
  results_fit [] (y ∷ ys) h l = absurd l
  results_fit (x ∷ xs) [] h l = absurd l
  results_fit (x ∷ xs) (y ∷ ys) h l = (result_fits y x h.0 l.0, results_fit xs ys h.1 l.1)
