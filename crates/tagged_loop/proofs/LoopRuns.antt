-- An in-order loop runs a tuple through its turns.
use Rattle.std.proofs.Common.{◌≡◌, ℕ, ◌<◌, refl, sym, ap, subst, ◌∙◌, Bool, List, [], ◌∷◌, ◌++◌, append-nil}
use Rattle.port_types.specs.Token.{Fits}
use Rattle.fun_expr.specs.Function.{Function, fun_value}
use Rattle.components.specs.Kind.{Shape}
use Rattle.circuits.specs.PortTokens.{Token, one}
use Rattle.circuits.specs.Firing.{Label, Label.Feed, Label.Take}
use Rattle.circuit_plans.proofs.Plans.{Held, PlanStep, part_from}
use Rattle.circuit_plans.proofs.PlanAfter.{after, do_step, pop1, pop1_takes}
use Rattle.tagged_loop.specs.InOrderLoop.{InOrderNode, entry, mux, exit}
use Rattle.loop_laws.specs.Polarity.{back_bit, exit_bit, back_in, fresh_in}
use Rattle.tagged_loop.proofs.Turns.{all_but_last, last_number, next, condition, Loops, ends, turns}
use Rattle.tagged_loop.proofs.LoopPlans.{Maps, in_order_plan}
use Rattle.tagged_loop.proofs.LoopSteps.{Wires, LoopIs, ready, loaded, valued, paired, forked, chosen, old, LeadsTo, leads_then, still_fresh, still_back, fresh_source, go_pure, go_pair, go_cond, go_back, go_exit, go_init, go_enter, go_again}

-- a fitting value of the function is a fitting tuple and a bit
pub record Cut (a : Shape) (z : Token) : Type 0 where
  pub fits : Fits a (all_but_last z)
  pub below : last_number z < 2
  pub is : all_but_last z ++ last_number z ∷ [] ≡ z

no_room : (a : Shape) → Fits (a ++ 1 ∷ []) [] → ⊥
no_room [] h = h
no_room (w ∷ a) h = h

pub cut : (a : Shape) (z : Token) → Fits (a ++ 1 ∷ []) z → Cut a z
cut [] [] h = absurd h
cut [] (x ∷ []) h = record { fits = tt; below = h.0; is = refl }
cut [] (x ∷ y ∷ ys) h = absurd h.1
cut (w ∷ a) [] h = absurd h
cut (w ∷ a) (x ∷ []) h = absurd (no_room a h.1)
cut (w ∷ a) (x ∷ y ∷ ys) h =
    let k = cut a (y ∷ ys) h.1 in record { fits = (h.0, k.fits); below = k.below; is = ap (λ r. x ∷ r) k.is }

module _ (a : Shape) (f : Function) (d : Bool) (n : ℕ) (is_input : f.input ≡ a) (ok : Maps f (a ++ 1 ∷ [])) where
  pub cut_value : (x : Token) → Fits a x → Cut a (fun_value f x)
  cut_value x h = cut a (fun_value f x) (ok x (subst (λ b. Fits b x) (sym is_input) h))

  turn : (t : Held InOrderNode) (x : Token) (q o : List Token) → Fits a x → LoopIs d t (loaded x q o) → LeadsTo a f d n t (forked (next f x) (condition f x) q o)
  turn t x q o fit h =
      let c = cut_value x fit in
      leads_then a f d n t (valued (fun_value f x) q o) (forked (next f x) (condition f x) q o) (go_pure a f d n t x q o h)
      (λ u k.
      leads_then a f d n u (paired (next f x) (condition f x) q o) (forked (next f x) (condition f x) q o)
      (go_pair a f d n u (fun_value f x) (next f x) (condition f x) q o c.is c.fits c.below k)
      (λ w l. go_cond a f d n w (next f x) (condition f x) q o l))

  -- a turn that goes back
  turn_back : (t : Held InOrderNode) (x : Token) (q o : List Token) → Fits a x → condition f x ≡ back_bit d → LoopIs d t (loaded x q o) → LeadsTo a f d n t (loaded (next f x) q o)
  turn_back t x q o fit e h =
      let y = next f x in
      leads_then a f d n t (forked y (back_bit d) q o) (loaded y q o) (subst (λ c. LeadsTo a f d n t (forked (next f x) c q o)) e (turn t x q o fit h))
      (λ u k.
      leads_then a f d n u (chosen (one y) (back_bit d) q o) (loaded y q o) (go_back a f d n u y q o k)
      (λ w l.
      leads_then a f d n w (ready (one y) (back_bit d) q o) (loaded y q o) (go_init a f d n w (one y) (back_bit d) q o l)
      (λ z m. go_again a f d n z y q o m)))

  -- the last turn
  turn_out : (t : Held InOrderNode) (x : Token) (q o : List Token) → Fits a x → condition f x ≡ exit_bit d → LoopIs d t (loaded x q o) → LeadsTo a f d n t (ready [] (exit_bit d) q (o ++ one (next f x)))
  turn_out t x q o fit e h =
      let y = next f x in
      leads_then a f d n t (forked y (exit_bit d) q o) (ready [] (exit_bit d) q (o ++ one y)) (subst (λ c. LeadsTo a f d n t (forked (next f x) c q o)) e (turn t x q o fit h))
      (λ u k.
      leads_then a f d n u (chosen [] (exit_bit d) q (o ++ one y)) (ready [] (exit_bit d) q (o ++ one y)) (go_exit a f d n u y q o k)
      (λ w l. go_init a f d n w [] (exit_bit d) q (o ++ one y) l))

  run_loaded : (y x : Token) → Loops f d y x → (t : Held InOrderNode) (q o : List Token) → Fits a x → LoopIs d t (loaded x q o) → LeadsTo a f d n t (ready [] (exit_bit d) q (o ++ one y))
  run_loaded y x (ends e g) t q o fit h =
      subst (λ z. LeadsTo a f d n t (ready [] (exit_bit d) q (o ++ one z))) g (turn_out t x q o fit e h)
  run_loaded y x (turns e more) t q o fit h =
      leads_then a f d n t (loaded (next f x) q o) (ready [] (exit_bit d) q (o ++ one y)) (turn_back t x q o fit e h)
      (λ u k. run_loaded y (next f x) more u q o ((cut_value x fit).fits) k)

  -- at rest, the first tuple that waits goes through its turns
  pub run_one : (x y : Token) → Loops f d y x → (t : Held InOrderNode) (q o : List Token) → Fits a x → LoopIs d t (ready [] (exit_bit d) (x ∷ q) o) → LeadsTo a f d n t (ready [] (exit_bit d) q (o ++ one y))
  run_one x y l t q o fit h =
      leads_then a f d n t (loaded x q o) (ready [] (exit_bit d) q (o ++ one y)) (go_enter a f d n t x q o h)
      (λ u k. run_loaded y x l u q o fit k)

  -- a step that is a feed or a take
  pub record Shown (t : Held InOrderNode) (m : InOrderNode) (l : Label) (w : Wires) : Type 0 where
    pub to : Held InOrderNode
    pub step : PlanStep (in_order_plan a f d n) t m l to
    pub is : LoopIs d to w

  pub fed : (t : Held InOrderNode) (v : Token) (q o : List Token) → Fits a v → LoopIs d t (ready [] (exit_bit d) q o) → Shown t entry (Feed v) (ready [] (exit_bit d) (q ++ one v) o)
  fed t v q o fit h =
      record {
        to = after (old a f d n) t entry (t.wires entry) (one v ∷ []) (t.slots entry);
        step = do_step (old a f d n) t entry (Feed v) [] (one v ∷ []) (t.slots entry) (t.wires entry) (fit, refl, refl, refl) (λ i. refl);
        is = record {
          sel = append-nil _ ∙ h.sel;
          fresh = ap (λ z. t.wires mux (fresh_in d) ++ part_from (old a f d n) entry (one v ∷ []) z) (fresh_source d) ∙ ap (λ z. z ++ one v) h.fresh;
          back = still_back a f d n t entry (one v ∷ []) (t.wires mux (back_in d)) refl ∙ h.back;
          fun = append-nil _ ∙ h.fun;
          whole = append-nil _ ∙ h.whole;
          tuple = append-nil _ ∙ h.tuple;
          bit = append-nil _ ∙ h.bit;
          choice = append-nil _ ∙ h.choice;
          return = append-nil _ ∙ h.return;
          out = append-nil _ ∙ h.out;
        };
      }

  pub taken : (t : Held InOrderNode) (v : Token) (q o : List Token) → LoopIs d t (ready [] (exit_bit d) q (v ∷ o)) → Shown t exit (Take v) (ready [] (exit_bit d) q o)
  taken t v q o h =
      record {
        to = after (old a f d n) t exit (pop1 (t.wires exit) o) [] (t.slots exit);
        step = do_step (old a f d n) t exit (Take v) (one v ∷ []) [] (t.slots exit) (pop1 (t.wires exit) o) (refl, refl, refl) (pop1_takes (t.wires exit) v o h.out);
        is = record {
          sel = append-nil _ ∙ h.sel;
          fresh = still_fresh a f d n t exit [] (t.wires mux (fresh_in d)) refl ∙ h.fresh;
          back = still_back a f d n t exit [] (t.wires mux (back_in d)) refl ∙ h.back;
          fun = append-nil _ ∙ h.fun;
          whole = append-nil _ ∙ h.whole;
          tuple = append-nil _ ∙ h.tuple;
          bit = append-nil _ ∙ h.bit;
          choice = append-nil _ ∙ h.choice;
          return = append-nil _ ∙ h.return;
          out = append-nil _;
        };
      }
