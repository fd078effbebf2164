-- An in-order loop drains what its function loops to.
use Rattle.std.proofs.Common.{◌≡◌, ℕ, zero, suc, refl, sym, subst, ◌∙◌, true, false, Bool, List, [], ◌∷◌, ◌++◌, append-nil, append_assoc}
use Rattle.fun_expr.specs.Function.{Function}
use Rattle.port_types.specs.Token.{Fits}
use Rattle.components.specs.Kind.{Shape}
use Rattle.components.specs.Name.{Name}
use Rattle.components.specs.declared.kind.Kind.TheVariants.{Entry, Exit}
use Rattle.circuits.specs.PortTokens.{Token, one}
use Rattle.circuits.specs.Firing.{Fires}
use Rattle.circuits.specs.CircuitState.{Slot}
use Rattle.circuits.specs.Root.{PassesThrough}
use Rattle.circuits.specs.Drains.{IsNoExit, Drains}
use Rattle.std.specs.List.{AllByRecursion}
use Rattle.circuit_plans.proofs.Plans.{Plan, Naming, Held, PlanInner, rest, built, plan_start}
use Rattle.circuit_plans.proofs.PlanTyped.{ForSome}
use Rattle.circuit_plans.proofs.PlanDrains.{plan_loaded, dead_wire, still_slots, IsNoLead, none_led, plan_drains}
use Rattle.tagged_loop.specs.InOrderLoop.{InOrderNode, entry, init, mux, pure, pair, cond, branch, exit}
use Rattle.loop_laws.specs.Polarity.{exit_bit, fresh_in, back_in}
use Rattle.tagged_loop.proofs.Turns.{LoopsAll}
use Rattle.tagged_loop.proofs.LoopPlans.{Maps, in_order_plan}
use Rattle.tagged_loop.proofs.LoopSteps.{LoopIs, ready, LeadsTo, leads_then}
use Rattle.tagged_loop.proofs.LoopRuns.{run_one}
use Rattle.tagged_loop.proofs.LoopResults.{results_fit}

module _ (a : Shape) (f : Function) (d : Bool) (n : ℕ) where
  pub no_lead : (m : InOrderNode) → PassesThrough ((in_order_plan a f d n).kind m) → ForSome ((in_order_plan a f d n).source m 1) (λ q. IsNoLead ((in_order_plan a f d n).kind q.at))
  no_lead cond h = (λ z. z, λ z. z)
  no_lead _ h = absurd h

  initial_fresh : (e : Bool) (x : Naming InOrderNode) (ins : Name → List Token) → (plan_loaded (in_order_plan a f e n) x ins).wires mux (fresh_in e) ≡ ins (x.name entry)
  initial_fresh true x ins = refl
  initial_fresh false x ins = refl

  initial_back : (e : Bool) (x : Naming InOrderNode) (ins : Name → List Token) → (plan_loaded (in_order_plan a f e n) x ins).wires mux (back_in e) ≡ []
  initial_back true x ins = refl
  initial_back false x ins = refl

  pub loaded_is : (x : Naming InOrderNode) (ins : Name → List Token) → LoopIs d (plan_loaded (in_order_plan a f d n) x ins) (ready [] (exit_bit d) (ins (x.name entry)) [])
  loaded_is x ins =
      record {
        sel = refl;
        fresh = initial_fresh d x ins;
        back = initial_back d x ins;
        fun = refl;
        whole = refl;
        tuple = refl;
        bit = refl;
        choice = refl;
        return = refl;
        out = refl;
      }

module _ (a : Shape) (f : Function) (d : Bool) (n : ℕ) (is_input : f.input ≡ a) (ok : Maps f (a ++ 1 ∷ [])) where
  abbrev old : Plan InOrderNode
  old = in_order_plan a f d n

  run_all : (xs ys : List Token) → LoopsAll f d xs ys → AllByRecursion (Fits a) xs → (t : Held InOrderNode) (o : List Token) → LoopIs d t (ready [] (exit_bit d) xs o) → LeadsTo a f d n t (ready [] (exit_bit d) [] (o ++ ys))
  run_all [] [] l fit t o h = subst (λ z. LeadsTo a f d n t (ready [] (exit_bit d) [] z)) (sym (append-nil o)) (record { to = t; inner = rest; is = h })
  run_all [] (y ∷ ys) l fit t o h = absurd l
  run_all (x ∷ xs) [] l fit t o h = absurd l
  run_all (x ∷ xs) (y ∷ ys) l fit t o h =
      leads_then a f d n t (ready [] (exit_bit d) xs (o ++ one y)) (ready [] (exit_bit d) [] (o ++ y ∷ ys)) (run_one a f d n is_input ok x y l.0 t xs o fit.0 h)
      (λ u k. subst (λ z. LeadsTo a f d n u (ready [] (exit_bit d) [] z)) (append_assoc o (one y) ys) (run_all xs ys l.1 fit.1 u (o ++ one y) k))

  keeps_slots : (m : InOrderNode) (k : ℕ) (old_slots : List Slot) (taken given : List (List Token)) (new : List Slot) → Fires ((in_order_plan a f d n).kind m) k old_slots taken given new → new ≡ old_slots
  keeps_slots entry k o t g e h = absurd h
  keeps_slots exit k o t g e h = absurd h
  keeps_slots init k o t g e (v, z, et, eg, en) = en
  keeps_slots mux k o t g e (v, z, et, eg, en) = en
  keeps_slots pure k o t g e (v, z, et, eg, en) = en
  keeps_slots pair k o t g e (v, z, each, et, eg, en) = en
  keeps_slots cond k o t g e (v, z, et, eg, en) = en
  keeps_slots branch k o t g e (v, z, w, en) = en

  mux_two : (e : Bool) (w : Held InOrderNode) (q : List Token) → w.wires mux (fresh_in e) ≡ [] → w.wires mux (back_in e) ≡ [] → (w.wires mux 2 ≡ []) × (w.wires mux 3 ≡ [])
  mux_two true w q g h = (g, h)
  mux_two false w q g h = (h, g)

  start_two : (e : Bool) → ((plan_start (in_order_plan a f e n)).wires mux 2 ≡ []) × ((plan_start (in_order_plan a f e n)).wires mux 3 ≡ [])
  start_two true = (refl, refl)
  start_two false = (refl, refl)

  ends_at_rest : (x : Naming InOrderNode) (ins : Name → List Token) (w : Held InOrderNode) (o : List Token) → PlanInner old w (plan_loaded old x ins) → LoopIs d w (ready [] (exit_bit d) [] o) → (m : InOrderNode) (i : ℕ) → IsNoExit ((in_order_plan a f d n).kind m) → w.wires m i ≡ (plan_start old).wires m i
  ends_at_rest x ins w o g h entry i z = dead_wire old w (plan_loaded old x ins) g entry i refl refl
  ends_at_rest x ins w o g h init zero z = dead_wire old w (plan_loaded old x ins) g init 0 refl refl
  ends_at_rest x ins w o g h init (suc zero) z = h.return
  ends_at_rest x ins w o g h init (suc (suc i)) z = dead_wire old w (plan_loaded old x ins) g init (suc (suc i)) refl refl
  ends_at_rest x ins w o g h mux zero z = dead_wire old w (plan_loaded old x ins) g mux 0 refl refl
  ends_at_rest x ins w o g h mux (suc zero) z = h.sel
  ends_at_rest x ins w o g h mux (suc (suc zero)) z = (mux_two d w o h.fresh h.back).0 ∙ sym (start_two d).0
  ends_at_rest x ins w o g h mux (suc (suc (suc zero))) z = (mux_two d w o h.fresh h.back).1 ∙ sym (start_two d).1
  ends_at_rest x ins w o g h mux (suc (suc (suc (suc i)))) z = dead_wire old w (plan_loaded old x ins) g mux (suc (suc (suc (suc i)))) refl refl
  ends_at_rest x ins w o g h pure zero z = dead_wire old w (plan_loaded old x ins) g pure 0 refl refl
  ends_at_rest x ins w o g h pure (suc zero) z = h.fun
  ends_at_rest x ins w o g h pure (suc (suc i)) z = dead_wire old w (plan_loaded old x ins) g pure (suc (suc i)) refl refl
  ends_at_rest x ins w o g h pair zero z = dead_wire old w (plan_loaded old x ins) g pair 0 refl refl
  ends_at_rest x ins w o g h pair (suc zero) z = h.whole
  ends_at_rest x ins w o g h pair (suc (suc i)) z = dead_wire old w (plan_loaded old x ins) g pair (suc (suc i)) refl refl
  ends_at_rest x ins w o g h cond zero z = dead_wire old w (plan_loaded old x ins) g cond 0 refl refl
  ends_at_rest x ins w o g h cond (suc zero) z = h.bit
  ends_at_rest x ins w o g h cond (suc (suc i)) z = dead_wire old w (plan_loaded old x ins) g cond (suc (suc i)) refl refl
  ends_at_rest x ins w o g h branch zero z = dead_wire old w (plan_loaded old x ins) g branch 0 refl refl
  ends_at_rest x ins w o g h branch (suc zero) z = h.tuple
  ends_at_rest x ins w o g h branch (suc (suc zero)) z = h.choice
  ends_at_rest x ins w o g h branch (suc (suc (suc i))) z = dead_wire old w (plan_loaded old x ins) g branch (suc (suc (suc i))) refl refl
  ends_at_rest x ins w o g h exit i z = absurd z

  entry_shape : (m : InOrderNode) (b : Shape) → old.kind m ≡ Entry b → (m ≡ entry) × (b ≡ a)
  entry_shape entry b e = (refl, cc)
  entry_shape init b e = cc
  entry_shape mux b e = cc
  entry_shape pure b e = cc
  entry_shape pair b e = cc
  entry_shape cond b e = cc
  entry_shape branch b e = cc
  entry_shape exit b e = cc

  exit_shape : (m : InOrderNode) (b : Shape) → old.kind m ≡ Exit b → (m ≡ exit) × (b ≡ a)
  exit_shape exit b e = (refl, cc)
  exit_shape entry b e = cc
  exit_shape init b e = cc
  exit_shape mux b e = cc
  exit_shape pure b e = cc
  exit_shape pair b e = cc
  exit_shape cond b e = cc
  exit_shape branch b e = cc

  -- where each tuple loops to its output, the in-order loop drains the tuples to the outputs
  pub in_order_drains : (x : Naming InOrderNode) (ins outs : Name → List Token) → AllByRecursion (Fits a) (ins (x.name entry)) → LoopsAll f d (ins (x.name entry)) (outs (x.name exit)) → Drains (built old x) ins outs
  in_order_drains x ins outs fit l =
      let go = run_all (ins (x.name entry)) (outs (x.name exit)) l fit (plan_loaded old x ins) [] (loaded_is a f d n x ins) in
      plan_drains old x (none_led old x (no_lead a f d n)) ins outs go.to go.inner
      (record {
        fit_in = λ m b e. let is = entry_shape m b e in subst (λ z. AllByRecursion (Fits z) (ins (x.name m))) (sym is.1) (subst (λ z. AllByRecursion (Fits a) (ins (x.name z))) (sym is.0) fit);
        fit_out = λ m b e.
            let is = exit_shape m b e in
            subst (λ z. AllByRecursion (Fits z) (outs (x.name m))) (sym is.1)
            (subst (λ z. AllByRecursion (Fits a) (outs (x.name z))) (sym is.0) (results_fit a f d is_input ok (ins (x.name entry)) (outs (x.name exit)) fit l));
        slots = λ m. still_slots old m (keeps_slots m) go.to (plan_loaded old x ins) go.inner;
        exits = λ m b e. subst (λ z. go.to.wires z 1 ≡ outs (x.name z)) (sym (exit_shape m b e).0) go.is.out;
        others = ends_at_rest x ins go.to (outs (x.name exit)) go.inner go.is;
      })
