-- whatever fires in an in-order loop, its tuples loop one after the other
use Rattle.std.proofs.Common.{◌≡◌, ℕ, zero, suc, ◌<◌, ◌⊎◌, inl, inr, refl, sym, ap, subst, ◌∙◌, true, false, Bool, map, List, [], ◌∷◌, ◌++◌, arith, append-nil, append_assoc}
use Rattle.fun_expr.specs.Function.{Function, fun_value}
use Rattle.components.specs.Kind.{Shape}
use Rattle.components.specs.Name.{Name}
use Rattle.circuits.specs.PortTokens.{Token, one}
use Rattle.circuits.specs.Firing.{Label.Fire}
use Rattle.circuits.specs.CircuitState.{CircuitState, start}
use Rattle.circuits.specs.Circuit.{Circuit}
use Rattle.circuits.specs.Run.{Step, Firing, Firings}
use Rattle.circuits.specs.Drains.{Led, loaded, IsNoExit, Drains}
use Rattle.std.specs.List.{AllByRecursion}
use Rattle.circuit_plans.proofs.Plans.{Naming, Held, PlanStep, built, held_of, plan_step, which_step, plan_start, held_start, kind_named}
use Rattle.circuit_plans.proofs.PlanDrains.{plan_loaded, held_loaded, none_led}
use Rattle.tagged_loop.specs.InOrderLoop.{InOrderNode, entry, init, mux, pure, pair, cond, branch, exit}
use Rattle.loop_laws.specs.Polarity.{back_bit, exit_bit, fresh_in}
use Rattle.tagged_loop.proofs.Turns.{next, condition, all_but_last, last_number, Loops, ends, turns, LoopsAll}
use Rattle.tagged_loop.proofs.LoopPlans.{in_order_plan}
use Rattle.tagged_loop.proofs.LoopSteps.{Wires, LoopIs}
use Rattle.tagged_loop.proofs.RingItems.{map_more, next_more, bit_more}
use Rattle.tagged_loop.proofs.LoopMoves.{Took, Cut, Went, Chose, init_moves, pure_moves, cond_moves, pair_moves, branch_back, branch_out, branch_way, mux_way, mux_fresh, mux_back}
use Rattle.tagged_loop.proofs.LoopDrains.{loaded_is, no_lead}

-- where the loop's one condition stands, with the tuple in hand. true: the tuple that goes back has not passed the Branch
pub data Pos : Type 0 where
  chooses returns : Pos
  computes computed cuts : Token → Pos
  returns_back chooses_back : Token → Bool → Pos

none : {A : Type 0} (x : A) (xs : List A) → [] ≡ x ∷ xs → ⊥
none x xs e = cc

one_head : {A : Type 0} (y x : A) (xs : List A) → y ∷ [] ≡ x ∷ xs → x ≡ y
one_head y x xs e = cc

one_tail : {A : Type 0} (y x : A) (xs : List A) → y ∷ [] ≡ x ∷ xs → xs ≡ []
one_tail y x xs e = cc

bits_differ : (e : Bool) → back_bit e ≡ exit_bit e → ⊥
bits_differ true h = absurd (omega (arith, h))
bits_differ false h = absurd (omega (arith, h))

bit_cases : (e : Bool) (c : ℕ) → c < 2 → (c ≡ back_bit e) ⊎ (c ≡ exit_bit e)
bit_cases true zero lt = inr refl
bit_cases true (suc zero) lt = inl refl
bit_cases true (suc (suc c)) lt = absurd (omega (arith, lt))
bit_cases false zero lt = inl refl
bit_cases false (suc zero) lt = inr refl
bit_cases false (suc (suc c)) lt = absurd (omega (arith, lt))

all_more : (f : Function) (d : Bool) (xs ys : List Token) (x y : Token) → LoopsAll f d xs ys → Loops f d y x → LoopsAll f d (xs ++ one x) (ys ++ one y)
all_more f d [] [] x y h l = (l, tt)
all_more f d [] (z ∷ ys) x y h l = absurd h
all_more f d (z ∷ xs) [] x y h l = absurd h
all_more f d (z ∷ xs) (w ∷ ys) x y h l = (h.0, all_more f d xs ys x y h.1 l)

module _ (a : Shape) (f : Function) (d : Bool) (n : ℕ) where
  abbrev exits : List Token → List Token
  exits es = map (λ y. exit_bit d ∷ []) es

  abbrev sel_of : Pos → List Token
  sel_of chooses = one (exit_bit d ∷ [])
  sel_of (chooses_back x b) = one (back_bit d ∷ [])
  sel_of _ = []

  abbrev back_of : Pos → List Token
  back_of (returns_back x false) = one x
  back_of (chooses_back x false) = one x
  back_of _ = []

  abbrev fun_of : Pos → List Token
  fun_of (computes x) = one x
  fun_of _ = []

  abbrev whole_of : Pos → List Token
  whole_of (computed x) = one (fun_value f x)
  whole_of _ = []

  abbrev tuple_of : Pos → List Token → List Token
  tuple_of (cuts x) es = es ++ one (next f x)
  tuple_of (returns_back x true) es = es ++ one x
  tuple_of (chooses_back x true) es = es ++ one x
  tuple_of _ es = es

  abbrev bit_at : Pos → List Token
  bit_at (cuts x) = one (condition f x ∷ [])
  bit_at _ = []

  abbrev choice_of : Pos → List Token → List Token
  choice_of (returns_back x true) es = exits es ++ one (back_bit d ∷ [])
  choice_of (chooses_back x true) es = exits es ++ one (back_bit d ∷ [])
  choice_of _ es = exits es

  abbrev return_of : Pos → List Token
  return_of returns = one (exit_bit d ∷ [])
  return_of (returns_back x b) = one (back_bit d ∷ [])
  return_of _ = []

  -- es are the results that wait before the Branch
  abbrev at : Pos → List Token → List Token → List Token → Wires
  at p es q o =
      record {
        sel = sel_of p;
        fresh = q;
        back = back_of p;
        fun = fun_of p;
        whole = whole_of p;
        tuple = tuple_of p es;
        bit = bit_at p;
        choice = choice_of p es;
        return = return_of p;
        out = o;
      }

  module _ (all : List Token) where
    -- the tuple in hand, x by now, ends as it would have from where it began
    pub record Busy (x : Token) (gone q : List Token) : Type 0 where
      pub begun : Token
      pub is : gone ++ begun ∷ q ≡ all
      pub runs : (y : Token) → Loops f d y x → Loops f d y begun

    abbrev Going : Pos → List Token → List Token → Type 0
    Going chooses gone q = gone ++ q ≡ all
    Going returns gone q = gone ++ q ≡ all
    Going (computes x) gone q = Busy x gone q
    Going (computed x) gone q = Busy x gone q
    Going (cuts x) gone q = Busy x gone q × (condition f x < 2)
    Going (returns_back x b) gone q = Busy x gone q
    Going (chooses_back x b) gone q = Busy x gone q

    pub record Flow (s : Held InOrderNode) : Type 0 where
      pub pos : Pos
      pub waits : List Token
      pub q : List Token
      pub o : List Token
      pub gone : List Token
      pub is : LoopIs d s (at pos waits q o)
      pub loops : LoopsAll f d gone (o ++ waits)
      pub going : Going pos gone q

    flow : (s : Held InOrderNode) (p : Pos) (es q o gone : List Token) (w : Wires) → LoopIs d s w → w ≡ at p es q o → LoopsAll f d gone (o ++ es) → Going p gone q → Flow s
    flow s p es q o gone w h e l g = record { pos = p; waits = es; q = q; o = o; gone = gone; is = subst (LoopIs d s) e h; loops = l; going = g }

    init_pos : (u : Held InOrderNode) (p : Pos) (es q o gone : List Token) → LoopsAll f d gone (o ++ es) → Going p gone q → Took a f d n u (return_of p) (λ v r. record (at p es q o) { sel = sel_of p ++ one v; return = r }) → Flow u
    init_pos u returns es q o gone l g t =
        flow u chooses es q o gone _ t.is (λ j. record (at returns es q o) { sel = one (one_head _ _ _ t.was j); return = one_tail _ _ _ t.was j }) l g
    init_pos u (returns_back x true) es q o gone l g t =
        flow u (chooses_back x true) es q o gone _ t.is (λ j. record (at (returns_back x true) es q o) { sel = one (one_head _ _ _ t.was j); return = one_tail _ _ _ t.was j }) l g
    init_pos u (returns_back x false) es q o gone l g t =
        flow u (chooses_back x false) es q o gone _ t.is (λ j. record (at (returns_back x false) es q o) { sel = one (one_head _ _ _ t.was j); return = one_tail _ _ _ t.was j }) l g
    init_pos u _ es q o gone l g t = absurd (none t.head t.tail t.was)

    pure_pos : (u : Held InOrderNode) (p : Pos) (es q o gone : List Token) → LoopsAll f d gone (o ++ es) → Going p gone q → Took a f d n u (fun_of p) (λ v r. record (at p es q o) { fun = r; whole = whole_of p ++ one (fun_value f v) }) → Flow u
    pure_pos u (computes x) es q o gone l g t =
        flow u (computed x) es q o gone _ t.is (λ j. record (at (computes x) es q o) { fun = one_tail _ _ _ t.was j; whole = one (fun_value f (one_head _ _ _ t.was j)) }) l g
    pure_pos u _ es q o gone l g t = absurd (none t.head t.tail t.was)

    pair_pos : (u : Held InOrderNode) (p : Pos) (es q o gone : List Token) → LoopsAll f d gone (o ++ es) → Going p gone q → Cut a f d n u (at p es q o) → Flow u
    pair_pos u (computed x) es q o gone l g t =
        let value : t.head ++ t.bit ∷ [] ≡ fun_value f x = one_head _ _ _ t.was in
        let is_next : t.head ≡ next f x = sym (next_more t.head t.bit) ∙ ap all_but_last value in
        let is_bit : t.bit ≡ condition f x = sym (bit_more t.head t.bit) ∙ ap last_number value in
        flow u (cuts x) es q o gone _ t.is (λ j. record (at (computed x) es q o) { whole = one_tail _ _ _ t.was j; tuple = es ++ one (is_next j); bit = one (is_bit j ∷ []) }) l
        (g, subst (λ z. z < 2) is_bit t.below)
    pair_pos u _ es q o gone l g t = absurd (none (t.head ++ t.bit ∷ []) t.tail t.was)

    cond_pos : (u : Held InOrderNode) (p : Pos) (es q o gone : List Token) → LoopsAll f d gone (o ++ es) → Going p gone q → Took a f d n u (bit_at p) (λ v r. record (at p es q o) { bit = r; choice = choice_of p es ++ one v; return = return_of p ++ one v }) → Flow u
    cond_pos u (cuts x) es q o gone l g t =
        let is_bit : t.head ≡ condition f x ∷ [] = one_head _ _ _ t.was in
        elim (bit_cases d (condition f x) g.1) [
          | inl e ↦
              flow u (returns_back (next f x) true) es q o gone _ t.is
              (λ j. record (at (cuts x) es q o) {
                bit = one_tail _ _ _ t.was j;
                choice = exits es ++ one ((is_bit ∙ ap (λ z. z ∷ []) e) j);
                return = one ((is_bit ∙ ap (λ z. z ∷ []) e) j);
              })
              l (record { begun = g.0.begun; is = g.0.is; runs = λ y m. g.0.runs y (turns e m) })
          | inr e ↦
              flow u returns (es ++ one (next f x)) q o (gone ++ one g.0.begun) _ t.is
              (λ j. record (at (cuts x) es q o) {
                bit = one_tail _ _ _ t.was j;
                choice = ((λ k. exits es ++ one ((is_bit ∙ ap (λ z. z ∷ []) e) k)) ∙ map_more (λ y. exit_bit d ∷ []) es (next f x)) j;
                return = one ((is_bit ∙ ap (λ z. z ∷ []) e) j);
              })
              (subst (LoopsAll f d (gone ++ one g.0.begun)) (append_assoc o es (one (next f x))) (all_more f d gone (o ++ es) g.0.begun (next f x) l (g.0.runs (next f x) (ends e refl))))
              (append_assoc gone (one g.0.begun) q ∙ g.0.is)
        ]
    cond_pos u _ es q o gone l g t = absurd (none t.head t.tail t.was)

    fresh_pos : (u : Held InOrderNode) (p : Pos) (es q o gone : List Token) → LoopsAll f d gone (o ++ es) → Going p gone q → Chose a f d n u (at p es q o) (exit_bit d) q (λ v r b. record (at p es q o) { sel = b; fresh = r; fun = fun_of p ++ one v }) → Flow u
    fresh_pos u chooses es q o gone l g t =
        flow u (computes t.head) es t.tail o gone _ t.is (λ j. record (at chooses es q o) { sel = one_tail _ _ _ t.was_bit j; fresh = t.tail; fun = one t.head }) l
        (record { begun = t.head; is = ap (λ z. gone ++ z) (sym t.was) ∙ g; runs = λ y m. m })
    fresh_pos u (chooses_back x b) es q o gone l g t =
        absurd (bits_differ d (let k : exit_bit d ∷ [] ≡ back_bit d ∷ [] = one_head _ _ _ t.was_bit in cc))
    fresh_pos u _ es q o gone l g t = absurd (none (exit_bit d ∷ []) t.bits t.was_bit)

    back_pos : (u : Held InOrderNode) (p : Pos) (es q o gone : List Token) → LoopsAll f d gone (o ++ es) → Going p gone q → Chose a f d n u (at p es q o) (back_bit d) (back_of p) (λ v r b. record (at p es q o) { sel = b; back = r; fun = fun_of p ++ one v }) → Flow u
    back_pos u chooses es q o gone l g t = absurd (none t.head t.tail t.was)
    back_pos u (chooses_back x true) es q o gone l g t = absurd (none t.head t.tail t.was)
    back_pos u (chooses_back x false) es q o gone l g t =
        flow u (computes x) es q o gone _ t.is (λ j. record (at (chooses_back x false) es q o) { sel = one_tail _ _ _ t.was_bit j; back = one_tail _ _ _ t.was j; fun = one (one_head _ _ _ t.was j) }) l g
    back_pos u _ es q o gone l g t = absurd (none (back_bit d ∷ []) t.bits t.was_bit)

    tuple_cons : (p : Pos) (e : Token) (es : List Token) → tuple_of p (e ∷ es) ≡ e ∷ tuple_of p es
    tuple_cons (returns_back x true) e es = refl
    tuple_cons (chooses_back x true) e es = refl
    tuple_cons (cuts x) e es = refl
    tuple_cons _ e es = refl

    choice_cons : (p : Pos) (e : Token) (es : List Token) → choice_of p (e ∷ es) ≡ (exit_bit d ∷ []) ∷ choice_of p es
    choice_cons (returns_back x true) e es = refl
    choice_cons (chooses_back x true) e es = refl
    choice_cons _ e es = refl

    same_head : (x y : Token) (xs ys : List Token) → x ∷ xs ≡ y ∷ ys → x ≡ y
    same_head x y xs ys e = cc

    same_tail : (x y : Token) (xs ys : List Token) → x ∷ xs ≡ y ∷ ys → xs ≡ ys
    same_tail x y xs ys e = cc

    went_back : (u : Held InOrderNode) (p : Pos) (es q o gone : List Token) → LoopsAll f d gone (o ++ es) → Going p gone q → Went a f d n u (at p es q o) (back_bit d) (λ v r b. record (at p es q o) { tuple = r; choice = b; back = back_of p ++ one v }) → Flow u
    went_back u p (e ∷ es) q o gone l g t =
        absurd (bits_differ d (let k : back_bit d ∷ [] ≡ exit_bit d ∷ [] = same_head _ _ _ _ (sym t.was_bit ∙ choice_cons p e es) in cc))
    went_back u (returns_back x true) [] q o gone l g t =
        flow u (returns_back x false) [] q o gone _ t.is (λ j. record (at (returns_back x true) [] q o) { tuple = one_tail _ _ _ t.was j; choice = one_tail _ _ _ t.was_bit j; back = one (one_head _ _ _ t.was j) }) l g
    went_back u (chooses_back x true) [] q o gone l g t =
        flow u (chooses_back x false) [] q o gone _ t.is (λ j. record (at (chooses_back x true) [] q o) { tuple = one_tail _ _ _ t.was j; choice = one_tail _ _ _ t.was_bit j; back = one (one_head _ _ _ t.was j) }) l g
    went_back u _ [] q o gone l g t = absurd (none (back_bit d ∷ []) t.bits t.was_bit)

    went_out : (u : Held InOrderNode) (p : Pos) (es q o gone : List Token) → LoopsAll f d gone (o ++ es) → Going p gone q → Went a f d n u (at p es q o) (exit_bit d) (λ v r b. record (at p es q o) { tuple = r; choice = b; out = o ++ one v }) → Flow u
    went_out u p (e ∷ es) q o gone l g t =
        flow u p es q (o ++ one e) gone _ t.is
        (λ j. record (at p (e ∷ es) q o) {
          tuple = same_tail _ _ _ _ (sym t.was ∙ tuple_cons p e es) j;
          choice = same_tail _ _ _ _ (sym t.was_bit ∙ choice_cons p e es) j;
          out = o ++ one (same_head _ _ _ _ (sym t.was ∙ tuple_cons p e es) j);
        })
        (subst (LoopsAll f d gone) (sym (append_assoc o (one e) es)) l) g
    went_out u (returns_back x true) [] q o gone l g t = absurd (bits_differ d (let k : exit_bit d ∷ [] ≡ back_bit d ∷ [] = one_head _ _ _ t.was_bit in cc))
    went_out u (chooses_back x true) [] q o gone l g t = absurd (bits_differ d (let k : exit_bit d ∷ [] ≡ back_bit d ∷ [] = one_head _ _ _ t.was_bit in cc))
    went_out u _ [] q o gone l g t = absurd (none (exit_bit d ∷ []) t.bits t.was_bit)

    pub flow_fires : (s u : Held InOrderNode) (m : InOrderNode) (k : ℕ) → PlanStep (in_order_plan a f d n) s m (Fire k) u → Flow s → Flow u
    flow_fires s u entry k st h = absurd st.acts
    flow_fires s u exit k st h = absurd st.acts
    flow_fires s u init k st h = init_pos u h.pos h.waits h.q h.o h.gone h.loops h.going (init_moves a f d n s u k st (at h.pos h.waits h.q h.o) h.is)
    flow_fires s u pure k st h = pure_pos u h.pos h.waits h.q h.o h.gone h.loops h.going (pure_moves a f d n s u k st (at h.pos h.waits h.q h.o) h.is)
    flow_fires s u pair k st h = pair_pos u h.pos h.waits h.q h.o h.gone h.loops h.going (pair_moves a f d n s u k st (at h.pos h.waits h.q h.o) h.is)
    flow_fires s u cond k st h = cond_pos u h.pos h.waits h.q h.o h.gone h.loops h.going (cond_moves a f d n s u k st (at h.pos h.waits h.q h.o) h.is)
    flow_fires s u mux k st h =
        let (v, z, way, eg, en) = st.acts in
        elim (mux_way a f d n d v st.taken way) [
          | inl e ↦ fresh_pos u h.pos h.waits h.q h.o h.gone h.loops h.going (mux_fresh a f d n s u k st (at h.pos h.waits h.q h.o) h.is v e.0 e.1 e.2 eg)
          | inr e ↦ back_pos u h.pos h.waits h.q h.o h.gone h.loops h.going (mux_back a f d n s u k st (at h.pos h.waits h.q h.o) h.is v e.0 e.1 e.2 eg)
        ]
    flow_fires s u branch k st h =
        let (v, z, way, en) = st.acts in
        elim (branch_way a f d n d v st.taken st.given way) [
          | inl e ↦ went_back u h.pos h.waits h.q h.o h.gone h.loops h.going (branch_back a f d n s u k st (at h.pos h.waits h.q h.o) h.is v e.0 e.1 e.2)
          | inr e ↦ went_out u h.pos h.waits h.q h.o h.gone h.loops h.going (branch_out a f d n s u k st (at h.pos h.waits h.q h.o) h.is v e.0 e.1 e.2)
        ]

    -- at rest condition, every tuple has looped to its output
    rests_at : (s : Held InOrderNode) (p : Pos) (es q o gone : List Token) → LoopIs d s (at p es q o) → LoopsAll f d gone (o ++ es) → Going p gone q → s.wires mux 1 ≡ one (exit_bit d ∷ []) → s.wires mux (fresh_in d) ≡ [] → s.wires branch 1 ≡ [] → LoopsAll f d all (s.wires exit 1)
    rests_at s chooses es q o gone h l g e_sel e_fresh e_tuple =
        let no_es : es ≡ [] = sym h.tuple ∙ e_tuple in
        let no_q : q ≡ [] = sym h.fresh ∙ e_fresh in
        let all_gone : gone ≡ all = sym (append-nil gone) ∙ ap (λ z. gone ++ z) (sym no_q) ∙ g in
        let outs : o ++ es ≡ s.wires exit 1 = ap (λ z. o ++ z) no_es ∙ append-nil o ∙ sym h.out in
        subst (λ z. LoopsAll f d z (s.wires exit 1)) all_gone (subst (LoopsAll f d gone) outs l)
    rests_at s (chooses_back x b) es q o gone h l g e_sel e_fresh e_tuple =
        absurd (bits_differ d (let k : one (back_bit d ∷ []) ≡ one (exit_bit d ∷ []) = sym h.sel ∙ e_sel in cc))
    rests_at s _ es q o gone h l g e_sel e_fresh e_tuple = absurd (none (exit_bit d ∷ []) [] (sym h.sel ∙ e_sel))

    pub flow_rests : (s : Held InOrderNode) → Flow s → s.wires mux 1 ≡ one (exit_bit d ∷ []) → s.wires mux (fresh_in d) ≡ [] → s.wires branch 1 ≡ [] → LoopsAll f d all (s.wires exit 1)
    flow_rests s h e_sel e_fresh e_tuple = rests_at s h.pos h.waits h.q h.o h.gone h.is h.loops h.going e_sel e_fresh e_tuple

  module _ (x : Naming InOrderNode) where
    abbrev circuit : Circuit
    circuit = built (in_order_plan a f d n) x

    firings_flow : (all : List Token) (s : CircuitState) (fs : List Firing) (t : CircuitState) → Firings circuit s fs t → Flow all (held_of x s) → Flow all (held_of x t)
    firings_flow all s [] t e h = subst (λ z. Flow all (held_of x z)) e h
    firings_flow all s (g ∷ fs) t r h =
        let (m, is) = which_step (in_order_plan a f d n) x s g.node (Fire g.choice) r.0 r.1 in
        let st : Step circuit s (x.name m) (Fire g.choice) r.0 = subst (λ z. Step circuit s z (Fire g.choice) r.0) is r.1 in
        firings_flow all r.0 fs t r.2 (flow_fires all (held_of x s) (held_of x r.0) m g.choice (plan_step (in_order_plan a f d n) x s m (Fire g.choice) r.0 st) h)

    -- nothing is led, so the loop rests where it starts
    rest_is : (s : CircuitState) (fs : List Firing) → AllByRecursion (λ g. Led circuit g.node) fs → Firings circuit (start circuit) fs s → start circuit ≡ s
    rest_is s [] led r = r
    rest_is s (g ∷ fs) led r = absurd (none_led (in_order_plan a f d n) x (no_lead a f d n) g.node led.0)

    start_fresh : (e : Bool) → (plan_start (in_order_plan a f e n)).wires mux (fresh_in e) ≡ []
    start_fresh true = refl
    start_fresh false = refl

    -- what the in-order loop drains
    pub drains_loop : (ins outs : Name → List Token) → Drains circuit ins outs → LoopsAll f d (ins (x.name entry)) (outs (x.name exit))
    drains_loop ins outs h =
        let all = ins (x.name entry) in
        let first : Flow all (plan_loaded (in_order_plan a f d n) x ins) = record { pos = chooses; waits = []; q = all; o = []; gone = []; is = loaded_is a f d n x ins; loops = tt; going = refl } in
        let begins : Flow all (held_of x (loaded circuit ins)) = subst (Flow all) (sym (held_loaded (in_order_plan a f d n) x ins)) first in
        let last : Flow all (held_of x h.end) = firings_flow all (loaded circuit ins) h.firings h.end h.leads begins in
        let at_rest : start circuit ≡ h.rest = rest_is h.rest h.is_rest.firings h.is_rest.led h.is_rest.leads in
        let still : (m : InOrderNode) (i : ℕ) → IsNoExit ((in_order_plan a f d n).kind m) → h.end.wires (record { node = x.name m; port = i }) ≡ (plan_start (in_order_plan a f d n)).wires m i =
        λ m i z.
        h.others (record { node = x.name m; port = i }) ((in_order_plan a f d n).kind m) (kind_named (in_order_plan a f d n) x m) z
        ∙ ap (λ (s : CircuitState). s.wires (record { node = x.name m; port = i })) (sym at_rest)
        ∙ ap (λ (z : Held InOrderNode). z.wires m i) (held_start (in_order_plan a f d n) x) in
        let loops = flow_rests all (held_of x h.end) last (still mux 1 tt) (still mux (fresh_in d) tt ∙ start_fresh d) (still branch 1 tt) in
        subst (LoopsAll f d all) (h.exits (x.name exit) a (kind_named (in_order_plan a f d n) x exit)) loops
