-- The steps of an in-order loop.
use Rattle.std.proofs.Common.{◌≡◌, ℕ, ◌<◌, inl, inr, refl, sym, ap, ◌∙◌, true, false, not, Bool, if◌then◌else◌, List, [], ◌∷◌, ◌++◌, append-nil}
use Rattle.port_types.specs.Token.{Fits}
use Rattle.fun_expr.specs.Function.{Function, fun_value}
use Rattle.components.specs.declared.kind.Kind.TheVariants.{Mux, Branch}
use Rattle.components.specs.Kind.{Shape}
use Rattle.circuits.specs.PortTokens.{Token, at_port, one}
use Rattle.circuits.specs.Firing.{Label.Fire, Acts}
use Rattle.circuits.specs.CircuitState.{Slot}
use Rattle.circuit_plans.specs.Plans.{from}
use Rattle.circuit_plans.proofs.Plans.{Plan, Held, PlanStep, PlanInner, rest, fires, part_from, plan_then}
use Rattle.circuit_plans.proofs.PlanAfter.{after, do_step, pop1, pop12, pop13, pop1_takes, pop12_takes, pop13_takes}
use Rattle.tagged_loop.specs.InOrderLoop.{InOrderNode, entry, init, mux, pure, pair, cond, branch, exit}
use Rattle.loop_laws.specs.Polarity.{back_bit, exit_bit, back_out, exit_out, back_in, fresh_in}
use Rattle.tagged_loop.proofs.LoopPlans.{in_order_plan, in_order_source}

pub fresh_source : (d : Bool) → in_order_source d mux (fresh_in d) ≡ from entry 1
fresh_source true = refl
fresh_source false = refl

pub back_source : (d : Bool) → in_order_source d mux (back_in d) ≡ from branch (back_out d)
back_source true = refl
back_source false = refl

-- what each wire holds
pub record Wires : Type 0 where
  pub sel : List Token
  pub fresh : List Token
  pub back : List Token
  pub fun : List Token
  pub whole : List Token
  pub tuple : List Token
  pub bit : List Token
  pub choice : List Token
  pub return : List Token
  pub out : List Token

abbrev pub quiet : List Token → List Token → Wires
quiet q o = record { sel = []; fresh = q; back = []; fun = []; whole = []; tuple = []; bit = []; choice = []; return = []; out = o }

-- ready for the Mux, with a choice at its select and these at its back input
abbrev pub ready : List Token → ℕ → List Token → List Token → Wires
ready b c q o = record (quiet q o) { sel = one (c ∷ []); back = b }

abbrev pub loaded : Token → List Token → List Token → Wires
loaded x q o = record (quiet q o) { fun = one x }

abbrev pub valued : Token → List Token → List Token → Wires
valued z q o = record (quiet q o) { whole = one z }

abbrev pub paired : Token → ℕ → List Token → List Token → Wires
paired y c q o = record (quiet q o) { tuple = one y; bit = one (c ∷ []) }

abbrev pub forked : Token → ℕ → List Token → List Token → Wires
forked y c q o = record (quiet q o) { tuple = one y; choice = one (c ∷ []); return = one (c ∷ []) }

abbrev pub chosen : List Token → ℕ → List Token → List Token → Wires
chosen b c q o = record (quiet q o) { back = b; return = one (c ∷ []) }

pub record LoopIs (d : Bool) (t : Held InOrderNode) (w : Wires) : Type 0 where
  pub sel : t.wires mux 1 ≡ w.sel
  pub fresh : t.wires mux (fresh_in d) ≡ w.fresh
  pub back : t.wires mux (back_in d) ≡ w.back
  pub fun : t.wires pure 1 ≡ w.fun
  pub whole : t.wires pair 1 ≡ w.whole
  pub tuple : t.wires branch 1 ≡ w.tuple
  pub bit : t.wires cond 1 ≡ w.bit
  pub choice : t.wires branch 2 ≡ w.choice
  pub return : t.wires init 1 ≡ w.return
  pub out : t.wires exit 1 ≡ w.out

module _ (a : Shape) (f : Function) (d : Bool) (n : ℕ) where
  abbrev pub old : Plan InOrderNode
  old = in_order_plan a f d n

  -- some firings lead to a state with these wires
  pub record LeadsTo (t : Held InOrderNode) (w : Wires) : Type 0 where
    pub to : Held InOrderNode
    pub inner : PlanInner old to t
    pub is : LoopIs d to w

  pub one_fire : (t u : Held InOrderNode) (m : InOrderNode) (w : Wires) → PlanStep old t m (Fire 0) u → LoopIs d u w → LeadsTo t w
  one_fire t u m w st h = record { to = u; inner = fires m 0 u st rest; is = h }

  pub leads_then : (t : Held InOrderNode) (w x : Wires) → LeadsTo t w → ((u : Held InOrderNode) → LoopIs d u w → LeadsTo u x) → LeadsTo t x
  leads_then t w x g k =
      let h = k g.to g.is in record { to = h.to; inner = plan_then old h.to g.to t g.inner h.inner; is = h.is }

  -- at the two inputs of the Mux that no node but entry and branch feeds
  pub still_fresh : (t : Held InOrderNode) (m : InOrderNode) (given : List (List Token)) (x : List Token) → part_from old m given (from entry 1) ≡ [] → x ++ part_from old m given (in_order_source d mux (fresh_in d)) ≡ x
  still_fresh t m given x e = ap (λ o. x ++ part_from old m given o) (fresh_source d) ∙ ap (λ z. x ++ z) e ∙ append-nil x

  pub still_back : (t : Held InOrderNode) (m : InOrderNode) (given : List (List Token)) (x : List Token) → part_from old m given (from branch (back_out d)) ≡ [] → x ++ part_from old m given (in_order_source d mux (back_in d)) ≡ x
  still_back t m given x e = ap (λ o. x ++ part_from old m given o) (back_source d) ∙ ap (λ z. x ++ z) e ∙ append-nil x

  pub go_pure : (t : Held InOrderNode) (x : Token) (q o : List Token) → LoopIs d t (loaded x q o) → LeadsTo t (valued (fun_value f x) q o)
  go_pure t x q o h =
      one_fire t (after old t pure (pop1 (t.wires pure) []) (one (fun_value f x) ∷ []) (t.slots pure)) pure (valued (fun_value f x) q o)
      (do_step old t pure (Fire 0) (one x ∷ []) (one (fun_value f x) ∷ []) (t.slots pure) (pop1 (t.wires pure) []) (x, refl, refl, refl, refl) (pop1_takes (t.wires pure) x [] h.fun))
      (record {
        sel = append-nil _ ∙ h.sel;
        fresh = still_fresh t pure (one (fun_value f x) ∷ []) (t.wires mux (fresh_in d)) refl ∙ h.fresh;
        back = still_back t pure (one (fun_value f x) ∷ []) (t.wires mux (back_in d)) refl ∙ h.back;
        fun = refl;
        whole = ap (λ z. z ++ one (fun_value f x)) h.whole;
        tuple = append-nil _ ∙ h.tuple;
        bit = append-nil _ ∙ h.bit;
        choice = append-nil _ ∙ h.choice;
        return = append-nil _ ∙ h.return;
        out = append-nil _ ∙ h.out;
      })

  pub go_pair : (t : Held InOrderNode) (z y : Token) (c : ℕ) (q o : List Token) → (e : y ++ c ∷ [] ≡ z) → (fy : Fits a y) → (lt : c < 2) → (h : LoopIs d t (valued z q o)) → LeadsTo t (paired y c q o)
  go_pair t z y c q o e fy lt h =
      one_fire t (after old t pair (pop1 (t.wires pair) []) (one y ∷ one (c ∷ []) ∷ []) (t.slots pair)) pair (paired y c q o)
      (do_step old t pair (Fire 0) (one z ∷ []) (one y ∷ one (c ∷ []) ∷ []) (t.slots pair) (pop1 (t.wires pair) []) (y ∷ (c ∷ []) ∷ [], refl, (fy, ((lt, tt), tt)), ap (λ x. one x ∷ []) (sym e), refl, refl) (pop1_takes (t.wires pair) z [] h.whole))
      (record {
        sel = append-nil _ ∙ h.sel;
        fresh = still_fresh t pair (one y ∷ one (c ∷ []) ∷ []) (t.wires mux (fresh_in d)) refl ∙ h.fresh;
        back = still_back t pair (one y ∷ one (c ∷ []) ∷ []) (t.wires mux (back_in d)) refl ∙ h.back;
        fun = append-nil _ ∙ h.fun;
        whole = refl;
        tuple = ap (λ x. x ++ one y) h.tuple;
        bit = ap (λ x. x ++ one (c ∷ [])) h.bit;
        choice = append-nil _ ∙ h.choice;
        return = append-nil _ ∙ h.return;
        out = append-nil _ ∙ h.out;
      })

  pub go_cond : (t : Held InOrderNode) (y : Token) (c : ℕ) (q o : List Token) → (h : LoopIs d t (paired y c q o)) → LeadsTo t (forked y c q o)
  go_cond t y c q o h =
      one_fire t (after old t cond (pop1 (t.wires cond) []) (one (c ∷ []) ∷ one (c ∷ []) ∷ []) (t.slots cond)) cond (forked y c q o)
      (do_step old t cond (Fire 0) (one (c ∷ []) ∷ []) (one (c ∷ []) ∷ one (c ∷ []) ∷ []) (t.slots cond) (pop1 (t.wires cond) []) (c ∷ [], refl, refl, refl, refl) (pop1_takes (t.wires cond) (c ∷ []) [] h.bit))
      (record {
        sel = append-nil _ ∙ h.sel;
        fresh = still_fresh t cond (one (c ∷ []) ∷ one (c ∷ []) ∷ []) (t.wires mux (fresh_in d)) refl ∙ h.fresh;
        back = still_back t cond (one (c ∷ []) ∷ one (c ∷ []) ∷ []) (t.wires mux (back_in d)) refl ∙ h.back;
        fun = append-nil _ ∙ h.fun;
        whole = append-nil _ ∙ h.whole;
        tuple = append-nil _ ∙ h.tuple;
        bit = refl;
        choice = ap (λ x. x ++ one (c ∷ [])) h.choice;
        return = ap (λ x. x ++ one (c ∷ [])) h.return;
        out = append-nil _ ∙ h.out;
      })

  -- what the Branch gives where the tuple goes back, and where it goes out
  abbrev pub given_back : Bool → Token → List (List Token)
  given_back e y = if e then one y ∷ [] else [] ∷ one y ∷ []

  pub branch_acts : (e : Bool) (y : Token) (slots : List Slot) → Acts (Branch a) (Fire 0) slots (one y ∷ one (back_bit e ∷ []) ∷ []) (given_back e y) slots
  branch_acts true y slots = (y, refl, inl (refl, refl), refl)
  branch_acts false y slots = (y, refl, inr (refl, refl), refl)

  pub branch_exits : (e : Bool) (y : Token) (slots : List Slot) → Acts (Branch a) (Fire 0) slots (one y ∷ one (exit_bit e ∷ []) ∷ []) (given_back (not e) y) slots
  branch_exits true y slots = (y, refl, inr (refl, refl), refl)
  branch_exits false y slots = (y, refl, inl (refl, refl), refl)

  pub back_gets : (e : Bool) (y : Token) → at_port (given_back e y) (back_out e) ≡ one y
  back_gets true y = refl
  back_gets false y = refl

  pub exit_gets_none : (e : Bool) (y : Token) → at_port (given_back e y) (exit_out e) ≡ []
  exit_gets_none true y = refl
  exit_gets_none false y = refl

  pub exit_gets : (e : Bool) (y : Token) → at_port (given_back (not e) y) (exit_out e) ≡ one y
  exit_gets true y = refl
  exit_gets false y = refl

  pub back_gets_none : (e : Bool) (y : Token) → at_port (given_back (not e) y) (back_out e) ≡ []
  back_gets_none true y = refl
  back_gets_none false y = refl

  pub go_back : (t : Held InOrderNode) (y : Token) (q o : List Token) → (h : LoopIs d t (forked y (back_bit d) q o)) → LeadsTo t (chosen (one y) (back_bit d) q o)
  go_back t y q o h =
      one_fire t (after old t branch (pop12 (t.wires branch) [] []) (given_back d y) (t.slots branch)) branch (chosen (one y) (back_bit d) q o)
      (do_step old t branch (Fire 0) (one y ∷ one (back_bit d ∷ []) ∷ []) (given_back d y) (t.slots branch) (pop12 (t.wires branch) [] []) (branch_acts d y (t.slots branch)) (pop12_takes (t.wires branch) y (back_bit d ∷ []) [] [] h.tuple h.choice))
      (record {
        sel = append-nil _ ∙ h.sel;
        fresh = still_fresh t branch (given_back d y) (t.wires mux (fresh_in d)) refl ∙ h.fresh;
        back = ap (λ z. t.wires mux (back_in d) ++ part_from old branch (given_back d y) z) (back_source d) ∙ (λ i. h.back i ++ back_gets d y i);
        fun = append-nil _ ∙ h.fun;
        whole = append-nil _ ∙ h.whole;
        tuple = refl;
        bit = append-nil _ ∙ h.bit;
        choice = refl;
        return = append-nil _ ∙ h.return;
        out = ap (λ z. t.wires exit 1 ++ z) (exit_gets_none d y) ∙ append-nil _ ∙ h.out;
      })

  pub go_exit : (t : Held InOrderNode) (y : Token) (q o : List Token) → (h : LoopIs d t (forked y (exit_bit d) q o)) → LeadsTo t (chosen [] (exit_bit d) q (o ++ one y))
  go_exit t y q o h =
      one_fire t (after old t branch (pop12 (t.wires branch) [] []) (given_back (not d) y) (t.slots branch)) branch (chosen [] (exit_bit d) q (o ++ one y))
      (do_step old t branch (Fire 0) (one y ∷ one (exit_bit d ∷ []) ∷ []) (given_back (not d) y) (t.slots branch) (pop12 (t.wires branch) [] []) (branch_exits d y (t.slots branch)) (pop12_takes (t.wires branch) y (exit_bit d ∷ []) [] [] h.tuple h.choice))
      (record {
        sel = append-nil _ ∙ h.sel;
        fresh = still_fresh t branch (given_back (not d) y) (t.wires mux (fresh_in d)) refl ∙ h.fresh;
        back = ap (λ z. t.wires mux (back_in d) ++ part_from old branch (given_back (not d) y) z) (back_source d) ∙ (λ i. h.back i ++ back_gets_none d y i);
        fun = append-nil _ ∙ h.fun;
        whole = append-nil _ ∙ h.whole;
        tuple = refl;
        bit = append-nil _ ∙ h.bit;
        choice = refl;
        return = append-nil _ ∙ h.return;
        out = (λ i. h.out i ++ exit_gets d y i);
      })

  pub go_init : (t : Held InOrderNode) (b : List Token) (c : ℕ) (q o : List Token) → (h : LoopIs d t (chosen b c q o)) → LeadsTo t (ready b c q o)
  go_init t b c q o h =
      one_fire t (after old t init (pop1 (t.wires init) []) (one (c ∷ []) ∷ []) (t.slots init)) init (ready b c q o)
      (do_step old t init (Fire 0) (one (c ∷ []) ∷ []) (one (c ∷ []) ∷ []) (t.slots init) (pop1 (t.wires init) []) (c ∷ [], refl, refl, refl, refl) (pop1_takes (t.wires init) (c ∷ []) [] h.return))
      (record {
        sel = ap (λ x. x ++ one (c ∷ [])) h.sel;
        fresh = still_fresh t init (one (c ∷ []) ∷ []) (t.wires mux (fresh_in d)) refl ∙ h.fresh;
        back = still_back t init (one (c ∷ []) ∷ []) (t.wires mux (back_in d)) refl ∙ h.back;
        fun = append-nil _ ∙ h.fun;
        whole = append-nil _ ∙ h.whole;
        tuple = append-nil _ ∙ h.tuple;
        bit = append-nil _ ∙ h.bit;
        choice = append-nil _ ∙ h.choice;
        return = refl;
        out = append-nil _ ∙ h.out;
      })

  -- the Mux takes from its fresh input, and from its back input
  abbrev fresh_taken : Bool → Token → List (List Token)
  fresh_taken e x = if e then one (0 ∷ []) ∷ one x ∷ [] else one (1 ∷ []) ∷ [] ∷ one x ∷ []

  abbrev fresh_left : Bool → (ℕ → List Token) → List Token → ℕ → List Token
  fresh_left e w q = if e then pop12 w [] q else pop13 w [] q

  fresh_takes : (e : Bool) (w : ℕ → List Token) (x : Token) (q : List Token) → w 1 ≡ one (exit_bit e ∷ []) → w (fresh_in e) ≡ x ∷ q → (i : ℕ) → w i ≡ at_port (fresh_taken e x) i ++ fresh_left e w q i
  fresh_takes true w x q g h i = pop12_takes w (0 ∷ []) x [] q g h i
  fresh_takes false w x q g h i = pop13_takes w (1 ∷ []) x [] q g h i

  fresh_acts : (e : Bool) (x : Token) (slots : List Slot) → Acts (Mux a) (Fire 0) slots (fresh_taken e x) (one x ∷ []) slots
  fresh_acts true x slots = (x, refl, inl refl, refl, refl)
  fresh_acts false x slots = (x, refl, inr refl, refl, refl)

  fresh_left_sel : (e : Bool) (w : ℕ → List Token) (q : List Token) → fresh_left e w q 1 ≡ []
  fresh_left_sel true w q = refl
  fresh_left_sel false w q = refl

  fresh_left_own : (e : Bool) (w : ℕ → List Token) (q : List Token) → fresh_left e w q (fresh_in e) ≡ q
  fresh_left_own true w q = refl
  fresh_left_own false w q = refl

  fresh_left_other : (e : Bool) (w : ℕ → List Token) (q : List Token) → fresh_left e w q (back_in e) ≡ w (back_in e)
  fresh_left_other true w q = refl
  fresh_left_other false w q = refl

  back_taken_is : (e : Bool) (w : ℕ → List Token) (x : Token) (q : List Token) → w 1 ≡ one (back_bit e ∷ []) → w (back_in e) ≡ x ∷ q → (i : ℕ) → w i ≡ at_port (fresh_taken (not e) x) i ++ fresh_left (not e) w q i
  back_taken_is true w x q g h i = pop13_takes w (1 ∷ []) x [] q g h i
  back_taken_is false w x q g h i = pop12_takes w (0 ∷ []) x [] q g h i

  back_left_own : (e : Bool) (w : ℕ → List Token) (q : List Token) → fresh_left (not e) w q (back_in e) ≡ q
  back_left_own true w q = refl
  back_left_own false w q = refl

  back_left_other : (e : Bool) (w : ℕ → List Token) (q : List Token) → fresh_left (not e) w q (fresh_in e) ≡ w (fresh_in e)
  back_left_other true w q = refl
  back_left_other false w q = refl

  pub go_enter : (t : Held InOrderNode) (x : Token) (q o : List Token) → (h : LoopIs d t (ready [] (exit_bit d) (x ∷ q) o)) → LeadsTo t (loaded x q o)
  go_enter t x q o h =
      one_fire t (after old t mux (fresh_left d (t.wires mux) q) (one x ∷ []) (t.slots mux)) mux (loaded x q o)
      (do_step old t mux (Fire 0) (fresh_taken d x) (one x ∷ []) (t.slots mux) (fresh_left d (t.wires mux) q) (fresh_acts d x (t.slots mux)) (fresh_takes d (t.wires mux) x q h.sel h.fresh))
      (record {
        sel = append-nil _ ∙ fresh_left_sel d (t.wires mux) q;
        fresh = still_fresh t mux (one x ∷ []) (fresh_left d (t.wires mux) q (fresh_in d)) refl ∙ fresh_left_own d (t.wires mux) q;
        back = still_back t mux (one x ∷ []) (fresh_left d (t.wires mux) q (back_in d)) refl ∙ fresh_left_other d (t.wires mux) q ∙ h.back;
        fun = ap (λ z. z ++ one x) h.fun;
        whole = append-nil _ ∙ h.whole;
        tuple = append-nil _ ∙ h.tuple;
        bit = append-nil _ ∙ h.bit;
        choice = append-nil _ ∙ h.choice;
        return = append-nil _ ∙ h.return;
        out = append-nil _ ∙ h.out;
      })

  pub go_again : (t : Held InOrderNode) (x : Token) (q o : List Token) → (h : LoopIs d t (ready (one x) (back_bit d) q o)) → LeadsTo t (loaded x q o)
  go_again t x q o h =
      one_fire t (after old t mux (fresh_left (not d) (t.wires mux) []) (one x ∷ []) (t.slots mux)) mux (loaded x q o)
      (do_step old t mux (Fire 0) (fresh_taken (not d) x) (one x ∷ []) (t.slots mux) (fresh_left (not d) (t.wires mux) []) (fresh_acts (not d) x (t.slots mux)) (back_taken_is d (t.wires mux) x [] h.sel h.back))
      (record {
        sel = append-nil _ ∙ fresh_left_sel (not d) (t.wires mux) [];
        fresh = still_fresh t mux (one x ∷ []) (fresh_left (not d) (t.wires mux) [] (fresh_in d)) refl ∙ back_left_other d (t.wires mux) [] ∙ h.fresh;
        back = still_back t mux (one x ∷ []) (fresh_left (not d) (t.wires mux) [] (back_in d)) refl ∙ back_left_own d (t.wires mux) [];
        fun = ap (λ z. z ++ one x) h.fun;
        whole = append-nil _ ∙ h.whole;
        tuple = append-nil _ ∙ h.tuple;
        bit = append-nil _ ∙ h.bit;
        choice = append-nil _ ∙ h.choice;
        return = append-nil _ ∙ h.return;
        out = append-nil _ ∙ h.out;
      })
