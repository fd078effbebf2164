-- what an in-order loop drains are the tuples and what they loop to
use Rattle.std.proofs.Common.{◌≡◌, ℕ, ◌<◌, ◌⊎◌, inl, inr, refl, sym, ap, ◌∙◌, true, false, Bool, map, List, [], ◌∷◌, ◌++◌, append-nil}
use Rattle.fun_expr.specs.Function.{Function, fun_value}
use Rattle.port_types.specs.Token.{Fits}
use Rattle.components.specs.Kind.{Shape}
use Rattle.circuits.specs.PortTokens.{Token, at_port, one}
use Rattle.circuits.specs.Firing.{Label.Fire}
use Rattle.circuit_plans.proofs.Plans.{Plan, Held, PlanStep, part_from}
use Rattle.tagged_loop.specs.InOrderLoop.{InOrderNode, init, mux, pure, pair, cond, branch, exit}
use Rattle.std.specs.List.{concat}
use Rattle.loop_laws.specs.Polarity.{back_bit, exit_bit, back_out, exit_out, fresh_in, back_in}
use Rattle.tagged_loop.proofs.LoopPlans.{in_order_plan}
use Rattle.tagged_loop.proofs.LoopSteps.{Wires, LoopIs, fresh_source, back_source}
use Rattle.tagged_loop.proofs.RingItems.{keep, two_of}

module _ (a : Shape) (f : Function) (d : Bool) (n : ℕ) where
  abbrev old : Plan InOrderNode
  old = in_order_plan a f d n

  -- what a node that fires takes from the head of its input
  pub record Took (u : Held InOrderNode) (on : List Token) (to : Token → List Token → Wires) : Type 0 where
    pub head : Token
    pub tail : List Token
    pub was : on ≡ head ∷ tail
    pub is : LoopIs d u (to head tail)

  pub init_moves : (s u : Held InOrderNode) (k : ℕ) (st : PlanStep old s init (Fire k) u) (w : Wires) → LoopIs d s w → Took u w.return (λ v r. record w { sel = w.sel ++ one v; return = r })
  init_moves s u k st w h =
      let (v, z, et, eg, en) = st.acts in
      record {
        head = v;
        tail = st.between init 1;
        was = sym h.return ∙ st.takes init 1 ∙ ap (λ z. at_port z 1 ++ st.between init 1) et;
        is = record {
          sel = st.gives mux 1 ∙ ap (λ z. st.between mux 1 ++ at_port z 1) eg ∙ ap (λ z. z ++ one v) (sym (st.takes mux 1) ∙ h.sel);
          fresh = keep _ _ _ (st.takes mux (fresh_in d)) (st.gives mux (fresh_in d) ∙ ap (λ z. st.between mux (fresh_in d) ++ part_from old init st.given z) (fresh_source d)) ∙ h.fresh;
          back = keep _ _ _ (st.takes mux (back_in d)) (st.gives mux (back_in d) ∙ ap (λ z. st.between mux (back_in d) ++ part_from old init st.given z) (back_source d)) ∙ h.back;
          fun = keep _ _ _ (st.takes pure 1) (st.gives pure 1) ∙ h.fun;
          whole = keep _ _ _ (st.takes pair 1) (st.gives pair 1) ∙ h.whole;
          tuple = keep _ _ _ (st.takes branch 1) (st.gives branch 1) ∙ h.tuple;
          bit = keep _ _ _ (st.takes cond 1) (st.gives cond 1) ∙ h.bit;
          choice = keep _ _ _ (st.takes branch 2) (st.gives branch 2) ∙ h.choice;
          return = st.gives init 1 ∙ append-nil _;
          out = keep _ _ _ (st.takes exit 1) (st.gives exit 1) ∙ h.out;
        };
      }

  pub pure_moves : (s u : Held InOrderNode) (k : ℕ) (st : PlanStep old s pure (Fire k) u) (w : Wires) → LoopIs d s w → Took u w.fun (λ v r. record w { fun = r; whole = w.whole ++ one (fun_value f v) })
  pure_moves s u k st w h =
      let (v, z, et, eg, en) = st.acts in
      record {
        head = v;
        tail = st.between pure 1;
        was = sym h.fun ∙ st.takes pure 1 ∙ ap (λ z. at_port z 1 ++ st.between pure 1) et;
        is = record {
          sel = keep _ _ _ (st.takes mux 1) (st.gives mux 1) ∙ h.sel;
          fresh = keep _ _ _ (st.takes mux (fresh_in d)) (st.gives mux (fresh_in d) ∙ ap (λ z. st.between mux (fresh_in d) ++ part_from old pure st.given z) (fresh_source d)) ∙ h.fresh;
          back = keep _ _ _ (st.takes mux (back_in d)) (st.gives mux (back_in d) ∙ ap (λ z. st.between mux (back_in d) ++ part_from old pure st.given z) (back_source d)) ∙ h.back;
          fun = st.gives pure 1 ∙ append-nil _;
          whole = st.gives pair 1 ∙ ap (λ z. st.between pair 1 ++ at_port z 1) eg ∙ ap (λ z. z ++ one (fun_value f v)) (sym (st.takes pair 1) ∙ h.whole);
          tuple = keep _ _ _ (st.takes branch 1) (st.gives branch 1) ∙ h.tuple;
          bit = keep _ _ _ (st.takes cond 1) (st.gives cond 1) ∙ h.bit;
          choice = keep _ _ _ (st.takes branch 2) (st.gives branch 2) ∙ h.choice;
          return = keep _ _ _ (st.takes init 1) (st.gives init 1) ∙ h.return;
          out = keep _ _ _ (st.takes exit 1) (st.gives exit 1) ∙ h.out;
        };
      }

  pub cond_moves : (s u : Held InOrderNode) (k : ℕ) (st : PlanStep old s cond (Fire k) u) (w : Wires) → LoopIs d s w → Took u w.bit (λ v r. record w { bit = r; choice = w.choice ++ one v; return = w.return ++ one v })
  cond_moves s u k st w h =
      let (v, z, et, eg, en) = st.acts in
      record {
        head = v;
        tail = st.between cond 1;
        was = sym h.bit ∙ st.takes cond 1 ∙ ap (λ z. at_port z 1 ++ st.between cond 1) et;
        is = record {
          sel = keep _ _ _ (st.takes mux 1) (st.gives mux 1) ∙ h.sel;
          fresh = keep _ _ _ (st.takes mux (fresh_in d)) (st.gives mux (fresh_in d) ∙ ap (λ z. st.between mux (fresh_in d) ++ part_from old cond st.given z) (fresh_source d)) ∙ h.fresh;
          back = keep _ _ _ (st.takes mux (back_in d)) (st.gives mux (back_in d) ∙ ap (λ z. st.between mux (back_in d) ++ part_from old cond st.given z) (back_source d)) ∙ h.back;
          fun = keep _ _ _ (st.takes pure 1) (st.gives pure 1) ∙ h.fun;
          whole = keep _ _ _ (st.takes pair 1) (st.gives pair 1) ∙ h.whole;
          tuple = keep _ _ _ (st.takes branch 1) (st.gives branch 1) ∙ h.tuple;
          bit = st.gives cond 1 ∙ append-nil _;
          choice = st.gives branch 2 ∙ ap (λ z. st.between branch 2 ++ at_port z 1) eg ∙ ap (λ z. z ++ one v) (sym (st.takes branch 2) ∙ h.choice);
          return = st.gives init 1 ∙ ap (λ z. st.between init 1 ++ at_port z 2) eg ∙ ap (λ z. z ++ one v) (sym (st.takes init 1) ∙ h.return);
          out = keep _ _ _ (st.takes exit 1) (st.gives exit 1) ∙ h.out;
        };
      }

  pub record Cut (u : Held InOrderNode) (w : Wires) : Type 0 where
    pub head : Token
    pub bit : ℕ
    pub tail : List Token
    pub below : bit < 2
    pub was : w.whole ≡ (head ++ bit ∷ []) ∷ tail
    pub is : LoopIs d u (record w { whole = tail; tuple = w.tuple ++ one head; bit = w.bit ++ one (bit ∷ []) })

  one_below : (v : Token) → Fits (1 ∷ []) v → (x : ℕ) × (v ≡ x ∷ []) × (x < 2)
  one_below [] h = absurd h
  one_below (x ∷ []) h = (x, refl, h.0)
  one_below (x ∷ y ∷ ys) h = absurd h.1

  pub pair_moves : (s u : Held InOrderNode) (k : ℕ) (st : PlanStep old s pair (Fire k) u) (w : Wires) → LoopIs d s w → Cut u w
  pair_moves s u k st w h =
      let (vs, z, each, et, eg, en) = st.acts in
      let two = two_of a (1 ∷ []) vs each in
      let (c, is_c, lt) = one_below two.right two.right_fits in
      let token : concat vs ≡ two.left ++ c ∷ [] = ap concat two.is ∙ ap (λ z. two.left ++ (z ++ [])) is_c in
      let gave : st.given ≡ one two.left ∷ one (c ∷ []) ∷ [] = eg ∙ ap (map one) two.is ∙ ap (λ z. one two.left ∷ one z ∷ []) is_c in
      record {
        head = two.left;
        bit = c;
        tail = st.between pair 1;
        below = lt;
        was = sym h.whole ∙ st.takes pair 1 ∙ ap (λ z. at_port z 1 ++ st.between pair 1) et ∙ ap (λ z. z ∷ st.between pair 1) token;
        is = record {
          sel = keep _ _ _ (st.takes mux 1) (st.gives mux 1) ∙ h.sel;
          fresh = keep _ _ _ (st.takes mux (fresh_in d)) (st.gives mux (fresh_in d) ∙ ap (λ z. st.between mux (fresh_in d) ++ part_from old pair st.given z) (fresh_source d)) ∙ h.fresh;
          back = keep _ _ _ (st.takes mux (back_in d)) (st.gives mux (back_in d) ∙ ap (λ z. st.between mux (back_in d) ++ part_from old pair st.given z) (back_source d)) ∙ h.back;
          fun = keep _ _ _ (st.takes pure 1) (st.gives pure 1) ∙ h.fun;
          whole = st.gives pair 1 ∙ append-nil _;
          tuple = st.gives branch 1 ∙ ap (λ z. st.between branch 1 ++ at_port z 1) gave ∙ ap (λ z. z ++ one two.left) (sym (st.takes branch 1) ∙ h.tuple);
          bit = st.gives cond 1 ∙ ap (λ z. st.between cond 1 ++ at_port z 2) gave ∙ ap (λ z. z ++ one (c ∷ [])) (sym (st.takes cond 1) ∙ h.bit);
          choice = keep _ _ _ (st.takes branch 2) (st.gives branch 2) ∙ h.choice;
          return = keep _ _ _ (st.takes init 1) (st.gives init 1) ∙ h.return;
          out = keep _ _ _ (st.takes exit 1) (st.gives exit 1) ∙ h.out;
        };
      }

  pub record Went (u : Held InOrderNode) (w : Wires) (bit : ℕ) (to : Token → List Token → List Token → Wires) : Type 0 where
    pub head : Token
    pub tail : List Token
    pub bits : List Token
    pub was : w.tuple ≡ head ∷ tail
    pub was_bit : w.choice ≡ (bit ∷ []) ∷ bits
    pub is : LoopIs d u (to head tail bits)

  pub branch_way : (e : Bool) (v : Token) (took gave : List (List Token)) → ((took ≡ one v ∷ one (1 ∷ []) ∷ []) × (gave ≡ one v ∷ [])) ⊎ ((took ≡ one v ∷ one (0 ∷ []) ∷ []) × (gave ≡ [] ∷ one v ∷ [])) → ((took ≡ one v ∷ one (back_bit e ∷ []) ∷ []) × (at_port gave (back_out e) ≡ one v) × (at_port gave (exit_out e) ≡ [])) ⊎ ((took ≡ one v ∷ one (exit_bit e ∷ []) ∷ []) × (at_port gave (exit_out e) ≡ one v) × (at_port gave (back_out e) ≡ []))
  branch_way true v took gave (inl h) = inl (h.0, ap (λ z. at_port z 1) h.1, ap (λ z. at_port z 2) h.1)
  branch_way true v took gave (inr h) = inr (h.0, ap (λ z. at_port z 2) h.1, ap (λ z. at_port z 1) h.1)
  branch_way false v took gave (inl h) = inr (h.0, ap (λ z. at_port z 1) h.1, ap (λ z. at_port z 2) h.1)
  branch_way false v took gave (inr h) = inl (h.0, ap (λ z. at_port z 2) h.1, ap (λ z. at_port z 1) h.1)

  pub branch_back : (s u : Held InOrderNode) (k : ℕ) (st : PlanStep old s branch (Fire k) u) (w : Wires) → LoopIs d s w → (v : Token) → st.taken ≡ one v ∷ one (back_bit d ∷ []) ∷ [] → at_port st.given (back_out d) ≡ one v → at_port st.given (exit_out d) ≡ [] → Went u w (back_bit d) (λ v r b. record w { tuple = r; choice = b; back = w.back ++ one v })
  branch_back s u k st w h v et eg eo =
      record {
        head = v;
        tail = st.between branch 1;
        bits = st.between branch 2;
        was = sym h.tuple ∙ st.takes branch 1 ∙ ap (λ z. at_port z 1 ++ st.between branch 1) et;
        was_bit = sym h.choice ∙ st.takes branch 2 ∙ ap (λ z. at_port z 2 ++ st.between branch 2) et;
        is = record {
          sel = keep _ _ _ (st.takes mux 1) (st.gives mux 1) ∙ h.sel;
          fresh = keep _ _ _ (st.takes mux (fresh_in d)) (st.gives mux (fresh_in d) ∙ ap (λ z. st.between mux (fresh_in d) ++ part_from old branch st.given z) (fresh_source d)) ∙ h.fresh;
          back = st.gives mux (back_in d) ∙ ap (λ z. st.between mux (back_in d) ++ part_from old branch st.given z) (back_source d) ∙ (λ j. (sym (st.takes mux (back_in d)) ∙ h.back) j ++ eg j);
          fun = keep _ _ _ (st.takes pure 1) (st.gives pure 1) ∙ h.fun;
          whole = keep _ _ _ (st.takes pair 1) (st.gives pair 1) ∙ h.whole;
          tuple = st.gives branch 1 ∙ append-nil _;
          bit = keep _ _ _ (st.takes cond 1) (st.gives cond 1) ∙ h.bit;
          choice = st.gives branch 2 ∙ append-nil _;
          return = keep _ _ _ (st.takes init 1) (st.gives init 1) ∙ h.return;
          out = st.gives exit 1 ∙ ap (λ z. st.between exit 1 ++ z) eo ∙ append-nil _ ∙ sym (st.takes exit 1) ∙ h.out;
        };
      }

  pub branch_out : (s u : Held InOrderNode) (k : ℕ) (st : PlanStep old s branch (Fire k) u) (w : Wires) → LoopIs d s w → (v : Token) → st.taken ≡ one v ∷ one (exit_bit d ∷ []) ∷ [] → at_port st.given (exit_out d) ≡ one v → at_port st.given (back_out d) ≡ [] → Went u w (exit_bit d) (λ v r b. record w { tuple = r; choice = b; out = w.out ++ one v })
  branch_out s u k st w h v et eg eo =
      record {
        head = v;
        tail = st.between branch 1;
        bits = st.between branch 2;
        was = sym h.tuple ∙ st.takes branch 1 ∙ ap (λ z. at_port z 1 ++ st.between branch 1) et;
        was_bit = sym h.choice ∙ st.takes branch 2 ∙ ap (λ z. at_port z 2 ++ st.between branch 2) et;
        is = record {
          sel = keep _ _ _ (st.takes mux 1) (st.gives mux 1) ∙ h.sel;
          fresh = keep _ _ _ (st.takes mux (fresh_in d)) (st.gives mux (fresh_in d) ∙ ap (λ z. st.between mux (fresh_in d) ++ part_from old branch st.given z) (fresh_source d)) ∙ h.fresh;
          back = st.gives mux (back_in d) ∙ ap (λ z. st.between mux (back_in d) ++ part_from old branch st.given z) (back_source d) ∙ ap (λ z. st.between mux (back_in d) ++ z) eo ∙ append-nil _ ∙ sym (st.takes mux (back_in d)) ∙ h.back;
          fun = keep _ _ _ (st.takes pure 1) (st.gives pure 1) ∙ h.fun;
          whole = keep _ _ _ (st.takes pair 1) (st.gives pair 1) ∙ h.whole;
          tuple = st.gives branch 1 ∙ append-nil _;
          bit = keep _ _ _ (st.takes cond 1) (st.gives cond 1) ∙ h.bit;
          choice = st.gives branch 2 ∙ append-nil _;
          return = keep _ _ _ (st.takes init 1) (st.gives init 1) ∙ h.return;
          out = st.gives exit 1 ∙ (λ j. (sym (st.takes exit 1) ∙ h.out) j ++ eg j);
        };
      }

  pub mux_way : (e : Bool) (v : Token) (took : List (List Token)) → (took ≡ one (0 ∷ []) ∷ one v ∷ []) ⊎ (took ≡ one (1 ∷ []) ∷ [] ∷ one v ∷ []) → ((at_port took 1 ≡ one (exit_bit e ∷ [])) × (at_port took (fresh_in e) ≡ one v) × (at_port took (back_in e) ≡ [])) ⊎ ((at_port took 1 ≡ one (back_bit e ∷ [])) × (at_port took (back_in e) ≡ one v) × (at_port took (fresh_in e) ≡ []))
  mux_way true v took (inl h) = inl (ap (λ z. at_port z 1) h, ap (λ z. at_port z 2) h, ap (λ z. at_port z 3) h)
  mux_way true v took (inr h) = inr (ap (λ z. at_port z 1) h, ap (λ z. at_port z 3) h, ap (λ z. at_port z 2) h)
  mux_way false v took (inl h) = inr (ap (λ z. at_port z 1) h, ap (λ z. at_port z 2) h, ap (λ z. at_port z 3) h)
  mux_way false v took (inr h) = inl (ap (λ z. at_port z 1) h, ap (λ z. at_port z 3) h, ap (λ z. at_port z 2) h)

  pub record Chose (u : Held InOrderNode) (w : Wires) (bit : ℕ) (on : List Token) (to : Token → List Token → List Token → Wires) : Type 0 where
    pub head : Token
    pub tail : List Token
    pub bits : List Token
    pub was : on ≡ head ∷ tail
    pub was_bit : w.sel ≡ (bit ∷ []) ∷ bits
    pub is : LoopIs d u (to head tail bits)

  pub mux_fresh : (s u : Held InOrderNode) (k : ℕ) (st : PlanStep old s mux (Fire k) u) (w : Wires) → LoopIs d s w → (v : Token) → at_port st.taken 1 ≡ one (exit_bit d ∷ []) → at_port st.taken (fresh_in d) ≡ one v → at_port st.taken (back_in d) ≡ [] → st.given ≡ one v ∷ [] → Chose u w (exit_bit d) w.fresh (λ v r b. record w { sel = b; fresh = r; fun = w.fun ++ one v })
  mux_fresh s u k st w h v e1 e2 eo eg =
      record {
        head = v;
        tail = st.between mux (fresh_in d);
        bits = st.between mux 1;
        was = sym h.fresh ∙ st.takes mux (fresh_in d) ∙ ap (λ z. z ++ st.between mux (fresh_in d)) e2;
        was_bit = sym h.sel ∙ st.takes mux 1 ∙ ap (λ z. z ++ st.between mux 1) e1;
        is = record {
          sel = st.gives mux 1 ∙ append-nil _;
          fresh = (st.gives mux (fresh_in d) ∙ ap (λ z. st.between mux (fresh_in d) ++ part_from old mux st.given z) (fresh_source d) ∙ append-nil _);
          back = (st.gives mux (back_in d) ∙ ap (λ z. st.between mux (back_in d) ++ part_from old mux st.given z) (back_source d) ∙ append-nil _) ∙ sym (st.takes mux (back_in d) ∙ ap (λ z. z ++ st.between mux (back_in d)) eo) ∙ h.back;
          fun = st.gives pure 1 ∙ ap (λ z. st.between pure 1 ++ at_port z 1) eg ∙ ap (λ z. z ++ one v) (sym (st.takes pure 1) ∙ h.fun);
          whole = keep _ _ _ (st.takes pair 1) (st.gives pair 1) ∙ h.whole;
          tuple = keep _ _ _ (st.takes branch 1) (st.gives branch 1) ∙ h.tuple;
          bit = keep _ _ _ (st.takes cond 1) (st.gives cond 1) ∙ h.bit;
          choice = keep _ _ _ (st.takes branch 2) (st.gives branch 2) ∙ h.choice;
          return = keep _ _ _ (st.takes init 1) (st.gives init 1) ∙ h.return;
          out = keep _ _ _ (st.takes exit 1) (st.gives exit 1) ∙ h.out;
        };
      }

  pub mux_back : (s u : Held InOrderNode) (k : ℕ) (st : PlanStep old s mux (Fire k) u) (w : Wires) → LoopIs d s w → (v : Token) → at_port st.taken 1 ≡ one (back_bit d ∷ []) → at_port st.taken (back_in d) ≡ one v → at_port st.taken (fresh_in d) ≡ [] → st.given ≡ one v ∷ [] → Chose u w (back_bit d) w.back (λ v r b. record w { sel = b; back = r; fun = w.fun ++ one v })
  mux_back s u k st w h v e1 e2 eo eg =
      record {
        head = v;
        tail = st.between mux (back_in d);
        bits = st.between mux 1;
        was = sym h.back ∙ st.takes mux (back_in d) ∙ ap (λ z. z ++ st.between mux (back_in d)) e2;
        was_bit = sym h.sel ∙ st.takes mux 1 ∙ ap (λ z. z ++ st.between mux 1) e1;
        is = record {
          sel = st.gives mux 1 ∙ append-nil _;
          fresh = (st.gives mux (fresh_in d) ∙ ap (λ z. st.between mux (fresh_in d) ++ part_from old mux st.given z) (fresh_source d) ∙ append-nil _) ∙ sym (st.takes mux (fresh_in d) ∙ ap (λ z. z ++ st.between mux (fresh_in d)) eo) ∙ h.fresh;
          back = (st.gives mux (back_in d) ∙ ap (λ z. st.between mux (back_in d) ++ part_from old mux st.given z) (back_source d) ∙ append-nil _);
          fun = st.gives pure 1 ∙ ap (λ z. st.between pure 1 ++ at_port z 1) eg ∙ ap (λ z. z ++ one v) (sym (st.takes pure 1) ∙ h.fun);
          whole = keep _ _ _ (st.takes pair 1) (st.gives pair 1) ∙ h.whole;
          tuple = keep _ _ _ (st.takes branch 1) (st.gives branch 1) ∙ h.tuple;
          bit = keep _ _ _ (st.takes cond 1) (st.gives cond 1) ∙ h.bit;
          choice = keep _ _ _ (st.takes branch 2) (st.gives branch 2) ∙ h.choice;
          return = keep _ _ _ (st.takes init 1) (st.gives init 1) ∙ h.return;
          out = keep _ _ _ (st.takes exit 1) (st.gives exit 1) ∙ h.out;
        };
      }
