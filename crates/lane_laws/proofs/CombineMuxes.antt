-- one Mux of the lanes' values together matches the Muxes of the lanes
use Rattle.std.proofs.Common.{◌≡◌, ℕ, zero, suc, inl, inr, refl, sym, ap, subst, ◌∙◌, true, false, if◌then◌else◌, List, [], ◌∷◌, ◌++◌, Option, Some, None, append-nil}
use Rattle.circuits.specs.CircuitState.{Slot, initial}
use Rattle.circuits.specs.Firing.{Label.Feed, Label.Take, Label.Fire, Fires, FitEach}
use Rattle.circuits.specs.PortTokens.{Token, at_port, one}
use Rattle.components.specs.Kind.{Shape}
use Rattle.std.specs.List.{concat}
use Rattle.components.specs.declared.kind.Kind.{Kind}
use Rattle.components.specs.declared.kind.Kind.TheVariants.{Entry, Buffer, Fork, Mux}
use Rattle.circuit_plans.specs.Places.{output_at}
use Rattle.lane_laws.specs.CombineMuxes.{Stop, into, select, Tree, Muxes, choice, node, value2, value3, mux, out, OneMux, new_choice, new_join2, new_join3, new_mux, new_split, new_value2, new_value3, new_out}
use Rattle.lane_laws.proofs.MuxPlans.{led, muxes_plan, one_mux_plan, same_one_mux, SameMuxEnds}
use Rattle.circuit_plans.proofs.Plans.{Out, Plan, Held, PlanStep, PlanInner, rest, part_from, plan_start, plan_initial, PlanFits, Naming, PlanMatches, plan_then}
use Rattle.circuit_plans.proofs.PlanAfter.{after, do_step, pop1, pop1_takes, pop12, pop12_takes, pop13, pop13_takes}
use Rattle.circuit_plans.proofs.PlanMoves.{still, took, gave}
use Rattle.circuit_plans.proofs.Places.{Place, item, number, place_at, place_number, same_place, same_place_self}
use Rattle.circuit_plans.proofs.Tuples.{piece}
use Rattle.lane_laws.proofs.Lanes.{part_of, Before, before_none, before_fed, before_same, before_joined, before_next, Behind, behind_none, behind_same, behind_given, behind_split, behind_taken}
use Rattle.circuit_plans.proofs.FireEach.{Fired, all_fired}
use Rattle.lane_laws.proofs.Trees.{PassesBit, passes_bit}
use Rattle.lane_laws.proofs.TreeFlow.{Flow, behind, stop, led_away, choice_fed, Ready, bring_all}

module _ (tree : List Kind) (lanes : List Shape) (tr : Tree tree lanes) where
  abbrev old : Plan (Muxes tree lanes)
  old = muxes_plan tree lanes tr

  abbrev new : Plan (OneMux lanes)
  new = one_mux_plan lanes

  -- the old Muxes have fired as often as the new one: what it has chosen is at the old Exits already. The selects that it waits for are before the old tree or in it
  record Related (s : Held (OneMux lanes)) (t : Held (Muxes tree lanes)) : Type 0 where
    values2 : Before lanes (λ l. t.wires (mux l) 2) (λ l. s.wires new_join2 (number lanes l)) (s.wires new_mux 2)
    values3 : Before lanes (λ l. t.wires (mux l) 3) (λ l. s.wires new_join3 (number lanes l)) (s.wires new_mux 3)
    outs : Behind lanes (λ l. t.wires (out l) 1) (λ l. s.wires (new_out l) 1) (s.wires new_split 1)
    waits : Place tree → List Token
    flow : Flow tree lanes tr t waits (s.wires new_mux 1)

  from_value : (value : Place lanes → OneMux lanes) (n : OneMux lanes) (given : List (List Token)) (o : Option (Place lanes)) → ((l : Place lanes) → same_one_mux lanes (value l) n ≡ false) → part_from new n given (output_at value 1 o) ≡ []
  from_value value n given None h = refl
  from_value value n given (Some l) h = ap (λ z. if z then at_port given 1 else []) (h l)

  initial_value : (value : Place lanes → OneMux lanes) → ((l : Place lanes) → (w : Shape) × (new.kind (value l) ≡ Entry w)) → (o : Option (Place lanes)) → plan_initial new (output_at value 1 o) ≡ []
  initial_value value h None = refl
  initial_value value h (Some l) = let (w, e) = h l in ap (λ z. initial (Some z)) e

  initial_tree : (k : Kind) → PassesBit k → initial (Some k) ≡ []
  initial_tree (Buffer a) h = refl
  initial_tree (Fork a n) h = refl
  initial_tree _ h = absurd h

  initial_led : (o : Option (Out (Place tree))) → plan_initial old (led o) ≡ []
  initial_led None = refl
  initial_led (Some q) = initial_tree (item tree q.at) (passes_bit tree lanes tr q.at)

  initial_behind : (o : Option (Out (Place tree))) → behind tree lanes tr (λ n. []) o ≡ []
  initial_behind None = refl
  initial_behind (Some q) = refl

  begins_flow : Flow tree lanes tr (plan_start old) (λ n. []) []
  begins_flow (into n) = λ j. sym (initial_led (tr.source (into n))) j ++ sym (initial_behind (tr.source (into n))) j
  begins_flow (select l) = λ j. sym (initial_led (tr.source (select l))) j ++ sym (initial_behind (tr.source (select l))) j

  begins : Related (plan_start new) (plan_start old)
  begins =
      record {
        values2 = before_none lanes _ _ (λ l. refl) (λ l. initial_value new_value2 (λ k. (item lanes k, refl)) (place_at lanes (number lanes l)));
        values3 = before_none lanes _ _ (λ l. refl) (λ l. initial_value new_value3 (λ k. (item lanes k, refl)) (place_at lanes (number lanes l)));
        outs = behind_none lanes _ _ (λ l. refl) (λ l. refl);
        waits = λ n. [];
        flow = begins_flow;
      }

  -- a wire that an Entry of a value feeds, or none, does not change the flow of the selects
  flow_still : (t w : Held (Muxes tree lanes)) (waits : Place tree → List Token) (selects : List Token) → Flow tree lanes tr t waits selects → ((x : Stop tree lanes) → w.wires (stop tree lanes tr x) 1 ≡ t.wires (stop tree lanes tr x) 1) → Flow tree lanes tr w waits selects
  flow_still t w waits selects h e x = h x ∙ ap (λ z. z ++ behind tree lanes tr waits (tr.source x)) (sym (e x))

  -- what a step that neither takes from the tree nor gives to it leaves there
  after_still : (t : Held (Muxes tree lanes)) (n : Muxes tree lanes) (left : ℕ → List Token) (given : List (List Token)) → old.same choice n ≡ false → ((k : Place tree) → old.same (node k) n ≡ false) → ((x : Stop tree lanes) → old.same (stop tree lanes tr x) n ≡ false) → (x : Stop tree lanes) → (after old t n left given (t.slots n)).wires (stop tree lanes tr x) 1 ≡ t.wires (stop tree lanes tr x) 1
  after_still t n left given e f g (into m) =
      (λ j. (if g (into m) j then left 1 else t.wires (node m) 1) ++ led_away tree lanes tr n given (tr.source (into m)) e f j) ∙ append-nil (t.wires (node m) 1)
  after_still t n left given e f g (select l) =
      (λ j. (if g (select l) j then left 1 else t.wires (mux l) 1) ++ led_away tree lanes tr n given (tr.source (select l)) e f j) ∙ append-nil (t.wires (mux l) 1)

  away_value2 : (k : Place lanes) (x : Stop tree lanes) → old.same (stop tree lanes tr x) (value2 k) ≡ false
  away_value2 k (into n) = refl
  away_value2 k (select l) = refl

  away_value3 : (k : Place lanes) (x : Stop tree lanes) → old.same (stop tree lanes tr x) (value3 k) ≡ false
  away_value3 k (into n) = refl
  away_value3 k (select l) = refl

  away_out : (k : Place lanes) (x : Stop tree lanes) → old.same (stop tree lanes tr x) (out k) ≡ false
  away_out k (into n) = refl
  away_out k (select l) = refl

  module _ (s : Held (OneMux lanes)) (t : Held (Muxes tree lanes)) (u : Held (OneMux lanes)) (v : Token) (r : Related s t) where
    feed_choice : PlanStep new s new_choice (Feed v) u → (w : Held (Muxes tree lanes)) × PlanStep old t choice (Feed v) w × Related u w
    feed_choice st =
        let (fit, et, eg, en) = st.acts in (
          after old t choice (t.wires choice) (one v ∷ []) (t.slots choice),
          do_step old t choice (Feed v) [] (one v ∷ []) (t.slots choice) (t.wires choice) (fit, refl, refl, refl) (λ i. refl),
          record {
            values2 = before_same lanes _ _ _ _ _ _ (λ l. append-nil (t.wires (mux l) 2)) (λ l. still new s new_choice (Feed v) u st new_join2 (number lanes l) refl (from_value new_value2 new_choice st.given (place_at lanes (number lanes l)) (λ j. refl))) (still new s new_choice (Feed v) u st new_mux 2 refl refl) r.values2;
            values3 = before_same lanes _ _ _ _ _ _ (λ l. append-nil (t.wires (mux l) 3)) (λ l. still new s new_choice (Feed v) u st new_join3 (number lanes l) refl (from_value new_value3 new_choice st.given (place_at lanes (number lanes l)) (λ j. refl))) (still new s new_choice (Feed v) u st new_mux 3 refl refl) r.values3;
            outs = behind_same lanes _ _ _ _ _ _ (λ l. append-nil (t.wires (out l) 1)) (λ l. still new s new_choice (Feed v) u st (new_out l) 1 refl refl) (still new s new_choice (Feed v) u st new_split 1 refl refl) r.outs;
            waits = λ n. r.waits n ++ one v;
            flow = subst (Flow tree lanes tr (after old t choice (t.wires choice) (one v ∷ []) (t.slots choice)) (λ n. r.waits n ++ one v)) (sym (gave new s new_choice (Feed v) u st new_mux 1 (one v) refl (ap (λ z. at_port z 1) eg))) (choice_fed tree lanes tr t v r.waits (s.wires new_mux 1) r.flow);
          },
        )

    feed_value2 : (k : Place lanes) → PlanStep new s (new_value2 k) (Feed v) u → (w : Held (Muxes tree lanes)) × PlanStep old t (value2 k) (Feed v) w × Related u w
    feed_value2 k st =
        let (fit, et, eg, en) = st.acts in
        let gets : (l : Place lanes) → u.wires new_join2 (number lanes l) ≡ s.wires new_join2 (number lanes l) ++ (if same_place lanes l k then one v else []) =
        λ l. gave new s (new_value2 k) (Feed v) u st new_join2 (number lanes l) (if same_place lanes l k then one v else []) refl
        (ap (λ z. part_from new (new_value2 k) st.given (output_at new_value2 1 z)) (place_number lanes l) ∙ ap (λ z. if same_place lanes l k then at_port z 1 else []) eg) in (
          after old t (value2 k) (t.wires (value2 k)) (one v ∷ []) (t.slots (value2 k)),
          do_step old t (value2 k) (Feed v) [] (one v ∷ []) (t.slots (value2 k)) (t.wires (value2 k)) (fit, refl, refl, refl) (λ i. refl),
          record {
            values2 = before_fed lanes _ _ _ _ (λ l. if same_place lanes l k then one v else []) _ _ (λ l. refl) gets (still new s (new_value2 k) (Feed v) u st new_mux 2 refl refl) r.values2;
            values3 = before_same lanes _ _ _ _ _ _ (λ l. append-nil (t.wires (mux l) 3)) (λ l. still new s (new_value2 k) (Feed v) u st new_join3 (number lanes l) refl (from_value new_value3 (new_value2 k) st.given (place_at lanes (number lanes l)) (λ j. refl))) (still new s (new_value2 k) (Feed v) u st new_mux 3 refl refl) r.values3;
            outs = behind_same lanes _ _ _ _ _ _ (λ l. append-nil (t.wires (out l) 1)) (λ l. still new s (new_value2 k) (Feed v) u st (new_out l) 1 refl refl) (still new s (new_value2 k) (Feed v) u st new_split 1 refl refl) r.outs;
            waits = r.waits;
            flow = flow_still t (after old t (value2 k) (t.wires (value2 k)) (one v ∷ []) (t.slots (value2 k))) r.waits (u.wires new_mux 1) (subst (Flow tree lanes tr t r.waits) (sym (still new s (new_value2 k) (Feed v) u st new_mux 1 refl refl)) r.flow) (after_still t (value2 k) (t.wires (value2 k)) (one v ∷ []) refl (λ j. refl) (away_value2 k));
          },
        )

    feed_value3 : (k : Place lanes) → PlanStep new s (new_value3 k) (Feed v) u → (w : Held (Muxes tree lanes)) × PlanStep old t (value3 k) (Feed v) w × Related u w
    feed_value3 k st =
        let (fit, et, eg, en) = st.acts in
        let gets : (l : Place lanes) → u.wires new_join3 (number lanes l) ≡ s.wires new_join3 (number lanes l) ++ (if same_place lanes l k then one v else []) =
        λ l. gave new s (new_value3 k) (Feed v) u st new_join3 (number lanes l) (if same_place lanes l k then one v else []) refl
        (ap (λ z. part_from new (new_value3 k) st.given (output_at new_value3 1 z)) (place_number lanes l) ∙ ap (λ z. if same_place lanes l k then at_port z 1 else []) eg) in (
          after old t (value3 k) (t.wires (value3 k)) (one v ∷ []) (t.slots (value3 k)),
          do_step old t (value3 k) (Feed v) [] (one v ∷ []) (t.slots (value3 k)) (t.wires (value3 k)) (fit, refl, refl, refl) (λ i. refl),
          record {
            values2 = before_same lanes _ _ _ _ _ _ (λ l. append-nil (t.wires (mux l) 2)) (λ l. still new s (new_value3 k) (Feed v) u st new_join2 (number lanes l) refl (from_value new_value2 (new_value3 k) st.given (place_at lanes (number lanes l)) (λ j. refl))) (still new s (new_value3 k) (Feed v) u st new_mux 2 refl refl) r.values2;
            values3 = before_fed lanes _ _ _ _ (λ l. if same_place lanes l k then one v else []) _ _ (λ l. refl) gets (still new s (new_value3 k) (Feed v) u st new_mux 3 refl refl) r.values3;
            outs = behind_same lanes _ _ _ _ _ _ (λ l. append-nil (t.wires (out l) 1)) (λ l. still new s (new_value3 k) (Feed v) u st (new_out l) 1 refl refl) (still new s (new_value3 k) (Feed v) u st new_split 1 refl refl) r.outs;
            waits = r.waits;
            flow = flow_still t (after old t (value3 k) (t.wires (value3 k)) (one v ∷ []) (t.slots (value3 k))) r.waits (u.wires new_mux 1) (subst (Flow tree lanes tr t r.waits) (sym (still new s (new_value3 k) (Feed v) u st new_mux 1 refl refl)) r.flow) (after_still t (value3 k) (t.wires (value3 k)) (one v ∷ []) refl (λ j. refl) (away_value3 k));
          },
        )

    take_out : (k : Place lanes) → PlanStep new s (new_out k) (Take v) u → (w : Held (Muxes tree lanes)) × PlanStep old t (out k) (Take v) w × Related u w
    take_out k st =
        let (et, eg, en) = st.acts in
        let head : s.wires (new_out k) 1 ≡ v ∷ u.wires (new_out k) 1 =
        took new s (new_out k) (Take v) u st (new_out k) 1 (one v) (λ j. if same_place_self lanes k j then at_port (et j) 1 else []) refl in
        let kept : (l : Place lanes) → same_place lanes l k ≡ false → u.wires (new_out l) 1 ≡ s.wires (new_out l) 1 =
        λ l e. still new s (new_out k) (Take v) u st (new_out l) 1 (ap (λ z. if z then at_port st.taken 1 else []) e) refl in
        let go = behind_taken lanes (λ l. t.wires (out l) 1) (λ l. s.wires (new_out l) 1) (λ l. u.wires (new_out l) 1) (s.wires new_split 1) (u.wires new_split 1) k v head kept (still new s (new_out k) (Take v) u st new_split 1 refl refl) r.outs in (
          after old t (out k) (pop1 (t.wires (out k)) go.left) [] (t.slots (out k)),
          do_step old t (out k) (Take v) (one v ∷ []) [] (t.slots (out k)) (pop1 (t.wires (out k)) go.left) (refl, refl, refl) (pop1_takes (t.wires (out k)) v go.left go.cell_is),
          record {
            values2 = before_same lanes _ _ _ _ _ _ (λ l. append-nil (t.wires (mux l) 2)) (λ l. still new s (new_out k) (Take v) u st new_join2 (number lanes l) refl (from_value new_value2 (new_out k) st.given (place_at lanes (number lanes l)) (λ j. refl))) (still new s (new_out k) (Take v) u st new_mux 2 refl refl) r.values2;
            values3 = before_same lanes _ _ _ _ _ _ (λ l. append-nil (t.wires (mux l) 3)) (λ l. still new s (new_out k) (Take v) u st new_join3 (number lanes l) refl (from_value new_value3 (new_out k) st.given (place_at lanes (number lanes l)) (λ j. refl))) (still new s (new_out k) (Take v) u st new_mux 3 refl refl) r.values3;
            outs = go.behind;
            waits = r.waits;
            flow = flow_still t (after old t (out k) (pop1 (t.wires (out k)) go.left) [] (t.slots (out k))) r.waits (u.wires new_mux 1) (subst (Flow tree lanes tr t r.waits) (sym (still new s (new_out k) (Take v) u st new_mux 1 refl refl)) r.flow) (after_still t (out k) (pop1 (t.wires (out k)) go.left) [] refl (λ j. refl) (away_out k));
          },
        )

  -- all the old Muxes fire, and take what taken says of a token
  module _ (t : Held (Muxes tree lanes)) (taken : Token → List (List Token)) (left : Place lanes → ℕ → List Token)
      (can : (a : Shape) (v : Token) (slots : List Slot) → Fires (Mux a) 0 slots (taken v) (one v ∷ []) slots)
      (vs : List Token) (fit : FitEach lanes vs)
      (takes : (l : Place lanes) (v : Token) → part_of lanes vs l ≡ one v → (i : ℕ) → t.wires (mux l) i ≡ at_port (taken v) i ++ left l i) where
    token : Place lanes → Token
    token l = (piece lanes vs fit l).token

    abbrev given : Place lanes → List (List Token)
    given l = one (token l) ∷ []

    token_is : (l : Place lanes) → part_of lanes vs l ≡ one (token l)
    unfolding token
    token_is l = (piece lanes vs fit l).is

    apart : (l k : Place lanes) (i : ℕ) → part_from old (mux k) (given k) (old.source (mux l) i) ≡ []
    apart l k zero = refl
    apart l k (suc zero) = led_away tree lanes tr (mux k) (given k) (tr.source (select l)) refl (λ n. refl)
    apart l k (suc (suc zero)) = refl
    apart l k (suc (suc (suc zero))) = refl
    apart l k (suc (suc (suc (suc i)))) = refl

    all : Fired old lanes mux (λ l k. refl) t (λ l. taken (token l)) given left (λ l. can (item lanes l) (token l) (t.slots (mux l))) (λ l. takes l (token l) (token_is l)) apart (λ l. true)
    all = all_fired old lanes mux (λ l k. refl) t (λ l. taken (token l)) given left (λ l. can (item lanes l) (token l) (t.slots (mux l))) (λ l. takes l (token l) (token_is l)) apart

    -- only the Mux of lane l feeds the Exit of lane l
    only_own : (l k : Place lanes) → same_place lanes l k ≡ false → part_from old (mux k) (given k) (Some (record { at = mux l; port = 1 })) ≡ []
    only_own l k e = ap (λ z. if z then at_port (given k) 1 else []) e

    gets_own : (l : Place lanes) → part_from old (mux l) (given l) (Some (record { at = mux l; port = 1 })) ≡ part_of lanes vs l
    gets_own l = ap (λ z. if z then one (token l) else []) (same_place_self lanes l) ∙ sym (token_is l)

    record Chosen : Type 0 where
      to : Held (Muxes tree lanes)
      inner : PlanInner old to t
      left_are : (l : Place lanes) (i : ℕ) → to.wires (mux l) i ≡ left l i
      gives : (l : Place lanes) → to.wires (out l) 1 ≡ t.wires (out l) 1 ++ part_of lanes vs l
      nodes_stay : (n : Place tree) → to.wires (node n) 1 ≡ t.wires (node n) 1

    chosen_all : Chosen
    chosen_all =
        record {
          to = all.to;
          inner = all.inner;
          left_are = all.own;
          gives = λ l. all.fed (out l) 1 l (λ k. refl) (only_own l) ∙ ap (λ z. t.wires (out l) 1 ++ z) (gets_own l);
          nodes_stay = λ n. all.others (node n) 1 (λ l. refl) (λ l. led_away tree lanes tr (mux l) (given l) (tr.source (into n)) refl (λ m. refl));
        }

  -- the select that a Mux has at its head, and what stays
  record Selected (t : Held (Muxes tree lanes)) (waits : Place tree → List Token) (b : Token) (w : List Token) (l : Place lanes) : Type 0 where
    later : List Token
    holds : t.wires (mux l) 1 ≡ b ∷ later
    flows : w ≡ later ++ behind tree lanes tr waits (tr.source (select l))

  selected : (t : Held (Muxes tree lanes)) (waits : Place tree → List Token) (b : Token) (w : List Token) → Flow tree lanes tr t waits (b ∷ w) → (l : Place lanes) → Ready tree lanes tr t (select l) → Selected t waits b w l
  selected t waits b w flow l r =
      let both : b ∷ w ≡ r.first_token ∷ (r.later_tokens ++ behind tree lanes tr waits (tr.source (select l))) = flow (select l) ∙ ap (λ z. z ++ behind tree lanes tr waits (tr.source (select l))) r.holds in
      let is : r.first_token ≡ b = cc in
      record { later = r.later_tokens; holds = r.holds ∙ ap (λ z. z ∷ r.later_tokens) is; flows = cc }

  -- the selects come to all the Muxes
  record AtHead (t : Held (Muxes tree lanes)) (b : Token) (w : List Token) : Type 0 where
    to : Held (Muxes tree lanes)
    inner : PlanInner old to t
    waits : Place tree → List Token
    flow : Flow tree lanes tr to waits (b ∷ w)
    selects : (l : Place lanes) → Selected to waits b w l
    kept2 : (l : Place lanes) → to.wires (mux l) 2 ≡ t.wires (mux l) 2
    kept3 : (l : Place lanes) → to.wires (mux l) 3 ≡ t.wires (mux l) 3
    kept_out : (l : Place lanes) → to.wires (out l) 1 ≡ t.wires (out l) 1

  at_head : (t : Held (Muxes tree lanes)) (waits : Place tree → List Token) (b : Token) (w : List Token) → Flow tree lanes tr t waits (b ∷ w) → AtHead t b w
  at_head t waits b w flow =
      let all = bring_all tree lanes tr t waits (b ∷ w) flow b w refl in
      let go = all.brought in
      record {
        to = go.to;
        inner = go.inner;
        waits = go.waits;
        flow = go.flow;
        selects = λ l. selected go.to go.waits b w go.flow l (all.ready l refl);
        kept2 = go.kept2;
        kept3 = go.kept3;
        kept_out = go.kept_out;
      }

  -- when all have fired, the selects flow on
  flow_on : (t : Held (Muxes tree lanes)) (waits : Place tree → List Token) (b : Token) (w : List Token) → Flow tree lanes tr t waits (b ∷ w) → (sel : (l : Place lanes) → Selected t waits b w l) → (y : Held (Muxes tree lanes)) → ((l : Place lanes) → y.wires (mux l) 1 ≡ (sel l).later) → ((n : Place tree) → y.wires (node n) 1 ≡ t.wires (node n) 1) → Flow tree lanes tr y waits w
  flow_on t waits b w flow sel y e f (into n) = flow (into n) ∙ ap (λ z. z ++ behind tree lanes tr waits (tr.source (into n))) (sym (f n))
  flow_on t waits b w flow sel y e f (select l) = (sel l).flows ∙ ap (λ z. z ++ behind tree lanes tr waits (tr.source (select l))) (sym (e l))

  module _ (s : Held (OneMux lanes)) (t : Held (Muxes tree lanes)) (u : Held (OneMux lanes)) (c : ℕ) (fits : PlanFits old t) (r : Related s t) where
    fire_join2 : PlanStep new s new_join2 (Fire c) u → Related u t
    fire_join2 st =
        let (vs, ec, len, et, eg, en) = st.acts in
        let takes : (l : Place lanes) → s.wires new_join2 (number lanes l) ≡ part_of lanes vs l ++ u.wires new_join2 (number lanes l) =
        λ l. took new s new_join2 (Fire c) u st new_join2 (number lanes l) (part_of lanes vs l) (ap (λ z. at_port z (number lanes l)) et) (from_value new_value2 new_join2 st.given (place_at lanes (number lanes l)) (λ j. refl)) in
        record {
          values2 = before_joined lanes _ _ _ _ _ vs len (λ l. fits (mux l) 2 (item lanes l) refl) takes (gave new s new_join2 (Fire c) u st new_mux 2 (one (concat vs)) refl (ap (λ z. at_port z 1) eg)) r.values2;
          values3 = before_same lanes _ _ _ _ _ _ (λ l. refl) (λ l. still new s new_join2 (Fire c) u st new_join3 (number lanes l) refl (from_value new_value3 new_join2 st.given (place_at lanes (number lanes l)) (λ j. refl))) (still new s new_join2 (Fire c) u st new_mux 3 refl refl) r.values3;
          outs = behind_same lanes _ _ _ _ _ _ (λ l. refl) (λ l. still new s new_join2 (Fire c) u st (new_out l) 1 refl refl) (still new s new_join2 (Fire c) u st new_split 1 refl refl) r.outs;
          waits = r.waits;
          flow = subst (Flow tree lanes tr t r.waits) (sym (still new s new_join2 (Fire c) u st new_mux 1 refl refl)) r.flow;
        }

    fire_join3 : PlanStep new s new_join3 (Fire c) u → Related u t
    fire_join3 st =
        let (vs, ec, len, et, eg, en) = st.acts in
        let takes : (l : Place lanes) → s.wires new_join3 (number lanes l) ≡ part_of lanes vs l ++ u.wires new_join3 (number lanes l) =
        λ l. took new s new_join3 (Fire c) u st new_join3 (number lanes l) (part_of lanes vs l) (ap (λ z. at_port z (number lanes l)) et) (from_value new_value3 new_join3 st.given (place_at lanes (number lanes l)) (λ j. refl)) in
        record {
          values2 = before_same lanes _ _ _ _ _ _ (λ l. refl) (λ l. still new s new_join3 (Fire c) u st new_join2 (number lanes l) refl (from_value new_value2 new_join3 st.given (place_at lanes (number lanes l)) (λ j. refl))) (still new s new_join3 (Fire c) u st new_mux 2 refl refl) r.values2;
          values3 = before_joined lanes _ _ _ _ _ vs len (λ l. fits (mux l) 3 (item lanes l) refl) takes (gave new s new_join3 (Fire c) u st new_mux 3 (one (concat vs)) refl (ap (λ z. at_port z 1) eg)) r.values3;
          outs = behind_same lanes _ _ _ _ _ _ (λ l. refl) (λ l. still new s new_join3 (Fire c) u st (new_out l) 1 refl refl) (still new s new_join3 (Fire c) u st new_split 1 refl refl) r.outs;
          waits = r.waits;
          flow = subst (Flow tree lanes tr t r.waits) (sym (still new s new_join3 (Fire c) u st new_mux 1 refl refl)) r.flow;
        }

    fire_split : PlanStep new s new_split (Fire c) u → Related u t
    fire_split st =
        let (vs, ec, each, et, eg, en) = st.acts in
        let head : s.wires new_split 1 ≡ concat vs ∷ u.wires new_split 1 = took new s new_split (Fire c) u st new_split 1 (one (concat vs)) (ap (λ z. at_port z 1) et) refl in
        let gets : (l : Place lanes) → u.wires (new_out l) 1 ≡ s.wires (new_out l) 1 ++ part_of lanes vs l =
        λ l. gave new s new_split (Fire c) u st (new_out l) 1 (part_of lanes vs l) refl (ap (λ z. at_port z (number lanes l)) eg) in
        record {
          values2 = before_same lanes _ _ _ _ _ _ (λ l. refl) (λ l. still new s new_split (Fire c) u st new_join2 (number lanes l) refl (from_value new_value2 new_split st.given (place_at lanes (number lanes l)) (λ j. refl))) (still new s new_split (Fire c) u st new_mux 2 refl refl) r.values2;
          values3 = before_same lanes _ _ _ _ _ _ (λ l. refl) (λ l. still new s new_split (Fire c) u st new_join3 (number lanes l) refl (from_value new_value3 new_split st.given (place_at lanes (number lanes l)) (λ j. refl))) (still new s new_split (Fire c) u st new_mux 3 refl refl) r.values3;
          outs = behind_split lanes _ _ _ _ _ vs each head gets r.outs;
          waits = r.waits;
          flow = subst (Flow tree lanes tr t r.waits) (sym (still new s new_split (Fire c) u st new_mux 1 refl refl)) r.flow;
        }

    fire_mux : PlanStep new s new_mux (Fire c) u → (w : Held (Muxes tree lanes)) × PlanInner old w t × Related u w
    fire_mux st =
        let (v, ec, way, eg, en) = st.acts in
        elim way [
          | inl et ↦
              let bit : s.wires new_mux 1 ≡ (0 ∷ []) ∷ u.wires new_mux 1 = took new s new_mux (Fire c) u st new_mux 1 (one (0 ∷ [])) (ap (λ z. at_port z 1) et) refl in
              let f = before_next lanes (λ l. t.wires (mux l) 2) (λ l. s.wires new_join2 (number lanes l)) (s.wires new_mux 2) v (u.wires new_mux 2) (took new s new_mux (Fire c) u st new_mux 2 (one v) (ap (λ z. at_port z 2) et) refl) r.values2 in
              let b = at_head t r.waits (0 ∷ []) (u.wires new_mux 1) (subst (Flow tree lanes tr t r.waits) bit r.flow) in
              let go = chosen_all b.to (λ x. one (0 ∷ []) ∷ one x ∷ []) (λ l. pop12 (b.to.wires (mux l)) (b.selects l).later (f.left l)) (λ a x slots. (x, refl, inl refl, refl, refl)) f.tuple f.fit
              (λ l x e. pop12_takes (b.to.wires (mux l)) (0 ∷ []) x (b.selects l).later (f.left l) (b.selects l).holds (b.kept2 l ∙ f.cells_are l ∙ ap (λ z. z ++ f.left l) e)) in (
                go.to,
                plan_then old go.to b.to t b.inner go.inner,
                record {
                  values2 = before_same lanes _ _ _ _ _ _ (λ l. go.left_are l 2) (λ l. still new s new_mux (Fire c) u st new_join2 (number lanes l) refl (from_value new_value2 new_mux st.given (place_at lanes (number lanes l)) (λ j. refl))) refl f.before;
                  values3 = before_same lanes _ _ _ _ _ _ (λ l. go.left_are l 3 ∙ b.kept3 l) (λ l. still new s new_mux (Fire c) u st new_join3 (number lanes l) refl (from_value new_value3 new_mux st.given (place_at lanes (number lanes l)) (λ j. refl))) (still new s new_mux (Fire c) u st new_mux 3 (ap (λ z. at_port z 3) et) refl) r.values3;
                  outs = behind_given lanes _ _ _ _ _ _ f.tuple v f.fit f.joined_is (λ l. go.gives l ∙ ap (λ z. z ++ part_of lanes f.tuple l) (b.kept_out l)) (λ l. still new s new_mux (Fire c) u st (new_out l) 1 refl refl) (gave new s new_mux (Fire c) u st new_split 1 (one v) refl (ap (λ z. at_port z 1) eg)) r.outs;
                  waits = b.waits;
                  flow = flow_on b.to b.waits (0 ∷ []) (u.wires new_mux 1) b.flow b.selects go.to (λ l. go.left_are l 1) go.nodes_stay;
                },
              )
          | inr et ↦
              let bit : s.wires new_mux 1 ≡ (1 ∷ []) ∷ u.wires new_mux 1 = took new s new_mux (Fire c) u st new_mux 1 (one (1 ∷ [])) (ap (λ z. at_port z 1) et) refl in
              let f = before_next lanes (λ l. t.wires (mux l) 3) (λ l. s.wires new_join3 (number lanes l)) (s.wires new_mux 3) v (u.wires new_mux 3) (took new s new_mux (Fire c) u st new_mux 3 (one v) (ap (λ z. at_port z 3) et) refl) r.values3 in
              let b = at_head t r.waits (1 ∷ []) (u.wires new_mux 1) (subst (Flow tree lanes tr t r.waits) bit r.flow) in
              let go = chosen_all b.to (λ x. one (1 ∷ []) ∷ [] ∷ one x ∷ []) (λ l. pop13 (b.to.wires (mux l)) (b.selects l).later (f.left l)) (λ a x slots. (x, refl, inr refl, refl, refl)) f.tuple f.fit
              (λ l x e. pop13_takes (b.to.wires (mux l)) (1 ∷ []) x (b.selects l).later (f.left l) (b.selects l).holds (b.kept3 l ∙ f.cells_are l ∙ ap (λ z. z ++ f.left l) e)) in (
                go.to,
                plan_then old go.to b.to t b.inner go.inner,
                record {
                  values2 = before_same lanes _ _ _ _ _ _ (λ l. go.left_are l 2 ∙ b.kept2 l) (λ l. still new s new_mux (Fire c) u st new_join2 (number lanes l) refl (from_value new_value2 new_mux st.given (place_at lanes (number lanes l)) (λ j. refl))) (still new s new_mux (Fire c) u st new_mux 2 (ap (λ z. at_port z 2) et) refl) r.values2;
                  values3 = before_same lanes _ _ _ _ _ _ (λ l. go.left_are l 3) (λ l. still new s new_mux (Fire c) u st new_join3 (number lanes l) refl (from_value new_value3 new_mux st.given (place_at lanes (number lanes l)) (λ j. refl))) refl f.before;
                  outs = behind_given lanes _ _ _ _ _ _ f.tuple v f.fit f.joined_is (λ l. go.gives l ∙ ap (λ z. z ++ part_of lanes f.tuple l) (b.kept_out l)) (λ l. still new s new_mux (Fire c) u st (new_out l) 1 refl refl) (gave new s new_mux (Fire c) u st new_split 1 (one v) refl (ap (λ z. at_port z 1) eg)) r.outs;
                  waits = b.waits;
                  flow = flow_on b.to b.waits (1 ∷ []) (u.wires new_mux 1) b.flow b.selects go.to (λ l. go.left_are l 1) go.nodes_stay;
                },
              )
        ]

  -- one Mux matches the Muxes
  module _ (hx : Naming (OneMux lanes)) (gx : Naming (Muxes tree lanes)) (same : SameMuxEnds tree lanes hx gx) where
    all_feeds : (s : Held (OneMux lanes)) (t : Held (Muxes tree lanes)) (u : Held (OneMux lanes)) (n : OneMux lanes) (v : Token) → Related s t → PlanStep new s n (Feed v) u → (m : Muxes tree lanes) × (hx.name n ≡ gx.name m) × (w : Held (Muxes tree lanes)) × PlanStep old t m (Feed v) w × Related u w
    all_feeds s t u new_choice v r st = let (w, st2, r2) = feed_choice s t u v r st in (choice, same.choice_is, w, st2, r2)
    all_feeds s t u (new_value2 l) v r st = let (w, st2, r2) = feed_value2 s t u v r l st in (value2 l, same.value2_is l, w, st2, r2)
    all_feeds s t u (new_value3 l) v r st = let (w, st2, r2) = feed_value3 s t u v r l st in (value3 l, same.value3_is l, w, st2, r2)
    all_feeds s t u _ v r st = absurd st.acts

    all_takes : (s : Held (OneMux lanes)) (t : Held (Muxes tree lanes)) (u : Held (OneMux lanes)) (n : OneMux lanes) (v : Token) → PlanFits old t → Related s t → PlanStep new s n (Take v) u → (m : Muxes tree lanes) × (hx.name n ≡ gx.name m) × (y w : Held (Muxes tree lanes)) × PlanInner old y t × PlanStep old y m (Take v) w × Related u w
    all_takes s t u (new_out l) v fits r st = let (w, st2, r2) = take_out s t u v r l st in (out l, same.out_is l, t, w, rest, st2, r2)
    all_takes s t u _ v fits r st = absurd st.acts

    all_fires : (s : Held (OneMux lanes)) (t : Held (Muxes tree lanes)) (u : Held (OneMux lanes)) (n : OneMux lanes) (c : ℕ) → PlanFits old t → Related s t → PlanStep new s n (Fire c) u → (w : Held (Muxes tree lanes)) × PlanInner old w t × Related u w
    all_fires s t u new_join2 c fits r st = (t, rest, fire_join2 s t u c fits r st)
    all_fires s t u new_join3 c fits r st = (t, rest, fire_join3 s t u c fits r st)
    all_fires s t u new_split c fits r st = (t, rest, fire_split s t u c fits r st)
    all_fires s t u new_mux c fits r st = fire_mux s t u c fits r st
    all_fires s t u _ c fits r st = absurd st.acts

    pub one_mux_matches : PlanMatches new old hx gx
    one_mux_matches = record { R = Related; begins = begins; feeds = all_feeds; takes = all_takes; fires = all_fires }
