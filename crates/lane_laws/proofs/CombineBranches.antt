-- one Branch of the lanes' values together matches the Branches of the lanes
use Rattle.std.proofs.Common.{◌≡◌, ℕ, zero, suc, inl, inr, refl, sym, ap, ◌∙◌, true, false, if◌then◌else◌, length, replicate, List, [], ◌∷◌, ◌++◌, Option, Some, None, append-nil}
use Rattle.circuits.specs.CircuitState.{Slot}
use Rattle.circuits.specs.Firing.{Label.Feed, Label.Take, Label.Fire, Fires, FitEach}
use Rattle.circuits.specs.PortTokens.{Token, at_port, one}
use Rattle.components.specs.Kind.{Shape}
use Rattle.std.specs.List.{concat}
use Rattle.components.specs.declared.kind.Kind.TheVariants.{Branch}
use Rattle.circuit_plans.specs.Places.{output_at}
use Rattle.lane_laws.specs.CombineBranches.{Branches, condition, fork, passed, value, branch, out1, out2, OneBranch, new_condition, new_fork, new_passed, new_join, new_branch, new_split1, new_split2, new_value, new_out1, new_out2}
use Rattle.lane_laws.proofs.BranchPlans.{branches_plan, one_branch_plan, same_one_branch, SameBranchEnds}
use Rattle.circuit_plans.proofs.Plans.{Plan, Held, PlanStep, PlanInner, rest, fires, part_from, plan_start, plan_initial, PlanFits, Naming, PlanMatches}
use Rattle.circuit_plans.proofs.PlanAfter.{after, do_step, pop1, pop1_takes, pop12, pop12_takes}
use Rattle.circuit_plans.proofs.PlanMoves.{still, took, gave}
use Rattle.circuit_plans.proofs.Places.{Place, item, number, place_at, place_number, same_place, same_place_self, given_number, given_last}
use Rattle.circuit_plans.proofs.Tuples.{piece}
use Rattle.lane_laws.proofs.Lanes.{part_of, Before, before_none, before_fed, before_same, before_joined, Next, before_next, Behind, behind_none, behind_same, behind_given, behind_split, behind_taken}
use Rattle.circuit_plans.proofs.FireEach.{Fired, all_fired}

module _ (lanes : List Shape) where
  abbrev old : Plan (Branches lanes)
  old = branches_plan lanes

  abbrev new : Plan (OneBranch lanes)
  new = one_branch_plan lanes

  -- the old Forks and Branches have fired as often as the new ones: what the new Branch has chosen is at the old Exits already
  record Related (s : Held (OneBranch lanes)) (t : Held (Branches lanes)) : Type 0 where
    values : Before lanes (λ l. t.wires (branch l) 1) (λ l. s.wires new_join (number lanes l)) (s.wires new_branch 1)
    outs1 : Behind lanes (λ l. t.wires (out1 l) 1) (λ l. s.wires (new_out1 l) 1) (s.wires new_split1 1)
    outs2 : Behind lanes (λ l. t.wires (out2 l) 1) (λ l. s.wires (new_out2 l) 1) (s.wires new_split2 1)
    bits : (l : Place lanes) → t.wires (branch l) 2 ≡ s.wires new_branch 2
    conditions : t.wires fork 1 ≡ s.wires new_fork 1
    passes : t.wires passed 1 ≡ s.wires new_passed 1

  from_value : (n : OneBranch lanes) (given : List (List Token)) (o : Option (Place lanes)) → ((l : Place lanes) → same_one_branch lanes (new_value l) n ≡ false) → part_from new n given (output_at new_value 1 o) ≡ []
  from_value n given None h = refl
  from_value n given (Some l) h = ap (λ z. if z then at_port given 1 else []) (h l)

  initial_value : (o : Option (Place lanes)) → plan_initial new (output_at new_value 1 o) ≡ []
  initial_value None = refl
  initial_value (Some l) = refl

  begins : Related (plan_start new) (plan_start old)
  begins =
      record {
        values = before_none lanes _ _ (λ l. refl) (λ l. initial_value (place_at lanes (number lanes l)));
        outs1 = behind_none lanes _ _ (λ l. refl) (λ l. refl);
        outs2 = behind_none lanes _ _ (λ l. refl) (λ l. refl);
        bits = λ l. refl;
        conditions = refl;
        passes = refl;
      }

  module _ (s : Held (OneBranch lanes)) (t : Held (Branches lanes)) (u : Held (OneBranch lanes)) (v : Token) (r : Related s t) where
    feed_condition : PlanStep new s new_condition (Feed v) u → (w : Held (Branches lanes)) × PlanStep old t condition (Feed v) w × Related u w
    feed_condition st =
        let (fit, et, eg, en) = st.acts in (
          after old t condition (t.wires condition) (one v ∷ []) (t.slots condition),
          do_step old t condition (Feed v) [] (one v ∷ []) (t.slots condition) (t.wires condition) (fit, refl, refl, refl) (λ i. refl),
          record {
            values = before_same lanes _ _ _ _ _ _ (λ l. append-nil (t.wires (branch l) 1)) (λ l. still new s new_condition (Feed v) u st new_join (number lanes l) refl (from_value new_condition st.given (place_at lanes (number lanes l)) (λ j. refl))) (still new s new_condition (Feed v) u st new_branch 1 refl refl) r.values;
            outs1 = behind_same lanes _ _ _ _ _ _ (λ l. append-nil (t.wires (out1 l) 1)) (λ l. still new s new_condition (Feed v) u st (new_out1 l) 1 refl refl) (still new s new_condition (Feed v) u st new_split1 1 refl refl) r.outs1;
            outs2 = behind_same lanes _ _ _ _ _ _ (λ l. append-nil (t.wires (out2 l) 1)) (λ l. still new s new_condition (Feed v) u st (new_out2 l) 1 refl refl) (still new s new_condition (Feed v) u st new_split2 1 refl refl) r.outs2;
            bits = λ l. append-nil (t.wires (branch l) 2) ∙ r.bits l ∙ sym (still new s new_condition (Feed v) u st new_branch 2 refl refl);
            conditions = ap (λ z. z ++ one v) r.conditions ∙ sym (gave new s new_condition (Feed v) u st new_fork 1 (one v) refl (ap (λ z. at_port z 1) eg));
            passes = append-nil (t.wires passed 1) ∙ r.passes ∙ sym (still new s new_condition (Feed v) u st new_passed 1 refl refl);
          },
        )

    feed_value : (k : Place lanes) → PlanStep new s (new_value k) (Feed v) u → (w : Held (Branches lanes)) × PlanStep old t (value k) (Feed v) w × Related u w
    feed_value k st =
        let (fit, et, eg, en) = st.acts in
        let gets : (l : Place lanes) → u.wires new_join (number lanes l) ≡ s.wires new_join (number lanes l) ++ (if same_place lanes l k then one v else []) =
        λ l. gave new s (new_value k) (Feed v) u st new_join (number lanes l) (if same_place lanes l k then one v else []) refl
        (ap (λ z. part_from new (new_value k) st.given (output_at new_value 1 z)) (place_number lanes l) ∙ ap (λ z. if same_place lanes l k then at_port z 1 else []) eg) in (
          after old t (value k) (t.wires (value k)) (one v ∷ []) (t.slots (value k)),
          do_step old t (value k) (Feed v) [] (one v ∷ []) (t.slots (value k)) (t.wires (value k)) (fit, refl, refl, refl) (λ i. refl),
          record {
            values = before_fed lanes _ _ _ _ (λ l. if same_place lanes l k then one v else []) _ _ (λ l. refl) gets (still new s (new_value k) (Feed v) u st new_branch 1 refl refl) r.values;
            outs1 = behind_same lanes _ _ _ _ _ _ (λ l. append-nil (t.wires (out1 l) 1)) (λ l. still new s (new_value k) (Feed v) u st (new_out1 l) 1 refl refl) (still new s (new_value k) (Feed v) u st new_split1 1 refl refl) r.outs1;
            outs2 = behind_same lanes _ _ _ _ _ _ (λ l. append-nil (t.wires (out2 l) 1)) (λ l. still new s (new_value k) (Feed v) u st (new_out2 l) 1 refl refl) (still new s (new_value k) (Feed v) u st new_split2 1 refl refl) r.outs2;
            bits = λ l. append-nil (t.wires (branch l) 2) ∙ r.bits l ∙ sym (still new s (new_value k) (Feed v) u st new_branch 2 refl refl);
            conditions = append-nil (t.wires fork 1) ∙ r.conditions ∙ sym (still new s (new_value k) (Feed v) u st new_fork 1 refl refl);
            passes = append-nil (t.wires passed 1) ∙ r.passes ∙ sym (still new s (new_value k) (Feed v) u st new_passed 1 refl refl);
          },
        )

    take_passed : PlanStep new s new_passed (Take v) u → (w : Held (Branches lanes)) × PlanStep old t passed (Take v) w × Related u w
    take_passed st =
        let (et, eg, en) = st.acts in
        let head : s.wires new_passed 1 ≡ v ∷ u.wires new_passed 1 = took new s new_passed (Take v) u st new_passed 1 (one v) (ap (λ z. at_port z 1) et) refl in (
          after old t passed (pop1 (t.wires passed) (u.wires new_passed 1)) [] (t.slots passed),
          do_step old t passed (Take v) (one v ∷ []) [] (t.slots passed) (pop1 (t.wires passed) (u.wires new_passed 1)) (refl, refl, refl) (pop1_takes (t.wires passed) v (u.wires new_passed 1) (r.passes ∙ head)),
          record {
            values = before_same lanes _ _ _ _ _ _ (λ l. append-nil (t.wires (branch l) 1)) (λ l. still new s new_passed (Take v) u st new_join (number lanes l) refl (from_value new_passed st.given (place_at lanes (number lanes l)) (λ j. refl))) (still new s new_passed (Take v) u st new_branch 1 refl refl) r.values;
            outs1 = behind_same lanes _ _ _ _ _ _ (λ l. append-nil (t.wires (out1 l) 1)) (λ l. still new s new_passed (Take v) u st (new_out1 l) 1 refl refl) (still new s new_passed (Take v) u st new_split1 1 refl refl) r.outs1;
            outs2 = behind_same lanes _ _ _ _ _ _ (λ l. append-nil (t.wires (out2 l) 1)) (λ l. still new s new_passed (Take v) u st (new_out2 l) 1 refl refl) (still new s new_passed (Take v) u st new_split2 1 refl refl) r.outs2;
            bits = λ l. append-nil (t.wires (branch l) 2) ∙ r.bits l ∙ sym (still new s new_passed (Take v) u st new_branch 2 refl refl);
            conditions = append-nil (t.wires fork 1) ∙ r.conditions ∙ sym (still new s new_passed (Take v) u st new_fork 1 refl refl);
            passes = append-nil (u.wires new_passed 1);
          },
        )

    take_out1 : (k : Place lanes) → PlanStep new s (new_out1 k) (Take v) u → (w : Held (Branches lanes)) × PlanStep old t (out1 k) (Take v) w × Related u w
    take_out1 k st =
        let (et, eg, en) = st.acts in
        let head : s.wires (new_out1 k) 1 ≡ v ∷ u.wires (new_out1 k) 1 =
        took new s (new_out1 k) (Take v) u st (new_out1 k) 1 (one v) (λ j. if same_place_self lanes k j then at_port (et j) 1 else []) refl in
        let kept : (l : Place lanes) → same_place lanes l k ≡ false → u.wires (new_out1 l) 1 ≡ s.wires (new_out1 l) 1 =
        λ l e. still new s (new_out1 k) (Take v) u st (new_out1 l) 1 (ap (λ z. if z then at_port st.taken 1 else []) e) refl in
        let go = behind_taken lanes (λ l. t.wires (out1 l) 1) (λ l. s.wires (new_out1 l) 1) (λ l. u.wires (new_out1 l) 1) (s.wires new_split1 1) (u.wires new_split1 1) k v head kept (still new s (new_out1 k) (Take v) u st new_split1 1 refl refl) r.outs1 in (
          after old t (out1 k) (pop1 (t.wires (out1 k)) go.left) [] (t.slots (out1 k)),
          do_step old t (out1 k) (Take v) (one v ∷ []) [] (t.slots (out1 k)) (pop1 (t.wires (out1 k)) go.left) (refl, refl, refl) (pop1_takes (t.wires (out1 k)) v go.left go.cell_is),
          record {
            values = before_same lanes _ _ _ _ _ _ (λ l. append-nil (t.wires (branch l) 1)) (λ l. still new s (new_out1 k) (Take v) u st new_join (number lanes l) refl (from_value (new_out1 k) st.given (place_at lanes (number lanes l)) (λ j. refl))) (still new s (new_out1 k) (Take v) u st new_branch 1 refl refl) r.values;
            outs1 = go.behind;
            outs2 = behind_same lanes _ _ _ _ _ _ (λ l. append-nil (t.wires (out2 l) 1)) (λ l. still new s (new_out1 k) (Take v) u st (new_out2 l) 1 refl refl) (still new s (new_out1 k) (Take v) u st new_split2 1 refl refl) r.outs2;
            bits = λ l. append-nil (t.wires (branch l) 2) ∙ r.bits l ∙ sym (still new s (new_out1 k) (Take v) u st new_branch 2 refl refl);
            conditions = append-nil (t.wires fork 1) ∙ r.conditions ∙ sym (still new s (new_out1 k) (Take v) u st new_fork 1 refl refl);
            passes = append-nil (t.wires passed 1) ∙ r.passes ∙ sym (still new s (new_out1 k) (Take v) u st new_passed 1 refl refl);
          },
        )

    take_out2 : (k : Place lanes) → PlanStep new s (new_out2 k) (Take v) u → (w : Held (Branches lanes)) × PlanStep old t (out2 k) (Take v) w × Related u w
    take_out2 k st =
        let (et, eg, en) = st.acts in
        let head : s.wires (new_out2 k) 1 ≡ v ∷ u.wires (new_out2 k) 1 =
        took new s (new_out2 k) (Take v) u st (new_out2 k) 1 (one v) (λ j. if same_place_self lanes k j then at_port (et j) 1 else []) refl in
        let kept : (l : Place lanes) → same_place lanes l k ≡ false → u.wires (new_out2 l) 1 ≡ s.wires (new_out2 l) 1 =
        λ l e. still new s (new_out2 k) (Take v) u st (new_out2 l) 1 (ap (λ z. if z then at_port st.taken 1 else []) e) refl in
        let go = behind_taken lanes (λ l. t.wires (out2 l) 1) (λ l. s.wires (new_out2 l) 1) (λ l. u.wires (new_out2 l) 1) (s.wires new_split2 1) (u.wires new_split2 1) k v head kept (still new s (new_out2 k) (Take v) u st new_split2 1 refl refl) r.outs2 in (
          after old t (out2 k) (pop1 (t.wires (out2 k)) go.left) [] (t.slots (out2 k)),
          do_step old t (out2 k) (Take v) (one v ∷ []) [] (t.slots (out2 k)) (pop1 (t.wires (out2 k)) go.left) (refl, refl, refl) (pop1_takes (t.wires (out2 k)) v go.left go.cell_is),
          record {
            values = before_same lanes _ _ _ _ _ _ (λ l. append-nil (t.wires (branch l) 1)) (λ l. still new s (new_out2 k) (Take v) u st new_join (number lanes l) refl (from_value (new_out2 k) st.given (place_at lanes (number lanes l)) (λ j. refl))) (still new s (new_out2 k) (Take v) u st new_branch 1 refl refl) r.values;
            outs1 = behind_same lanes _ _ _ _ _ _ (λ l. append-nil (t.wires (out1 l) 1)) (λ l. still new s (new_out2 k) (Take v) u st (new_out1 l) 1 refl refl) (still new s (new_out2 k) (Take v) u st new_split1 1 refl refl) r.outs1;
            outs2 = go.behind;
            bits = λ l. append-nil (t.wires (branch l) 2) ∙ r.bits l ∙ sym (still new s (new_out2 k) (Take v) u st new_branch 2 refl refl);
            conditions = append-nil (t.wires fork 1) ∙ r.conditions ∙ sym (still new s (new_out2 k) (Take v) u st new_fork 1 refl refl);
            passes = append-nil (t.wires passed 1) ∙ r.passes ∙ sym (still new s (new_out2 k) (Take v) u st new_passed 1 refl refl);
          },
        )

  -- all the old Branches fire with the bit b, and give what give says of a token
  module _ (t : Held (Branches lanes)) (b : ℕ) (give : Token → List (List Token))
      (can : (a : Shape) (v : Token) (slots : List Slot) → Fires (Branch a) 0 slots (one v ∷ one (b ∷ []) ∷ []) (give v) slots)
      (vs : List Token) (fit : FitEach lanes vs) (left : Place lanes → List Token) (q : List Token)
      (values : (l : Place lanes) → t.wires (branch l) 1 ≡ part_of lanes vs l ++ left l)
      (bits : (l : Place lanes) → t.wires (branch l) 2 ≡ (b ∷ []) ∷ q) where
    token : Place lanes → Token
    token l = (piece lanes vs fit l).token

    token_is : (l : Place lanes) → part_of lanes vs l ≡ one (token l)
    unfolding token
    token_is l = (piece lanes vs fit l).is

    abbrev given : Place lanes → List (List Token)
    given l = give (token l)

    takes : (l : Place lanes) (i : ℕ) → t.wires (branch l) i ≡ at_port (one (token l) ∷ one (b ∷ []) ∷ []) i ++ pop12 (t.wires (branch l)) (left l) q i
    takes l = pop12_takes (t.wires (branch l)) (token l) (b ∷ []) (left l) q (values l ∙ ap (λ z. z ++ left l) (token_is l)) (bits l)

    apart : (l k : Place lanes) (i : ℕ) → part_from old (branch k) (given k) (old.source (branch l) i) ≡ []
    apart l k zero = refl
    apart l k (suc zero) = refl
    apart l k (suc (suc zero)) = refl
    apart l k (suc (suc (suc i))) = refl

    all : Fired old lanes branch (λ l k. refl) t (λ l. one (token l) ∷ one (b ∷ []) ∷ []) given (λ l. pop12 (t.wires (branch l)) (left l) q) (λ l. can (item lanes l) (token l) (t.slots (branch l))) takes apart (λ l. true)
    all = all_fired old lanes branch (λ l k. refl) t (λ l. one (token l) ∷ one (b ∷ []) ∷ []) given (λ l. pop12 (t.wires (branch l)) (left l) q) (λ l. can (item lanes l) (token l) (t.slots (branch l))) takes apart

    -- only the Branch of lane l feeds an Exit of lane l
    only_own : (p : ℕ) (l k : Place lanes) → same_place lanes l k ≡ false → part_from old (branch k) (given k) (Some (record { at = branch l; port = p })) ≡ []
    only_own p l k e = ap (λ z. if z then at_port (given k) p else []) e

    gets_own : (p : ℕ) (l : Place lanes) → part_from old (branch l) (given l) (Some (record { at = branch l; port = p })) ≡ at_port (give (token l)) p
    gets_own p l = ap (λ z. if z then at_port (given l) p else []) (same_place_self lanes l)

    record Chosen : Type 0 where
      to : Held (Branches lanes)
      inner : PlanInner old to t
      values_left : (l : Place lanes) → to.wires (branch l) 1 ≡ left l
      bits_left : (l : Place lanes) → to.wires (branch l) 2 ≡ q
      gives1 : (l : Place lanes) → to.wires (out1 l) 1 ≡ t.wires (out1 l) 1 ++ at_port (give (token l)) 1
      gives2 : (l : Place lanes) → to.wires (out2 l) 1 ≡ t.wires (out2 l) 1 ++ at_port (give (token l)) 2
      conditions_stay : to.wires fork 1 ≡ t.wires fork 1
      passes_stay : to.wires passed 1 ≡ t.wires passed 1

    chosen : Chosen
    chosen =
        record {
          to = all.to;
          inner = all.inner;
          values_left = λ l. all.own l 1;
          bits_left = λ l. all.own l 2;
          gives1 = λ l. all.fed (out1 l) 1 l (λ k. refl) (only_own 1 l) ∙ ap (λ z. t.wires (out1 l) 1 ++ z) (gets_own 1 l);
          gives2 = λ l. all.fed (out2 l) 1 l (λ k. refl) (only_own 2 l) ∙ ap (λ z. t.wires (out2 l) 1 ++ z) (gets_own 2 l);
          conditions_stay = all.others fork 1 (λ l. refl) (λ l. refl);
          passes_stay = all.others passed 1 (λ l. refl) (λ l. refl);
        }

  module _ (s : Held (OneBranch lanes)) (t : Held (Branches lanes)) (u : Held (OneBranch lanes)) (c : ℕ) (fits : PlanFits old t) (r : Related s t) where
    fire_join : PlanStep new s new_join (Fire c) u → Related u t
    fire_join st =
        let (vs, ec, len, et, eg, en) = st.acts in
        let takes : (l : Place lanes) → s.wires new_join (number lanes l) ≡ part_of lanes vs l ++ u.wires new_join (number lanes l) =
        λ l. took new s new_join (Fire c) u st new_join (number lanes l) (part_of lanes vs l) (ap (λ z. at_port z (number lanes l)) et) (from_value new_join st.given (place_at lanes (number lanes l)) (λ k. refl)) in
        record {
          values = before_joined lanes _ _ _ _ _ vs len (λ l. fits (branch l) 1 (item lanes l) refl) takes (gave new s new_join (Fire c) u st new_branch 1 (one (concat vs)) refl (ap (λ z. at_port z 1) eg)) r.values;
          outs1 = behind_same lanes _ _ _ _ _ _ (λ l. refl) (λ l. still new s new_join (Fire c) u st (new_out1 l) 1 refl refl) (still new s new_join (Fire c) u st new_split1 1 refl refl) r.outs1;
          outs2 = behind_same lanes _ _ _ _ _ _ (λ l. refl) (λ l. still new s new_join (Fire c) u st (new_out2 l) 1 refl refl) (still new s new_join (Fire c) u st new_split2 1 refl refl) r.outs2;
          bits = λ l. r.bits l ∙ sym (still new s new_join (Fire c) u st new_branch 2 refl refl);
          conditions = r.conditions ∙ sym (still new s new_join (Fire c) u st new_fork 1 refl refl);
          passes = r.passes ∙ sym (still new s new_join (Fire c) u st new_passed 1 refl refl);
        }

    fire_split1 : PlanStep new s new_split1 (Fire c) u → Related u t
    fire_split1 st =
        let (vs, ec, each, et, eg, en) = st.acts in
        let head : s.wires new_split1 1 ≡ concat vs ∷ u.wires new_split1 1 = took new s new_split1 (Fire c) u st new_split1 1 (one (concat vs)) (ap (λ z. at_port z 1) et) refl in
        let gets : (l : Place lanes) → u.wires (new_out1 l) 1 ≡ s.wires (new_out1 l) 1 ++ part_of lanes vs l =
        λ l. gave new s new_split1 (Fire c) u st (new_out1 l) 1 (part_of lanes vs l) refl (ap (λ z. at_port z (number lanes l)) eg) in
        record {
          values = before_same lanes _ _ _ _ _ _ (λ l. refl) (λ l. still new s new_split1 (Fire c) u st new_join (number lanes l) refl (from_value new_split1 st.given (place_at lanes (number lanes l)) (λ j. refl))) (still new s new_split1 (Fire c) u st new_branch 1 refl refl) r.values;
          outs1 = behind_split lanes _ _ _ _ _ vs each head gets r.outs1;
          outs2 = behind_same lanes _ _ _ _ _ _ (λ l. refl) (λ l. still new s new_split1 (Fire c) u st (new_out2 l) 1 refl refl) (still new s new_split1 (Fire c) u st new_split2 1 refl refl) r.outs2;
          bits = λ l. r.bits l ∙ sym (still new s new_split1 (Fire c) u st new_branch 2 refl refl);
          conditions = r.conditions ∙ sym (still new s new_split1 (Fire c) u st new_fork 1 refl refl);
          passes = r.passes ∙ sym (still new s new_split1 (Fire c) u st new_passed 1 refl refl);
        }

    fire_split2 : PlanStep new s new_split2 (Fire c) u → Related u t
    fire_split2 st =
        let (vs, ec, each, et, eg, en) = st.acts in
        let head : s.wires new_split2 1 ≡ concat vs ∷ u.wires new_split2 1 = took new s new_split2 (Fire c) u st new_split2 1 (one (concat vs)) (ap (λ z. at_port z 1) et) refl in
        let gets : (l : Place lanes) → u.wires (new_out2 l) 1 ≡ s.wires (new_out2 l) 1 ++ part_of lanes vs l =
        λ l. gave new s new_split2 (Fire c) u st (new_out2 l) 1 (part_of lanes vs l) refl (ap (λ z. at_port z (number lanes l)) eg) in
        record {
          values = before_same lanes _ _ _ _ _ _ (λ l. refl) (λ l. still new s new_split2 (Fire c) u st new_join (number lanes l) refl (from_value new_split2 st.given (place_at lanes (number lanes l)) (λ j. refl))) (still new s new_split2 (Fire c) u st new_branch 1 refl refl) r.values;
          outs1 = behind_same lanes _ _ _ _ _ _ (λ l. refl) (λ l. still new s new_split2 (Fire c) u st (new_out1 l) 1 refl refl) (still new s new_split2 (Fire c) u st new_split1 1 refl refl) r.outs1;
          outs2 = behind_split lanes _ _ _ _ _ vs each head gets r.outs2;
          bits = λ l. r.bits l ∙ sym (still new s new_split2 (Fire c) u st new_branch 2 refl refl);
          conditions = r.conditions ∙ sym (still new s new_split2 (Fire c) u st new_fork 1 refl refl);
          passes = r.passes ∙ sym (still new s new_split2 (Fire c) u st new_passed 1 refl refl);
        }

    fire_fork : PlanStep new s new_fork (Fire c) u → (w : Held (Branches lanes)) × PlanInner old w t × Related u w
    fire_fork st =
        let (v, ec, et, eg, en) = st.acts in
        let head : s.wires new_fork 1 ≡ v ∷ u.wires new_fork 1 = took new s new_fork (Fire c) u st new_fork 1 (one v) (ap (λ z. at_port z 1) et) refl in
        let copies : List (List Token) = replicate (suc (length lanes)) (one v) in
        let w : Held (Branches lanes) = after old t fork (pop1 (t.wires fork) (u.wires new_fork 1)) copies (t.slots fork) in
        let st2 : PlanStep old t fork (Fire 0) w =
        do_step old t fork (Fire 0) (one v ∷ []) copies (t.slots fork) (pop1 (t.wires fork) (u.wires new_fork 1)) (v, refl, refl, refl, refl) (pop1_takes (t.wires fork) v (u.wires new_fork 1) (r.conditions ∙ head)) in (
          w,
          fires fork 0 w st2 rest,
          record {
            values = before_same lanes _ _ _ _ _ _ (λ l. append-nil (t.wires (branch l) 1)) (λ l. still new s new_fork (Fire c) u st new_join (number lanes l) refl (from_value new_fork st.given (place_at lanes (number lanes l)) (λ j. refl))) (still new s new_fork (Fire c) u st new_branch 1 refl refl) r.values;
            outs1 = behind_same lanes _ _ _ _ _ _ (λ l. append-nil (t.wires (out1 l) 1)) (λ l. still new s new_fork (Fire c) u st (new_out1 l) 1 refl refl) (still new s new_fork (Fire c) u st new_split1 1 refl refl) r.outs1;
            outs2 = behind_same lanes _ _ _ _ _ _ (λ l. append-nil (t.wires (out2 l) 1)) (λ l. still new s new_fork (Fire c) u st (new_out2 l) 1 refl refl) (still new s new_fork (Fire c) u st new_split2 1 refl refl) r.outs2;
            bits = λ l. (λ j. r.bits l j ++ given_number lanes v l j) ∙ sym (gave new s new_fork (Fire c) u st new_branch 2 (one v) refl (ap (λ z. at_port z 1) eg));
            conditions = append-nil (u.wires new_fork 1);
            passes = (λ j. r.passes j ++ given_last lanes v j) ∙ sym (gave new s new_fork (Fire c) u st new_passed 1 (one v) refl (ap (λ z. at_port z 2) eg));
          },
        )

    next : (v : Token) → s.wires new_branch 1 ≡ v ∷ u.wires new_branch 1 → Next lanes (λ l. t.wires (branch l) 1) (λ l. s.wires new_join (number lanes l)) v (u.wires new_branch 1)
    next v head = before_next lanes (λ l. t.wires (branch l) 1) (λ l. s.wires new_join (number lanes l)) (s.wires new_branch 1) v (u.wires new_branch 1) head r.values

    fire_branch : PlanStep new s new_branch (Fire c) u → (w : Held (Branches lanes)) × PlanInner old w t × Related u w
    fire_branch st =
        let (v, ec, way, en) = st.acts in
        elim way [
          | inl h ↦
              let (et, eg) = h in
              let f = next v (took new s new_branch (Fire c) u st new_branch 1 (one v) (ap (λ z. at_port z 1) et) refl) in
              let bit : s.wires new_branch 2 ≡ (1 ∷ []) ∷ u.wires new_branch 2 = took new s new_branch (Fire c) u st new_branch 2 (one (1 ∷ [])) (ap (λ z. at_port z 2) et) refl in
              let go = chosen t 1 (λ x. one x ∷ []) (λ a x slots. (x, refl, inl (refl, refl), refl)) f.tuple f.fit f.left (u.wires new_branch 2) f.cells_are (λ l. r.bits l ∙ bit) in (
                go.to,
                go.inner,
                record {
                  values = before_same lanes _ _ _ _ _ _ go.values_left (λ l. still new s new_branch (Fire c) u st new_join (number lanes l) refl (from_value new_branch st.given (place_at lanes (number lanes l)) (λ k. refl))) refl f.before;
                  outs1 = behind_given lanes _ _ _ _ _ _ f.tuple v f.fit f.joined_is (λ l. go.gives1 l ∙ ap (λ z. t.wires (out1 l) 1 ++ z) (sym (token_is t 1 (λ x. one x ∷ []) (λ a x slots. (x, refl, inl (refl, refl), refl)) f.tuple f.fit f.left (u.wires new_branch 2) f.cells_are (λ l. r.bits l ∙ bit) l))) (λ l. still new s new_branch (Fire c) u st (new_out1 l) 1 refl refl) (gave new s new_branch (Fire c) u st new_split1 1 (one v) refl (ap (λ z. at_port z 1) eg)) r.outs1;
                  outs2 = behind_same lanes _ _ _ _ _ _ (λ l. go.gives2 l ∙ append-nil (t.wires (out2 l) 1)) (λ l. still new s new_branch (Fire c) u st (new_out2 l) 1 refl refl) (still new s new_branch (Fire c) u st new_split2 1 refl (ap (λ z. at_port z 2) eg)) r.outs2;
                  bits = go.bits_left;
                  conditions = go.conditions_stay ∙ r.conditions ∙ sym (still new s new_branch (Fire c) u st new_fork 1 refl refl);
                  passes = go.passes_stay ∙ r.passes ∙ sym (still new s new_branch (Fire c) u st new_passed 1 refl refl);
                },
              )
          | inr h ↦
              let (et, eg) = h in
              let f = next v (took new s new_branch (Fire c) u st new_branch 1 (one v) (ap (λ z. at_port z 1) et) refl) in
              let bit : s.wires new_branch 2 ≡ (0 ∷ []) ∷ u.wires new_branch 2 = took new s new_branch (Fire c) u st new_branch 2 (one (0 ∷ [])) (ap (λ z. at_port z 2) et) refl in
              let go = chosen t 0 (λ x. [] ∷ one x ∷ []) (λ a x slots. (x, refl, inr (refl, refl), refl)) f.tuple f.fit f.left (u.wires new_branch 2) f.cells_are (λ l. r.bits l ∙ bit) in (
                go.to,
                go.inner,
                record {
                  values = before_same lanes _ _ _ _ _ _ go.values_left (λ l. still new s new_branch (Fire c) u st new_join (number lanes l) refl (from_value new_branch st.given (place_at lanes (number lanes l)) (λ k. refl))) refl f.before;
                  outs1 = behind_same lanes _ _ _ _ _ _ (λ l. go.gives1 l ∙ append-nil (t.wires (out1 l) 1)) (λ l. still new s new_branch (Fire c) u st (new_out1 l) 1 refl refl) (still new s new_branch (Fire c) u st new_split1 1 refl (ap (λ z. at_port z 1) eg)) r.outs1;
                  outs2 = behind_given lanes _ _ _ _ _ _ f.tuple v f.fit f.joined_is (λ l. go.gives2 l ∙ ap (λ z. t.wires (out2 l) 1 ++ z) (sym (token_is t 0 (λ x. [] ∷ one x ∷ []) (λ a x slots. (x, refl, inr (refl, refl), refl)) f.tuple f.fit f.left (u.wires new_branch 2) f.cells_are (λ l. r.bits l ∙ bit) l))) (λ l. still new s new_branch (Fire c) u st (new_out2 l) 1 refl refl) (gave new s new_branch (Fire c) u st new_split2 1 (one v) refl (ap (λ z. at_port z 2) eg)) r.outs2;
                  bits = go.bits_left;
                  conditions = go.conditions_stay ∙ r.conditions ∙ sym (still new s new_branch (Fire c) u st new_fork 1 refl refl);
                  passes = go.passes_stay ∙ r.passes ∙ sym (still new s new_branch (Fire c) u st new_passed 1 refl refl);
                },
              )
        ]

  -- one Branch matches the Branches
  module _ (hx : Naming (OneBranch lanes)) (gx : Naming (Branches lanes)) (same : SameBranchEnds lanes hx gx) where
    all_feeds : (s : Held (OneBranch lanes)) (t : Held (Branches lanes)) (u : Held (OneBranch lanes)) (n : OneBranch lanes) (v : Token) → Related s t → PlanStep new s n (Feed v) u → (m : Branches lanes) × (hx.name n ≡ gx.name m) × (w : Held (Branches lanes)) × PlanStep old t m (Feed v) w × Related u w
    all_feeds s t u new_condition v r st = let (w, st2, r2) = feed_condition s t u v r st in (condition, same.condition_is, w, st2, r2)
    all_feeds s t u (new_value l) v r st = let (w, st2, r2) = feed_value s t u v r l st in (value l, same.value_is l, w, st2, r2)
    all_feeds s t u _ v r st = absurd st.acts

    all_takes : (s : Held (OneBranch lanes)) (t : Held (Branches lanes)) (u : Held (OneBranch lanes)) (n : OneBranch lanes) (v : Token) → PlanFits old t → Related s t → PlanStep new s n (Take v) u → (m : Branches lanes) × (hx.name n ≡ gx.name m) × (y w : Held (Branches lanes)) × PlanInner old y t × PlanStep old y m (Take v) w × Related u w
    all_takes s t u new_passed v fits r st = let (w, st2, r2) = take_passed s t u v r st in (passed, same.passed_is, t, w, rest, st2, r2)
    all_takes s t u (new_out1 l) v fits r st = let (w, st2, r2) = take_out1 s t u v r l st in (out1 l, same.out1_is l, t, w, rest, st2, r2)
    all_takes s t u (new_out2 l) v fits r st = let (w, st2, r2) = take_out2 s t u v r l st in (out2 l, same.out2_is l, t, w, rest, st2, r2)
    all_takes s t u _ v fits r st = absurd st.acts

    all_fires : (s : Held (OneBranch lanes)) (t : Held (Branches lanes)) (u : Held (OneBranch lanes)) (n : OneBranch lanes) (c : ℕ) → PlanFits old t → Related s t → PlanStep new s n (Fire c) u → (w : Held (Branches lanes)) × PlanInner old w t × Related u w
    all_fires s t u new_join c fits r st = (t, rest, fire_join s t u c fits r st)
    all_fires s t u new_split1 c fits r st = (t, rest, fire_split1 s t u c fits r st)
    all_fires s t u new_split2 c fits r st = (t, rest, fire_split2 s t u c fits r st)
    all_fires s t u new_fork c fits r st = fire_fork s t u c fits r st
    all_fires s t u new_branch c fits r st = fire_branch s t u c fits r st
    all_fires s t u _ c fits r st = absurd st.acts

    pub one_branch_matches : PlanMatches new old hx gx
    one_branch_matches = record { R = Related; begins = begins; feeds = all_feeds; takes = all_takes; fires = all_fires }
