-- A tagged loop takes a tuple, runs it through its turns and gives the result.
use Rattle.std.proofs.Common.{◌≡◌, ℕ, zero, suc, ◌<◌, refl, sym, ap, subst, ◌∙◌, not, Bool, List, [], ◌∷◌, ◌++◌, Some, None, append-nil, append_assoc, lit<}
use Rattle.std.proofs.lemmas.Nat.{pow_pos}
use Rattle.fun_expr.specs.Function.{Function, fun_value}
use Rattle.port_types.specs.Token.{Fits}
use Rattle.components.specs.Kind.{Shape}
use Rattle.components.specs.Name.{Name}
use Rattle.components.specs.declared.kind.Kind.TheVariants.{Entry, Exit, Tagger}
use Rattle.circuits.specs.PortTokens.{Token, one}
use Rattle.circuits.specs.Firing.{Label.Fire, Acts, Fires}
use Rattle.circuits.specs.CircuitState.{Slot}
use Rattle.circuits.specs.Root.{PassesThrough}
use Rattle.circuits.specs.Drains.{IsNoExit, Drains}
use Rattle.std.specs.List.{AllByRecursion}
use Rattle.circuit_plans.proofs.Plans.{Plan, Naming, Held, PlanStep, PlanInner, rest, fires, plan_then, built, plan_start}
use Rattle.circuit_plans.proofs.PlanTyped.{ForSome}
use Rattle.circuit_plans.proofs.PlanAfter.{after, do_step, pop1, pop2, pop12, pop1_takes, pop2_takes, pop12_takes}
use Rattle.circuit_plans.proofs.PlanDrains.{plan_loaded, dead_wire, still_slots, IsNoLead, none_led, plan_drains}
use Rattle.tagged_loop.specs.TaggedLoop.{TaggedNode, new_entry, tagger, merge, tag, new_pure, new_pair, retag, new_branch, new_exit}
use Rattle.loop_laws.specs.Polarity.{back_bit, exit_bit}
use Rattle.tagged_loop.proofs.Turns.{next, condition, Loops, ends, turns, LoopsAll}
use Rattle.tagged_loop.proofs.LoopPlans.{Maps, tagged_plan}
use Rattle.tagged_loop.proofs.LoopSteps.{given_back, branch_acts, branch_exits, back_gets, exit_gets_none, exit_gets, back_gets_none}
use Rattle.tagged_loop.proofs.LoopRuns.{cut_value}
use Rattle.tagged_loop.proofs.LoopResults.{results_fit}
use Rattle.port_types.specs.Tag.{tag_width}

-- what each wire holds, and the Tagger's slots
pub record Now : Type 0 where
  pub waits : List Token
  pub merge1 : List Token
  pub merge2 : List Token
  pub tag1 : List Token
  pub retag1 : List Token
  pub pure1 : List Token
  pub pair1 : List Token
  pub retag2 : List Token
  pub branch1 : List Token
  pub branch2 : List Token
  pub tagger2 : List Token
  pub out : List Token
  pub slots : List Slot

abbrev pub clear : List Slot → List Token → List Token → Now
clear z q o = record { waits = q; merge1 = []; merge2 = []; tag1 = []; retag1 = []; pure1 = []; pair1 = []; retag2 = []; branch1 = []; branch2 = []; tagger2 = []; out = o; slots = z }

-- the slot of tag 0, while its tuple is on the ring, and with its result
abbrev busy : List Slot
busy = record { tag = 0; result = None } ∷ []

abbrev full : Token → List Slot
full y = record { tag = 0; result = Some y } ∷ []

abbrev pub entered : Token → List Token → List Token → Now
entered x q o = record (clear busy q o) { merge1 = one (0 ∷ x) }

abbrev pub came_back : Token → List Token → List Token → Now
came_back x q o = record (clear busy q o) { merge2 = one (0 ∷ x) }

abbrev pub merged : Token → List Token → List Token → Now
merged x q o = record (clear busy q o) { tag1 = one (0 ∷ x) }

abbrev pub parted : Token → List Token → List Token → Now
parted x q o = record (clear busy q o) { retag1 = one (0 ∷ []); pure1 = one x }

abbrev pub valued : Token → List Token → List Token → Now
valued z q o = record (clear busy q o) { retag1 = one (0 ∷ []); pair1 = one z }

abbrev pub cut_up : Token → ℕ → List Token → List Token → Now
cut_up y c q o = record (clear busy q o) { retag1 = one (0 ∷ []); retag2 = one y; branch2 = one (c ∷ []) }

abbrev pub tagged_again : Token → ℕ → List Token → List Token → Now
tagged_again y c q o = record (clear busy q o) { branch1 = one (0 ∷ y); branch2 = one (c ∷ []) }

abbrev pub gone_out : Token → List Token → List Token → Now
gone_out y q o = record (clear busy q o) { tagger2 = one (0 ∷ y) }

pub record RingIs (s : Held TaggedNode) (w : Now) : Type 0 where
  pub waits : s.wires tagger 1 ≡ w.waits
  pub merge1 : s.wires merge 1 ≡ w.merge1
  pub merge2 : s.wires merge 2 ≡ w.merge2
  pub tag1 : s.wires tag 1 ≡ w.tag1
  pub retag1 : s.wires retag 1 ≡ w.retag1
  pub pure1 : s.wires new_pure 1 ≡ w.pure1
  pub pair1 : s.wires new_pair 1 ≡ w.pair1
  pub retag2 : s.wires retag 2 ≡ w.retag2
  pub branch1 : s.wires new_branch 1 ≡ w.branch1
  pub branch2 : s.wires new_branch 2 ≡ w.branch2
  pub tagger2 : s.wires tagger 2 ≡ w.tagger2
  pub out : s.wires new_exit 1 ≡ w.out
  pub slots : s.slots tagger ≡ w.slots

module _ (a : Shape) (f : Function) (d : Bool) (n : ℕ) where
  abbrev pub new : Plan TaggedNode
  new = tagged_plan a f d n

  pub record Leads (t : Held TaggedNode) (w : Now) : Type 0 where
    pub to : Held TaggedNode
    pub inner : PlanInner new to t
    pub is : RingIs to w

  one_fire : (t u : Held TaggedNode) (m : TaggedNode) (k : ℕ) (w : Now) → PlanStep new t m (Fire k) u → RingIs u w → Leads t w
  one_fire t u m k w st h = record { to = u; inner = fires m k u st rest; is = h }

  leads_then : (t : Held TaggedNode) (w x : Now) → Leads t w → ((u : Held TaggedNode) → RingIs u w → Leads u x) → Leads t x
  leads_then t w x g k =
      let h = k g.to g.is in record { to = h.to; inner = plan_then new h.to g.to t g.inner h.inner; is = h.is }

  go_take : (t : Held TaggedNode) (v : Token) (q o : List Token) → (lt : 0 < n) → (h : RingIs t (clear [] (v ∷ q) o)) → Leads t (entered v q o)
  go_take t v q o lt h =
      one_fire t (after new t tagger (pop1 (t.wires tagger) q) (one (0 ∷ v) ∷ []) busy) tagger 2 (entered v q o)
      (do_step new t tagger (Fire 2) (one v ∷ []) (one (0 ∷ v) ∷ []) busy (pop1 (t.wires tagger) q) (subst (λ z. Acts (Tagger a n) (Fire 2) z (one v ∷ []) (one (0 ∷ v) ∷ []) busy) (sym h.slots) (v, lt, tt, refl, refl, refl)) (pop1_takes (t.wires tagger) v q h.waits))
      (record {
        waits = append-nil q;
        merge1 = ap (λ z. z ++ one (0 ∷ v)) h.merge1;
        merge2 = append-nil _ ∙ h.merge2;
        tag1 = append-nil _ ∙ h.tag1;
        retag1 = append-nil _ ∙ h.retag1;
        pure1 = append-nil _ ∙ h.pure1;
        pair1 = append-nil _ ∙ h.pair1;
        retag2 = append-nil _ ∙ h.retag2;
        branch1 = append-nil _ ∙ h.branch1;
        branch2 = append-nil _ ∙ h.branch2;
        tagger2 = append-nil _ ∙ h.tagger2;
        out = append-nil _ ∙ h.out;
        slots = refl;
      })

  go_merge : (t : Held TaggedNode) (v : Token) (q o : List Token) → (h : RingIs t (entered v q o)) → Leads t (merged v q o)
  go_merge t v q o h =
      one_fire t (after new t merge (pop1 (t.wires merge) []) (one (0 ∷ v) ∷ []) (t.slots merge)) merge 0 (merged v q o)
      (do_step new t merge (Fire 0) (one (0 ∷ v) ∷ []) (one (0 ∷ v) ∷ []) (t.slots merge) (pop1 (t.wires merge) []) (0 ∷ v, lit< tt, refl, refl, refl) (pop1_takes (t.wires merge) (0 ∷ v) [] h.merge1))
      (record {
        waits = append-nil _ ∙ h.waits;
        merge1 = refl;
        merge2 = append-nil _ ∙ h.merge2;
        tag1 = ap (λ z. z ++ one (0 ∷ v)) h.tag1;
        retag1 = append-nil _ ∙ h.retag1;
        pure1 = append-nil _ ∙ h.pure1;
        pair1 = append-nil _ ∙ h.pair1;
        retag2 = append-nil _ ∙ h.retag2;
        branch1 = append-nil _ ∙ h.branch1;
        branch2 = append-nil _ ∙ h.branch2;
        tagger2 = append-nil _ ∙ h.tagger2;
        out = append-nil _ ∙ h.out;
        slots = h.slots;
      })

  go_merge_back : (t : Held TaggedNode) (v : Token) (q o : List Token) → (h : RingIs t (came_back v q o)) → Leads t (merged v q o)
  go_merge_back t v q o h =
      one_fire t (after new t merge (pop2 (t.wires merge) []) (one (0 ∷ v) ∷ []) (t.slots merge)) merge 1 (merged v q o)
      (do_step new t merge (Fire 1) ([] ∷ one (0 ∷ v) ∷ []) (one (0 ∷ v) ∷ []) (t.slots merge) (pop2 (t.wires merge) []) (0 ∷ v, lit< tt, refl, refl, refl) (pop2_takes (t.wires merge) (0 ∷ v) [] h.merge2))
      (record {
        waits = append-nil _ ∙ h.waits;
        merge1 = append-nil _ ∙ h.merge1;
        merge2 = refl;
        tag1 = ap (λ z. z ++ one (0 ∷ v)) h.tag1;
        retag1 = append-nil _ ∙ h.retag1;
        pure1 = append-nil _ ∙ h.pure1;
        pair1 = append-nil _ ∙ h.pair1;
        retag2 = append-nil _ ∙ h.retag2;
        branch1 = append-nil _ ∙ h.branch1;
        branch2 = append-nil _ ∙ h.branch2;
        tagger2 = append-nil _ ∙ h.tagger2;
        out = append-nil _ ∙ h.out;
        slots = h.slots;
      })

  go_tag : (t : Held TaggedNode) (v : Token) (q o : List Token) → (fit : Fits a v) → (h : RingIs t (merged v q o)) → Leads t (parted v q o)
  go_tag t v q o fit h =
      one_fire t (after new t tag (pop1 (t.wires tag) []) (one (0 ∷ []) ∷ one v ∷ []) (t.slots tag)) tag 0 (parted v q o)
      (do_step new t tag (Fire 0) (one (0 ∷ (v ++ [])) ∷ []) (one (0 ∷ []) ∷ one v ∷ []) (t.slots tag) (pop1 (t.wires tag) []) ((0 ∷ []) ∷ v ∷ [], refl, ((pow_pos (tag_width n), tt), (fit, tt)), refl, refl, refl) (pop1_takes (t.wires tag) (0 ∷ (v ++ [])) [] (h.tag1 ∙ ap (λ z. one (0 ∷ z)) (sym (append-nil v)))))
      (record {
        waits = append-nil _ ∙ h.waits;
        merge1 = append-nil _ ∙ h.merge1;
        merge2 = append-nil _ ∙ h.merge2;
        tag1 = refl;
        retag1 = ap (λ z. z ++ one (0 ∷ [])) h.retag1;
        pure1 = ap (λ z. z ++ one v) h.pure1;
        pair1 = append-nil _ ∙ h.pair1;
        retag2 = append-nil _ ∙ h.retag2;
        branch1 = append-nil _ ∙ h.branch1;
        branch2 = append-nil _ ∙ h.branch2;
        tagger2 = append-nil _ ∙ h.tagger2;
        out = append-nil _ ∙ h.out;
        slots = h.slots;
      })

  go_pure : (t : Held TaggedNode) (v : Token) (q o : List Token) → (h : RingIs t (parted v q o)) → Leads t (valued (fun_value f v) q o)
  go_pure t v q o h =
      one_fire t (after new t new_pure (pop1 (t.wires new_pure) []) (one (fun_value f v) ∷ []) (t.slots new_pure)) new_pure 0 (valued (fun_value f v) q o)
      (do_step new t new_pure (Fire 0) (one v ∷ []) (one (fun_value f v) ∷ []) (t.slots new_pure) (pop1 (t.wires new_pure) []) (v, refl, refl, refl, refl) (pop1_takes (t.wires new_pure) v [] h.pure1))
      (record {
        waits = append-nil _ ∙ h.waits;
        merge1 = append-nil _ ∙ h.merge1;
        merge2 = append-nil _ ∙ h.merge2;
        tag1 = append-nil _ ∙ h.tag1;
        retag1 = append-nil _ ∙ h.retag1;
        pure1 = refl;
        pair1 = ap (λ z. z ++ one (fun_value f v)) h.pair1;
        retag2 = append-nil _ ∙ h.retag2;
        branch1 = append-nil _ ∙ h.branch1;
        branch2 = append-nil _ ∙ h.branch2;
        tagger2 = append-nil _ ∙ h.tagger2;
        out = append-nil _ ∙ h.out;
        slots = h.slots;
      })

  go_pair : (t : Held TaggedNode) (z y : Token) (c : ℕ) (q o : List Token) → (e : y ++ c ∷ [] ≡ z) → (fy : Fits a y) → (lt : c < 2) → (h : RingIs t (valued z q o)) → Leads t (cut_up y c q o)
  go_pair t z y c q o e fy lt h =
      one_fire t (after new t new_pair (pop1 (t.wires new_pair) []) (one y ∷ one (c ∷ []) ∷ []) (t.slots new_pair)) new_pair 0 (cut_up y c q o)
      (do_step new t new_pair (Fire 0) (one z ∷ []) (one y ∷ one (c ∷ []) ∷ []) (t.slots new_pair) (pop1 (t.wires new_pair) []) (y ∷ (c ∷ []) ∷ [], refl, (fy, ((lt, tt), tt)), ap (λ x. one x ∷ []) (sym e), refl, refl) (pop1_takes (t.wires new_pair) z [] h.pair1))
      (record {
        waits = append-nil _ ∙ h.waits;
        merge1 = append-nil _ ∙ h.merge1;
        merge2 = append-nil _ ∙ h.merge2;
        tag1 = append-nil _ ∙ h.tag1;
        retag1 = append-nil _ ∙ h.retag1;
        pure1 = append-nil _ ∙ h.pure1;
        pair1 = refl;
        retag2 = ap (λ x. x ++ one y) h.retag2;
        branch1 = append-nil _ ∙ h.branch1;
        branch2 = ap (λ x. x ++ one (c ∷ [])) h.branch2;
        tagger2 = append-nil _ ∙ h.tagger2;
        out = append-nil _ ∙ h.out;
        slots = h.slots;
      })

  go_retag : (t : Held TaggedNode) (y : Token) (c : ℕ) (q o : List Token) → (h : RingIs t (cut_up y c q o)) → Leads t (tagged_again y c q o)
  go_retag t y c q o h =
      one_fire t (after new t retag (pop12 (t.wires retag) [] []) (one (0 ∷ (y ++ [])) ∷ []) (t.slots retag)) retag 0 (tagged_again y c q o)
      (do_step new t retag (Fire 0) (one (0 ∷ []) ∷ one y ∷ []) (one (0 ∷ (y ++ [])) ∷ []) (t.slots retag) (pop12 (t.wires retag) [] []) ((0 ∷ []) ∷ y ∷ [], refl, refl, refl, refl, refl) (pop12_takes (t.wires retag) (0 ∷ []) y [] [] h.retag1 h.retag2))
      (record {
        waits = append-nil _ ∙ h.waits;
        merge1 = append-nil _ ∙ h.merge1;
        merge2 = append-nil _ ∙ h.merge2;
        tag1 = append-nil _ ∙ h.tag1;
        retag1 = refl;
        pure1 = append-nil _ ∙ h.pure1;
        pair1 = append-nil _ ∙ h.pair1;
        retag2 = refl;
        branch1 = (λ i. h.branch1 i ++ one (0 ∷ append-nil y i));
        branch2 = append-nil _ ∙ h.branch2;
        tagger2 = append-nil _ ∙ h.tagger2;
        out = append-nil _ ∙ h.out;
        slots = h.slots;
      })

  go_back : (t : Held TaggedNode) (y : Token) (q o : List Token) → (h : RingIs t (tagged_again y (back_bit d) q o)) → Leads t (came_back y q o)
  go_back t y q o h =
      one_fire t (after new t new_branch (pop12 (t.wires new_branch) [] []) (given_back (tag_width n ∷ a) f d n d (0 ∷ y)) (t.slots new_branch)) new_branch 0 (came_back y q o)
      (do_step new t new_branch (Fire 0) (one (0 ∷ y) ∷ one (back_bit d ∷ []) ∷ []) (given_back (tag_width n ∷ a) f d n d (0 ∷ y)) (t.slots new_branch) (pop12 (t.wires new_branch) [] []) (branch_acts (tag_width n ∷ a) f d n d (0 ∷ y) (t.slots new_branch)) (pop12_takes (t.wires new_branch) (0 ∷ y) (back_bit d ∷ []) [] [] h.branch1 h.branch2))
      (record {
        waits = append-nil _ ∙ h.waits;
        merge1 = append-nil _ ∙ h.merge1;
        merge2 = (λ i. h.merge2 i ++ back_gets (tag_width n ∷ a) f d n d (0 ∷ y) i);
        tag1 = append-nil _ ∙ h.tag1;
        retag1 = append-nil _ ∙ h.retag1;
        pure1 = append-nil _ ∙ h.pure1;
        pair1 = append-nil _ ∙ h.pair1;
        retag2 = append-nil _ ∙ h.retag2;
        branch1 = refl;
        branch2 = refl;
        tagger2 = ap (λ z. t.wires tagger 2 ++ z) (exit_gets_none (tag_width n ∷ a) f d n d (0 ∷ y)) ∙ append-nil _ ∙ h.tagger2;
        out = append-nil _ ∙ h.out;
        slots = h.slots;
      })

  go_exit : (t : Held TaggedNode) (y : Token) (q o : List Token) → (h : RingIs t (tagged_again y (exit_bit d) q o)) → Leads t (gone_out y q o)
  go_exit t y q o h =
      one_fire t (after new t new_branch (pop12 (t.wires new_branch) [] []) (given_back (tag_width n ∷ a) f d n (not d) (0 ∷ y)) (t.slots new_branch)) new_branch 0 (gone_out y q o)
      (do_step new t new_branch (Fire 0) (one (0 ∷ y) ∷ one (exit_bit d ∷ []) ∷ []) (given_back (tag_width n ∷ a) f d n (not d) (0 ∷ y)) (t.slots new_branch) (pop12 (t.wires new_branch) [] []) (branch_exits (tag_width n ∷ a) f d n d (0 ∷ y) (t.slots new_branch)) (pop12_takes (t.wires new_branch) (0 ∷ y) (exit_bit d ∷ []) [] [] h.branch1 h.branch2))
      (record {
        waits = append-nil _ ∙ h.waits;
        merge1 = append-nil _ ∙ h.merge1;
        merge2 = ap (λ z. t.wires merge 2 ++ z) (back_gets_none (tag_width n ∷ a) f d n d (0 ∷ y)) ∙ append-nil _ ∙ h.merge2;
        tag1 = append-nil _ ∙ h.tag1;
        retag1 = append-nil _ ∙ h.retag1;
        pure1 = append-nil _ ∙ h.pure1;
        pair1 = append-nil _ ∙ h.pair1;
        retag2 = append-nil _ ∙ h.retag2;
        branch1 = refl;
        branch2 = refl;
        tagger2 = (λ i. h.tagger2 i ++ exit_gets (tag_width n ∷ a) f d n d (0 ∷ y) i);
        out = append-nil _ ∙ h.out;
        slots = h.slots;
      })

  go_keep : (t : Held TaggedNode) (y : Token) (q o : List Token) → (h : RingIs t (gone_out y q o)) → Leads t (clear (full y) q o)
  go_keep t y q o h =
      one_fire t (after new t tagger (pop2 (t.wires tagger) []) ([]) (full y)) tagger 1 (clear (full y) q o)
      (do_step new t tagger (Fire 1) ([] ∷ one (0 ∷ y) ∷ []) ([]) (full y) (pop2 (t.wires tagger) []) (subst (λ z. Acts (Tagger a n) (Fire 1) z ([] ∷ one (0 ∷ y) ∷ []) [] (full y)) (sym h.slots) (0, y, [], [], refl, refl, refl, refl)) (pop2_takes (t.wires tagger) (0 ∷ y) [] h.tagger2))
      (record {
        waits = append-nil _ ∙ h.waits;
        merge1 = append-nil _ ∙ h.merge1;
        merge2 = append-nil _ ∙ h.merge2;
        tag1 = append-nil _ ∙ h.tag1;
        retag1 = append-nil _ ∙ h.retag1;
        pure1 = append-nil _ ∙ h.pure1;
        pair1 = append-nil _ ∙ h.pair1;
        retag2 = append-nil _ ∙ h.retag2;
        branch1 = append-nil _ ∙ h.branch1;
        branch2 = append-nil _ ∙ h.branch2;
        tagger2 = refl;
        out = append-nil _ ∙ h.out;
        slots = refl;
      })

  go_give : (t : Held TaggedNode) (y : Token) (q o : List Token) → (h : RingIs t (clear (full y) q o)) → Leads t (clear [] q (o ++ one y))
  go_give t y q o h =
      one_fire t (after new t tagger (t.wires tagger) ([] ∷ one y ∷ []) []) tagger 0 (clear [] q (o ++ one y))
      (do_step new t tagger (Fire 0) ([]) ([] ∷ one y ∷ []) [] (t.wires tagger) (subst (λ z. Acts (Tagger a n) (Fire 0) z [] ([] ∷ one y ∷ []) []) (sym h.slots) (0, y, refl, refl, refl)) (λ i. refl))
      (record {
        waits = append-nil _ ∙ h.waits;
        merge1 = append-nil _ ∙ h.merge1;
        merge2 = append-nil _ ∙ h.merge2;
        tag1 = append-nil _ ∙ h.tag1;
        retag1 = append-nil _ ∙ h.retag1;
        pure1 = append-nil _ ∙ h.pure1;
        pair1 = append-nil _ ∙ h.pair1;
        retag2 = append-nil _ ∙ h.retag2;
        branch1 = append-nil _ ∙ h.branch1;
        branch2 = append-nil _ ∙ h.branch2;
        tagger2 = append-nil _ ∙ h.tagger2;
        out = ap (λ z. z ++ one y) h.out;
        slots = refl;
      })

module _ (a : Shape) (f : Function) (d : Bool) (n : ℕ) (is_input : f.input ≡ a) (ok : Maps f (a ++ 1 ∷ [])) where
  turn : (t : Held TaggedNode) (x : Token) (q o : List Token) → Fits a x → RingIs t (merged x q o) → Leads a f d n t (tagged_again (next f x) (condition f x) q o)
  turn t x q o fit h =
      let c = cut_value a f d n is_input ok x fit in
      let end = tagged_again (next f x) (condition f x) q o in
      leads_then a f d n t (parted x q o) end (go_tag a f d n t x q o fit h)
      (λ u k.
      leads_then a f d n u (valued (fun_value f x) q o) end (go_pure a f d n u x q o k)
      (λ v l.
      leads_then a f d n v (cut_up (next f x) (condition f x) q o) end (go_pair a f d n v (fun_value f x) (next f x) (condition f x) q o c.is c.fits c.below l)
      (λ w m. go_retag a f d n w (next f x) (condition f x) q o m)))

  run_merged : (y x : Token) → Loops f d y x → (t : Held TaggedNode) (q o : List Token) → Fits a x → RingIs t (merged x q o) → Leads a f d n t (gone_out y q o)
  run_merged y x (ends e g) t q o fit h =
      leads_then a f d n t (tagged_again (next f x) (exit_bit d) q o) (gone_out y q o) (subst (λ c. Leads a f d n t (tagged_again (next f x) c q o)) e (turn t x q o fit h))
      (λ u k. subst (λ z. Leads a f d n u (gone_out z q o)) g (go_exit a f d n u (next f x) q o k))
  run_merged y x (turns e more) t q o fit h =
      leads_then a f d n t (tagged_again (next f x) (back_bit d) q o) (gone_out y q o) (subst (λ c. Leads a f d n t (tagged_again (next f x) c q o)) e (turn t x q o fit h))
      (λ u k.
      leads_then a f d n u (came_back (next f x) q o) (gone_out y q o) (go_back a f d n u (next f x) q o k)
      (λ v l.
      leads_then a f d n v (merged (next f x) q o) (gone_out y q o) (go_merge_back a f d n v (next f x) q o l)
      (λ w m. run_merged y (next f x) more w q o ((cut_value a f d n is_input ok x fit).fits) m)))

  run_tuple : 0 < n → (x y : Token) → Loops f d y x → (t : Held TaggedNode) (q o : List Token) → Fits a x → RingIs t (clear [] (x ∷ q) o) → Leads a f d n t (clear [] q (o ++ one y))
  run_tuple lt x y l t q o fit h =
      let end = clear [] q (o ++ one y) in
      leads_then a f d n t (entered x q o) end (go_take a f d n t x q o lt h)
      (λ u k.
      leads_then a f d n u (merged x q o) end (go_merge a f d n u x q o k)
      (λ v m.
      leads_then a f d n v (gone_out y q o) end (run_merged y x l v q o fit m)
      (λ w g.
      leads_then a f d n w (clear (full y) q o) end (go_keep a f d n w y q o g)
      (λ z i. go_give a f d n z y q o i))))

  run_tuples : 0 < n → (xs ys : List Token) → LoopsAll f d xs ys → AllByRecursion (Fits a) xs → (t : Held TaggedNode) (o : List Token) → RingIs t (clear [] xs o) → Leads a f d n t (clear [] [] (o ++ ys))
  run_tuples lt [] [] l fit t o h = subst (λ z. Leads a f d n t (clear [] [] z)) (sym (append-nil o)) (record { to = t; inner = rest; is = h })
  run_tuples lt [] (y ∷ ys) l fit t o h = absurd l
  run_tuples lt (x ∷ xs) [] l fit t o h = absurd l
  run_tuples lt (x ∷ xs) (y ∷ ys) l fit t o h =
      leads_then a f d n t (clear [] xs (o ++ one y)) (clear [] [] (o ++ y ∷ ys)) (run_tuple lt x y l.0 t xs o fit.0 h)
      (λ u k. subst (λ z. Leads a f d n u (clear [] [] z)) (append_assoc o (one y) ys) (run_tuples lt xs ys l.1 fit.1 u (o ++ one y) k))

  no_lead : (m : TaggedNode) → PassesThrough ((tagged_plan a f d n).kind m) → ForSome ((tagged_plan a f d n).source m 1) (λ q. IsNoLead ((tagged_plan a f d n).kind q.at))
  no_lead new_entry h = absurd h
  no_lead _ h = absurd h

  loaded_is : (x : Naming TaggedNode) (ins : Name → List Token) → RingIs (plan_loaded (tagged_plan a f d n) x ins) (clear [] (ins (x.name new_entry)) [])
  loaded_is x ins = record { waits = refl; merge1 = refl; merge2 = refl; tag1 = refl; retag1 = refl; pure1 = refl; pair1 = refl; retag2 = refl; branch1 = refl; branch2 = refl; tagger2 = refl; out = refl; slots = refl }

  keeps_slots : (m : TaggedNode) → (m ≡ tagger → ⊥) → (k : ℕ) (old_slots : List Slot) (taken given : List (List Token)) (new : List Slot) → Fires ((tagged_plan a f d n).kind m) k old_slots taken given new → new ≡ old_slots
  keeps_slots new_entry ne k o t g e h = absurd h
  keeps_slots tagger ne k o t g e h = absurd (ne refl)
  keeps_slots merge ne k o t g e (v, lt, et, eg, en) = en
  keeps_slots tag ne k o t g e (vs, z, each, et, eg, en) = en
  keeps_slots new_pure ne k o t g e (v, z, et, eg, en) = en
  keeps_slots new_pair ne k o t g e (vs, z, each, et, eg, en) = en
  keeps_slots retag ne k o t g e (vs, z, long, et, eg, en) = en
  keeps_slots new_branch ne k o t g e (v, z, way, en) = en
  keeps_slots new_exit ne k o t g e h = absurd h

  ends_clear : (x : Naming TaggedNode) (ins : Name → List Token) (w : Held TaggedNode) (o : List Token) → PlanInner (tagged_plan a f d n) w (plan_loaded (tagged_plan a f d n) x ins) → RingIs w (clear [] [] o) → (m : TaggedNode) (i : ℕ) → IsNoExit ((tagged_plan a f d n).kind m) → w.wires m i ≡ (plan_start (tagged_plan a f d n)).wires m i
  ends_clear x ins w o g h new_entry i z = dead_wire (tagged_plan a f d n) w (plan_loaded (tagged_plan a f d n) x ins) g new_entry i refl refl
  ends_clear x ins w o g h tagger zero z = dead_wire (tagged_plan a f d n) w (plan_loaded (tagged_plan a f d n) x ins) g tagger 0 refl refl
  ends_clear x ins w o g h tagger (suc zero) z = h.waits
  ends_clear x ins w o g h tagger (suc (suc zero)) z = h.tagger2
  ends_clear x ins w o g h tagger (suc (suc (suc i))) z = dead_wire (tagged_plan a f d n) w (plan_loaded (tagged_plan a f d n) x ins) g tagger (suc (suc (suc i))) refl refl
  ends_clear x ins w o g h merge zero z = dead_wire (tagged_plan a f d n) w (plan_loaded (tagged_plan a f d n) x ins) g merge 0 refl refl
  ends_clear x ins w o g h merge (suc zero) z = h.merge1
  ends_clear x ins w o g h merge (suc (suc zero)) z = h.merge2
  ends_clear x ins w o g h merge (suc (suc (suc i))) z = dead_wire (tagged_plan a f d n) w (plan_loaded (tagged_plan a f d n) x ins) g merge (suc (suc (suc i))) refl refl
  ends_clear x ins w o g h tag zero z = dead_wire (tagged_plan a f d n) w (plan_loaded (tagged_plan a f d n) x ins) g tag 0 refl refl
  ends_clear x ins w o g h tag (suc zero) z = h.tag1
  ends_clear x ins w o g h tag (suc (suc i)) z = dead_wire (tagged_plan a f d n) w (plan_loaded (tagged_plan a f d n) x ins) g tag (suc (suc i)) refl refl
  ends_clear x ins w o g h new_pure zero z = dead_wire (tagged_plan a f d n) w (plan_loaded (tagged_plan a f d n) x ins) g new_pure 0 refl refl
  ends_clear x ins w o g h new_pure (suc zero) z = h.pure1
  ends_clear x ins w o g h new_pure (suc (suc i)) z = dead_wire (tagged_plan a f d n) w (plan_loaded (tagged_plan a f d n) x ins) g new_pure (suc (suc i)) refl refl
  ends_clear x ins w o g h new_pair zero z = dead_wire (tagged_plan a f d n) w (plan_loaded (tagged_plan a f d n) x ins) g new_pair 0 refl refl
  ends_clear x ins w o g h new_pair (suc zero) z = h.pair1
  ends_clear x ins w o g h new_pair (suc (suc i)) z = dead_wire (tagged_plan a f d n) w (plan_loaded (tagged_plan a f d n) x ins) g new_pair (suc (suc i)) refl refl
  ends_clear x ins w o g h retag zero z = dead_wire (tagged_plan a f d n) w (plan_loaded (tagged_plan a f d n) x ins) g retag 0 refl refl
  ends_clear x ins w o g h retag (suc zero) z = h.retag1
  ends_clear x ins w o g h retag (suc (suc zero)) z = h.retag2
  ends_clear x ins w o g h retag (suc (suc (suc i))) z = dead_wire (tagged_plan a f d n) w (plan_loaded (tagged_plan a f d n) x ins) g retag (suc (suc (suc i))) refl refl
  ends_clear x ins w o g h new_branch zero z = dead_wire (tagged_plan a f d n) w (plan_loaded (tagged_plan a f d n) x ins) g new_branch 0 refl refl
  ends_clear x ins w o g h new_branch (suc zero) z = h.branch1
  ends_clear x ins w o g h new_branch (suc (suc zero)) z = h.branch2
  ends_clear x ins w o g h new_branch (suc (suc (suc i))) z = dead_wire (tagged_plan a f d n) w (plan_loaded (tagged_plan a f d n) x ins) g new_branch (suc (suc (suc i))) refl refl
  ends_clear x ins w o g h new_exit i z = absurd z

  entry_shape : (m : TaggedNode) (b : Shape) → (tagged_plan a f d n).kind m ≡ Entry b → (m ≡ new_entry) × (b ≡ a)
  entry_shape new_entry b e = (refl, cc)
  entry_shape tagger b e = cc
  entry_shape merge b e = cc
  entry_shape tag b e = cc
  entry_shape new_pure b e = cc
  entry_shape new_pair b e = cc
  entry_shape retag b e = cc
  entry_shape new_branch b e = cc
  entry_shape new_exit b e = cc

  exit_shape : (m : TaggedNode) (b : Shape) → (tagged_plan a f d n).kind m ≡ Exit b → (m ≡ new_exit) × (b ≡ a)
  exit_shape new_entry b e = cc
  exit_shape tagger b e = cc
  exit_shape merge b e = cc
  exit_shape tag b e = cc
  exit_shape new_pure b e = cc
  exit_shape new_pair b e = cc
  exit_shape retag b e = cc
  exit_shape new_branch b e = cc
  exit_shape new_exit b e = (refl, cc)

  slots_clear : (x : Naming TaggedNode) (ins : Name → List Token) (w : Held TaggedNode) → PlanInner (tagged_plan a f d n) w (plan_loaded (tagged_plan a f d n) x ins) → w.slots tagger ≡ [] → (m : TaggedNode) → w.slots m ≡ []
  slots_clear x ins w g h tagger = h
  slots_clear x ins w g h new_entry = still_slots (tagged_plan a f d n) new_entry (keeps_slots new_entry (λ e. cc)) w (plan_loaded (tagged_plan a f d n) x ins) g
  slots_clear x ins w g h merge = still_slots (tagged_plan a f d n) merge (keeps_slots merge (λ e. cc)) w (plan_loaded (tagged_plan a f d n) x ins) g
  slots_clear x ins w g h tag = still_slots (tagged_plan a f d n) tag (keeps_slots tag (λ e. cc)) w (plan_loaded (tagged_plan a f d n) x ins) g
  slots_clear x ins w g h new_pure = still_slots (tagged_plan a f d n) new_pure (keeps_slots new_pure (λ e. cc)) w (plan_loaded (tagged_plan a f d n) x ins) g
  slots_clear x ins w g h new_pair = still_slots (tagged_plan a f d n) new_pair (keeps_slots new_pair (λ e. cc)) w (plan_loaded (tagged_plan a f d n) x ins) g
  slots_clear x ins w g h retag = still_slots (tagged_plan a f d n) retag (keeps_slots retag (λ e. cc)) w (plan_loaded (tagged_plan a f d n) x ins) g
  slots_clear x ins w g h new_branch = still_slots (tagged_plan a f d n) new_branch (keeps_slots new_branch (λ e. cc)) w (plan_loaded (tagged_plan a f d n) x ins) g
  slots_clear x ins w g h new_exit = still_slots (tagged_plan a f d n) new_exit (keeps_slots new_exit (λ e. cc)) w (plan_loaded (tagged_plan a f d n) x ins) g

  -- where each tuple loops to its output, the tagged loop drains the tuples to the outputs
  pub tagged_drains : 0 < n → (x : Naming TaggedNode) (ins outs : Name → List Token) → AllByRecursion (Fits a) (ins (x.name new_entry)) → LoopsAll f d (ins (x.name new_entry)) (outs (x.name new_exit)) → Drains (built (tagged_plan a f d n) x) ins outs
  tagged_drains lt x ins outs fit l =
      let go = run_tuples lt (ins (x.name new_entry)) (outs (x.name new_exit)) l fit (plan_loaded (tagged_plan a f d n) x ins) [] (loaded_is x ins) in
      plan_drains (tagged_plan a f d n) x (none_led (tagged_plan a f d n) x no_lead) ins outs go.to go.inner
      (record {
        fit_in = λ m b e. let is = entry_shape m b e in subst (λ z. AllByRecursion (Fits z) (ins (x.name m))) (sym is.1) (subst (λ z. AllByRecursion (Fits a) (ins (x.name z))) (sym is.0) fit);
        fit_out = λ m b e.
            let is = exit_shape m b e in
            subst (λ z. AllByRecursion (Fits z) (outs (x.name m))) (sym is.1)
            (subst (λ z. AllByRecursion (Fits a) (outs (x.name z))) (sym is.0) (results_fit a f d is_input ok (ins (x.name new_entry)) (outs (x.name new_exit)) fit l));
        slots = slots_clear x ins go.to go.inner go.is.slots;
        exits = λ m b e. subst (λ z. go.to.wires z 1 ≡ outs (x.name z)) (sym (exit_shape m b e).0) go.is.out;
        others = ends_clear x ins go.to (outs (x.name new_exit)) go.inner go.is;
      })
