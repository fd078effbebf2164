-- The ring of a tagged loop, and what each step does to it.
use Rattle.std.proofs.Common.{◌≡◌, ◌≢◌, ℕ, zero, suc, ◌+◌, ◌<◌, ◌≤◌, ◌⊎◌, inl, inr, IfSome, refl, sym, ap, subst, ◌∙◌, true, false, Bool, nat_eq, eq-eqb, if◌then◌else◌, map, List, [], ◌∷◌, ◌++◌, Some, None, arith, append-nil, append_assoc}
use Rattle.std.proofs.lemmas.Bool.{eqb-true}
use Rattle.std.proofs.lemmas.Bool.Decides.{eqb_tells}
use Rattle.std.proofs.lemmas.List.{map-append}
use Rattle.std.specs.List.{concat, AllByRecursion}
use Rattle.port_types.specs.Token.{Fits}
use Rattle.port_types.specs.Tag.{tag_width}
use Rattle.fun_expr.specs.Function.{Function, fun_value}
use Rattle.components.specs.Kind.{Shape}
use Rattle.circuits.specs.PortTokens.{Token, at_port, one}
use Rattle.circuits.specs.Firing.{Label.Feed, Label.Take, Label.Fire}
use Rattle.circuits.specs.CircuitState.{Slot, HasNoTag}
use Rattle.circuits.proofs.Lists.{each_append, each_left, each_right, each_map}
use Rattle.circuit_plans.proofs.Plans.{Plan, Held, PlanStep, plan_start}
use Rattle.tagged_loop.specs.TaggedLoop.{TaggedNode, new_entry, tagger, merge, tag, new_pure, new_pair, retag, new_branch, new_exit}
use Rattle.loop_laws.specs.Polarity.{back_bit, exit_bit, back_out, exit_out}
use Rattle.tagged_loop.proofs.Turns.{all_but_last, last_number, next, condition, Loops, ends, turns}
use Rattle.tagged_loop.proofs.LoopPlans.{tagged_plan}
use Rattle.tagged_loop.proofs.RingItems.{Item, whole, tag_of, now_of, hit, count, tag_count, open_count, hit_other, hit_le, count_append, tag_append, open_append, open_le, no_tag_count, each_other, Uncons, uncons, keep, pushed, two_of, two_long, one_of, next_more, bit_more}

abbrev pub value_of : Function → Item → Token
value_of f i = fun_value f i.now

abbrev pub next_now : Function → Item → Token
next_now f i = next f i.now

abbrev pub next_whole : Function → Item → Token
next_whole f i = i.tag ∷ next f i.now

abbrev pub again_of : Function → Item → Token
again_of f i = condition f i.now ∷ []

abbrev pub line : {A : Type 0} → List A → List A → List A → List A → List A → List A
line e p v s m = e ++ (p ++ (v ++ (s ++ m)))

-- first says with which value the tuple of a tag began. This tuple has come so far that it ends as it would have from there
abbrev pub Runs : Function → Bool → (ℕ → Token) → Item → Type 0
Runs f d first i = (y : Token) → Loops f d y i.now → Loops f d y (first i.tag)

-- and this one has ended
abbrev pub Ended : Function → Bool → (ℕ → Token) → Item → Type 0
Ended f d first i = Loops f d i.now (first i.tag)

abbrev pub HasResult : Function → Bool → (ℕ → Token) → Slot → Type 0
HasResult f d first x = IfSome x.result (λ v. Loops f d v (first x.tag))

-- the ring: each wire holds an image of one segment of tuples, each slot without a result has one tuple on the ring, and no tag stands in two slots
pub record Ring (f : Function) (d : Bool) (n : ℕ) (s : Held TaggedNode) : Type 0 where
  pub first : ℕ → Token
  pub entering : List Item
  pub returning : List Item
  pub merged : List Item
  pub split : List Item
  pub valued : List Item
  pub paired : List Item
  pub joined : List Item
  pub leaving : List Item
  pub merge1 : s.wires merge 1 ≡ map whole entering
  pub merge2 : s.wires merge 2 ≡ map whole returning
  pub tag1 : s.wires tag 1 ≡ map whole merged
  pub retag1 : s.wires retag 1 ≡ map tag_of (paired ++ (valued ++ split))
  pub pure1 : s.wires new_pure 1 ≡ map now_of split
  pub pair1 : s.wires new_pair 1 ≡ map (value_of f) valued
  pub retag2 : s.wires retag 2 ≡ map (next_now f) paired
  pub branch1 : s.wires new_branch 1 ≡ map (next_whole f) joined
  pub branch2 : s.wires new_branch 2 ≡ map (again_of f) (joined ++ paired)
  pub tagger2 : s.wires tagger 2 ≡ map whole leaving
  pub entering_run : AllByRecursion (Runs f d first) entering
  pub returning_run : AllByRecursion (Runs f d first) returning
  pub line_run : AllByRecursion (Runs f d first) (line joined paired valued split merged)
  pub leaving_end : AllByRecursion (Ended f d first) leaving
  pub counts : (t : ℕ) → count t leaving + count t entering + count t returning + count t (line joined paired valued split merged) ≡ open_count t (s.slots tagger)
  pub results : AllByRecursion (HasResult f d first) (s.slots tagger)
  pub once : (t : ℕ) → tag_count t (s.slots tagger) ≤ 1
  pub below : AllByRecursion (λ x. x.tag < n) (s.slots tagger)

-- the first values of the slots, oldest first, and behind them what waits
abbrev pub queue_of : {f : Function} {d : Bool} {n : ℕ} (s : Held TaggedNode) → Ring f d n s → List Token
queue_of s r = map (λ x. r.first x.tag) (s.slots tagger) ++ s.wires tagger 1

module _ (a : Shape) (f : Function) (d : Bool) (n : ℕ) where
  abbrev pub new : Plan TaggedNode
  new = tagged_plan a f d n

  -- a step that leaves what is still to come out, and what has come out
  pub record Stays (s u : Held TaggedNode) (r : Ring f d n s) : Type 0 where
    pub ring : Ring f d n u
    pub queue : queue_of u ring ≡ queue_of s r
    pub out : u.wires new_exit 1 ≡ s.wires new_exit 1

  more_line : (e p v s m : List Item) (i : Item) → line e p v s (m ++ i ∷ []) ≡ line e p v s m ++ i ∷ []
  more_line e p v s m i = simp append_assoc

  merge_fresh : (s u : Held TaggedNode) (k : ℕ) (st : PlanStep new s merge (Fire k) u) (r : Ring f d n s) (v : Token) → st.taken ≡ one v ∷ [] → st.given ≡ one v ∷ [] → Stays s u r
  merge_fresh s u k st r v et eg =
      let slots : u.slots tagger ≡ s.slots tagger = st.others tagger refl in
      let h : Uncons whole r.entering v (st.between merge 1) = uncons whole r.entering v (st.between merge 1) (sym r.merge1 ∙ st.takes merge 1 ∙ ap (λ z. at_port z 1 ++ st.between merge 1) et) in
      let ran : AllByRecursion (Runs f d r.first) (h.head ∷ h.tail) = subst (AllByRecursion (Runs f d r.first)) h.is r.entering_run in
      let longer : line r.joined r.paired r.valued r.split (r.merged ++ h.head ∷ []) ≡ line r.joined r.paired r.valued r.split r.merged ++ h.head ∷ [] = more_line r.joined r.paired r.valued r.split r.merged h.head in
      record {
        ring = record {
          first = r.first;
          entering = h.tail;
          returning = r.returning;
          merged = r.merged ++ h.head ∷ [];
          split = r.split;
          valued = r.valued;
          paired = r.paired;
          joined = r.joined;
          leaving = r.leaving;
          merge1 = st.gives merge 1 ∙ append-nil _ ∙ sym h.rest;
          merge2 = st.gives merge 2 ∙ append-nil _ ∙ sym (st.takes merge 2 ∙ ap (λ z. at_port z 2 ++ st.between merge 2) et) ∙ r.merge2;
          tag1 = pushed whole r.merged h.head _ _ _ _ (st.takes tag 1) (st.gives tag 1) (ap (λ z. at_port z 1) eg ∙ ap one (sym h.value)) r.tag1;
          retag1 = keep _ _ _ (st.takes retag 1) (st.gives retag 1) ∙ r.retag1;
          pure1 = keep _ _ _ (st.takes new_pure 1) (st.gives new_pure 1) ∙ r.pure1;
          pair1 = keep _ _ _ (st.takes new_pair 1) (st.gives new_pair 1) ∙ r.pair1;
          retag2 = keep _ _ _ (st.takes retag 2) (st.gives retag 2) ∙ r.retag2;
          branch1 = keep _ _ _ (st.takes new_branch 1) (st.gives new_branch 1) ∙ r.branch1;
          branch2 = keep _ _ _ (st.takes new_branch 2) (st.gives new_branch 2) ∙ r.branch2;
          tagger2 = keep _ _ _ (st.takes tagger 2) (st.gives tagger 2) ∙ r.tagger2;
          entering_run = ran.1;
          returning_run = r.returning_run;
          line_run = subst (AllByRecursion (Runs f d r.first)) (sym longer) (each_append (Runs f d r.first) (line r.joined r.paired r.valued r.split r.merged) (h.head ∷ []) r.line_run (ran.0, tt));
          leaving_end = r.leaving_end;
          counts = λ t.
              let was : count t r.entering ≡ hit t h.head.tag + count t h.tail = ap (count t) h.is in
              let goes : count t (line r.joined r.paired r.valued r.split (r.merged ++ h.head ∷ [])) ≡ count t (line r.joined r.paired r.valued r.split r.merged) + (hit t h.head.tag + 0) = ap (count t) longer ∙ count_append t (line r.joined r.paired r.valued r.split r.merged) (h.head ∷ []) in
              let all = r.counts t in
              let these : open_count t (u.slots tagger) ≡ open_count t (s.slots tagger) = ap (open_count t) slots in
              omega (arith, was, goes, all, these);
          results = subst (AllByRecursion (HasResult f d r.first)) (sym slots) r.results;
          once = λ t. subst (λ z. tag_count t z ≤ 1) (sym slots) (r.once t);
          below = subst (AllByRecursion (λ x. x.tag < n)) (sym slots) r.below;
        };
        queue = (λ j. map (λ x. r.first x.tag) (slots j) ++ keep _ _ _ (st.takes tagger 1) (st.gives tagger 1) j);
        out = keep _ _ _ (st.takes new_exit 1) (st.gives new_exit 1);
      }

  merge_back : (s u : Held TaggedNode) (k : ℕ) (st : PlanStep new s merge (Fire k) u) (r : Ring f d n s) (v : Token) → st.taken ≡ [] ∷ one v ∷ [] → st.given ≡ one v ∷ [] → Stays s u r
  merge_back s u k st r v et eg =
      let slots : u.slots tagger ≡ s.slots tagger = st.others tagger refl in
      let h : Uncons whole r.returning v (st.between merge 2) = uncons whole r.returning v (st.between merge 2) (sym r.merge2 ∙ st.takes merge 2 ∙ ap (λ z. at_port z 2 ++ st.between merge 2) et) in
      let ran : AllByRecursion (Runs f d r.first) (h.head ∷ h.tail) = subst (AllByRecursion (Runs f d r.first)) h.is r.returning_run in
      let longer : line r.joined r.paired r.valued r.split (r.merged ++ h.head ∷ []) ≡ line r.joined r.paired r.valued r.split r.merged ++ h.head ∷ [] = more_line r.joined r.paired r.valued r.split r.merged h.head in
      record {
        ring = record {
          first = r.first;
          entering = r.entering;
          returning = h.tail;
          merged = r.merged ++ h.head ∷ [];
          split = r.split;
          valued = r.valued;
          paired = r.paired;
          joined = r.joined;
          leaving = r.leaving;
          merge1 = st.gives merge 1 ∙ append-nil _ ∙ sym (st.takes merge 1 ∙ ap (λ z. at_port z 1 ++ st.between merge 1) et) ∙ r.merge1;
          merge2 = st.gives merge 2 ∙ append-nil _ ∙ sym h.rest;
          tag1 = pushed whole r.merged h.head _ _ _ _ (st.takes tag 1) (st.gives tag 1) (ap (λ z. at_port z 1) eg ∙ ap one (sym h.value)) r.tag1;
          retag1 = keep _ _ _ (st.takes retag 1) (st.gives retag 1) ∙ r.retag1;
          pure1 = keep _ _ _ (st.takes new_pure 1) (st.gives new_pure 1) ∙ r.pure1;
          pair1 = keep _ _ _ (st.takes new_pair 1) (st.gives new_pair 1) ∙ r.pair1;
          retag2 = keep _ _ _ (st.takes retag 2) (st.gives retag 2) ∙ r.retag2;
          branch1 = keep _ _ _ (st.takes new_branch 1) (st.gives new_branch 1) ∙ r.branch1;
          branch2 = keep _ _ _ (st.takes new_branch 2) (st.gives new_branch 2) ∙ r.branch2;
          tagger2 = keep _ _ _ (st.takes tagger 2) (st.gives tagger 2) ∙ r.tagger2;
          entering_run = r.entering_run;
          returning_run = ran.1;
          line_run = subst (AllByRecursion (Runs f d r.first)) (sym longer) (each_append (Runs f d r.first) (line r.joined r.paired r.valued r.split r.merged) (h.head ∷ []) r.line_run (ran.0, tt));
          leaving_end = r.leaving_end;
          counts = λ t.
              let was : count t r.returning ≡ hit t h.head.tag + count t h.tail = ap (count t) h.is in
              let goes : count t (line r.joined r.paired r.valued r.split (r.merged ++ h.head ∷ [])) ≡ count t (line r.joined r.paired r.valued r.split r.merged) + (hit t h.head.tag + 0) = ap (count t) longer ∙ count_append t (line r.joined r.paired r.valued r.split r.merged) (h.head ∷ []) in
              let all = r.counts t in
              let these : open_count t (u.slots tagger) ≡ open_count t (s.slots tagger) = ap (open_count t) slots in
              omega (arith, was, goes, all, these);
          results = subst (AllByRecursion (HasResult f d r.first)) (sym slots) r.results;
          once = λ t. subst (λ z. tag_count t z ≤ 1) (sym slots) (r.once t);
          below = subst (AllByRecursion (λ x. x.tag < n)) (sym slots) r.below;
        };
        queue = (λ j. map (λ x. r.first x.tag) (slots j) ++ keep _ _ _ (st.takes tagger 1) (st.gives tagger 1) j);
        out = keep _ _ _ (st.takes new_exit 1) (st.gives new_exit 1);
      }

  merge_fires : (s u : Held TaggedNode) (k : ℕ) → PlanStep new s merge (Fire k) u → (r : Ring f d n s) → Stays s u r
  merge_fires s u zero st r = let (v, lt, et, eg, en) = st.acts in merge_fresh s u zero st r v et eg
  merge_fires s u (suc zero) st r = let (v, lt, et, eg, en) = st.acts in merge_back s u (suc zero) st r v et eg
  merge_fires s u (suc (suc k)) st r = let (v, lt, et, eg, en) = st.acts in absurd (omega (arith, lt))

  tag_fires : (s u : Held TaggedNode) (k : ℕ) (st : PlanStep new s tag (Fire k) u) (r : Ring f d n s) → Stays s u r
  tag_fires s u k st r =
      let slots : u.slots tagger ≡ s.slots tagger = st.others tagger refl in
      let (vs, z, each, et, eg, en) = st.acts in
      let two = two_of (tag_width n ∷ []) a vs each in
      let (t0, is_t) = one_of (tag_width n) two.left two.left_fits in
      let token : concat vs ≡ t0 ∷ two.right = ap concat two.is ∙ (λ j. is_t j ++ append-nil two.right j) in
      let h : Uncons whole r.merged (t0 ∷ two.right) (st.between tag 1) = uncons whole r.merged (t0 ∷ two.right) (st.between tag 1) (sym r.tag1 ∙ st.takes tag 1 ∙ ap (λ z. at_port z 1 ++ st.between tag 1) et ∙ ap (λ z. z ∷ st.between tag 1) token) in
      let is_tag : t0 ≡ h.head.tag = let k : h.head.tag ∷ h.head.now ≡ t0 ∷ two.right = h.value in cc in
      let is_now : two.right ≡ h.head.now = let k : h.head.tag ∷ h.head.now ≡ t0 ∷ two.right = h.value in cc in
      let gave : st.given ≡ one two.left ∷ one two.right ∷ [] = eg ∙ ap (map one) two.is in
      let same : line r.joined r.paired r.valued (r.split ++ h.head ∷ []) h.tail ≡ line r.joined r.paired r.valued r.split r.merged = ap (λ z. r.joined ++ (r.paired ++ (r.valued ++ z))) (append_assoc r.split (h.head ∷ []) h.tail ∙ ap (λ z. r.split ++ z) (sym h.is)) in
      record {
        ring = record {
          first = r.first;
          entering = r.entering;
          returning = r.returning;
          merged = h.tail;
          split = r.split ++ h.head ∷ [];
          valued = r.valued;
          paired = r.paired;
          joined = r.joined;
          leaving = r.leaving;
          merge1 = keep _ _ _ (st.takes merge 1) (st.gives merge 1) ∙ r.merge1;
          merge2 = keep _ _ _ (st.takes merge 2) (st.gives merge 2) ∙ r.merge2;
          tag1 = st.gives tag 1 ∙ append-nil _ ∙ sym h.rest;
          retag1 = pushed tag_of (r.paired ++ (r.valued ++ r.split)) h.head _ _ _ _ (st.takes retag 1) (st.gives retag 1) (ap (λ z. at_port z 1) gave ∙ ap one (is_t ∙ ap (λ z. z ∷ []) is_tag)) r.retag1 ∙ ap (map tag_of) (append_assoc r.paired (r.valued ++ r.split) (h.head ∷ []) ∙ ap (λ z. r.paired ++ z) (append_assoc r.valued r.split (h.head ∷ [])));
          pure1 = pushed now_of r.split h.head _ _ _ _ (st.takes new_pure 1) (st.gives new_pure 1) (ap (λ z. at_port z 2) gave ∙ ap one is_now) r.pure1;
          pair1 = keep _ _ _ (st.takes new_pair 1) (st.gives new_pair 1) ∙ r.pair1;
          retag2 = keep _ _ _ (st.takes retag 2) (st.gives retag 2) ∙ r.retag2;
          branch1 = keep _ _ _ (st.takes new_branch 1) (st.gives new_branch 1) ∙ r.branch1;
          branch2 = keep _ _ _ (st.takes new_branch 2) (st.gives new_branch 2) ∙ r.branch2;
          tagger2 = keep _ _ _ (st.takes tagger 2) (st.gives tagger 2) ∙ r.tagger2;
          entering_run = r.entering_run;
          returning_run = r.returning_run;
          line_run = subst (AllByRecursion (Runs f d r.first)) (sym same) r.line_run;
          leaving_end = r.leaving_end;
          counts = λ t. ap (λ z. count t r.leaving + count t r.entering + count t r.returning + count t z) same ∙ r.counts t ∙ ap (open_count t) (sym slots);
          results = subst (AllByRecursion (HasResult f d r.first)) (sym slots) r.results;
          once = λ t. subst (λ z. tag_count t z ≤ 1) (sym slots) (r.once t);
          below = subst (AllByRecursion (λ x. x.tag < n)) (sym slots) r.below;
        };
        queue = (λ j. map (λ x. r.first x.tag) (slots j) ++ keep _ _ _ (st.takes tagger 1) (st.gives tagger 1) j);
        out = keep _ _ _ (st.takes new_exit 1) (st.gives new_exit 1);
      }

  pure_fires : (s u : Held TaggedNode) (k : ℕ) (st : PlanStep new s new_pure (Fire k) u) (r : Ring f d n s) → Stays s u r
  pure_fires s u k st r =
      let slots : u.slots tagger ≡ s.slots tagger = st.others tagger refl in
      let (v, z, et, eg, en) = st.acts in
      let h : Uncons now_of r.split v (st.between new_pure 1) = uncons now_of r.split v (st.between new_pure 1) (sym r.pure1 ∙ st.takes new_pure 1 ∙ ap (λ z. at_port z 1 ++ st.between new_pure 1) et) in
      let same_tail : (r.valued ++ h.head ∷ []) ++ h.tail ≡ r.valued ++ r.split = append_assoc r.valued (h.head ∷ []) h.tail ∙ ap (λ z. r.valued ++ z) (sym h.is) in
      let same : line r.joined r.paired (r.valued ++ h.head ∷ []) h.tail r.merged ≡ line r.joined r.paired r.valued r.split r.merged = ap (λ z. r.joined ++ (r.paired ++ z)) (sym (append_assoc (r.valued ++ h.head ∷ []) h.tail r.merged) ∙ ap (λ z. z ++ r.merged) same_tail ∙ append_assoc r.valued r.split r.merged) in
      record {
        ring = record {
          first = r.first;
          entering = r.entering;
          returning = r.returning;
          merged = r.merged;
          split = h.tail;
          valued = r.valued ++ h.head ∷ [];
          paired = r.paired;
          joined = r.joined;
          leaving = r.leaving;
          merge1 = keep _ _ _ (st.takes merge 1) (st.gives merge 1) ∙ r.merge1;
          merge2 = keep _ _ _ (st.takes merge 2) (st.gives merge 2) ∙ r.merge2;
          tag1 = keep _ _ _ (st.takes tag 1) (st.gives tag 1) ∙ r.tag1;
          retag1 = keep _ _ _ (st.takes retag 1) (st.gives retag 1) ∙ r.retag1 ∙ ap (λ z. map tag_of (r.paired ++ z)) (sym same_tail);
          pure1 = st.gives new_pure 1 ∙ append-nil _ ∙ sym h.rest;
          pair1 = pushed (value_of f) r.valued h.head _ _ _ _ (st.takes new_pair 1) (st.gives new_pair 1) (ap (λ z. at_port z 1) eg ∙ ap (λ x. one (fun_value f x)) (sym h.value)) r.pair1;
          retag2 = keep _ _ _ (st.takes retag 2) (st.gives retag 2) ∙ r.retag2;
          branch1 = keep _ _ _ (st.takes new_branch 1) (st.gives new_branch 1) ∙ r.branch1;
          branch2 = keep _ _ _ (st.takes new_branch 2) (st.gives new_branch 2) ∙ r.branch2;
          tagger2 = keep _ _ _ (st.takes tagger 2) (st.gives tagger 2) ∙ r.tagger2;
          entering_run = r.entering_run;
          returning_run = r.returning_run;
          line_run = subst (AllByRecursion (Runs f d r.first)) (sym same) r.line_run;
          leaving_end = r.leaving_end;
          counts = λ t. ap (λ z. count t r.leaving + count t r.entering + count t r.returning + count t z) same ∙ r.counts t ∙ ap (open_count t) (sym slots);
          results = subst (AllByRecursion (HasResult f d r.first)) (sym slots) r.results;
          once = λ t. subst (λ z. tag_count t z ≤ 1) (sym slots) (r.once t);
          below = subst (AllByRecursion (λ x. x.tag < n)) (sym slots) r.below;
        };
        queue = (λ j. map (λ x. r.first x.tag) (slots j) ++ keep _ _ _ (st.takes tagger 1) (st.gives tagger 1) j);
        out = keep _ _ _ (st.takes new_exit 1) (st.gives new_exit 1);
      }

  pair_fires : (s u : Held TaggedNode) (k : ℕ) (st : PlanStep new s new_pair (Fire k) u) (r : Ring f d n s) → Stays s u r
  pair_fires s u k st r =
      let slots : u.slots tagger ≡ s.slots tagger = st.others tagger refl in
      let (vs, z, each, et, eg, en) = st.acts in
      let two = two_of a (1 ∷ []) vs each in
      let (c, is_c) = one_of 1 two.right two.right_fits in
      let token : concat vs ≡ two.left ++ c ∷ [] = ap concat two.is ∙ ap (λ z. two.left ++ (z ++ [])) is_c in
      let h : Uncons (value_of f) r.valued (two.left ++ c ∷ []) (st.between new_pair 1) = uncons (value_of f) r.valued (two.left ++ c ∷ []) (st.between new_pair 1) (sym r.pair1 ∙ st.takes new_pair 1 ∙ ap (λ z. at_port z 1 ++ st.between new_pair 1) et ∙ ap (λ z. z ∷ st.between new_pair 1) token) in
      let is_next : two.left ≡ next f h.head.now = sym (ap all_but_last h.value ∙ next_more two.left c) in
      let is_bit : c ≡ condition f h.head.now = sym (ap last_number h.value ∙ bit_more two.left c) in
      let gave : st.given ≡ one two.left ∷ one two.right ∷ [] = eg ∙ ap (map one) two.is in
      let same_tail : (r.paired ++ h.head ∷ []) ++ (h.tail ++ r.split) ≡ r.paired ++ (r.valued ++ r.split) = append_assoc r.paired (h.head ∷ []) (h.tail ++ r.split) ∙ ap (λ z. r.paired ++ (z ++ r.split)) (sym h.is) in
      let same : line r.joined (r.paired ++ h.head ∷ []) h.tail r.split r.merged ≡ line r.joined r.paired r.valued r.split r.merged = ap (λ z. r.joined ++ z) (append_assoc r.paired (h.head ∷ []) (h.tail ++ (r.split ++ r.merged)) ∙ ap (λ z. r.paired ++ (z ++ (r.split ++ r.merged))) (sym h.is)) in
      record {
        ring = record {
          first = r.first;
          entering = r.entering;
          returning = r.returning;
          merged = r.merged;
          split = r.split;
          valued = h.tail;
          paired = r.paired ++ h.head ∷ [];
          joined = r.joined;
          leaving = r.leaving;
          merge1 = keep _ _ _ (st.takes merge 1) (st.gives merge 1) ∙ r.merge1;
          merge2 = keep _ _ _ (st.takes merge 2) (st.gives merge 2) ∙ r.merge2;
          tag1 = keep _ _ _ (st.takes tag 1) (st.gives tag 1) ∙ r.tag1;
          retag1 = keep _ _ _ (st.takes retag 1) (st.gives retag 1) ∙ r.retag1 ∙ ap (map tag_of) (sym same_tail);
          pure1 = keep _ _ _ (st.takes new_pure 1) (st.gives new_pure 1) ∙ r.pure1;
          pair1 = st.gives new_pair 1 ∙ append-nil _ ∙ sym h.rest;
          retag2 = pushed (next_now f) r.paired h.head _ _ _ _ (st.takes retag 2) (st.gives retag 2) (ap (λ z. at_port z 1) gave ∙ ap one is_next) r.retag2;
          branch1 = keep _ _ _ (st.takes new_branch 1) (st.gives new_branch 1) ∙ r.branch1;
          branch2 = pushed (again_of f) (r.joined ++ r.paired) h.head _ _ _ _ (st.takes new_branch 2) (st.gives new_branch 2) (ap (λ z. at_port z 2) gave ∙ ap one (is_c ∙ ap (λ z. z ∷ []) is_bit)) r.branch2 ∙ ap (map (again_of f)) (append_assoc r.joined r.paired (h.head ∷ []));
          tagger2 = keep _ _ _ (st.takes tagger 2) (st.gives tagger 2) ∙ r.tagger2;
          entering_run = r.entering_run;
          returning_run = r.returning_run;
          line_run = subst (AllByRecursion (Runs f d r.first)) (sym same) r.line_run;
          leaving_end = r.leaving_end;
          counts = λ t. ap (λ z. count t r.leaving + count t r.entering + count t r.returning + count t z) same ∙ r.counts t ∙ ap (open_count t) (sym slots);
          results = subst (AllByRecursion (HasResult f d r.first)) (sym slots) r.results;
          once = λ t. subst (λ z. tag_count t z ≤ 1) (sym slots) (r.once t);
          below = subst (AllByRecursion (λ x. x.tag < n)) (sym slots) r.below;
        };
        queue = (λ j. map (λ x. r.first x.tag) (slots j) ++ keep _ _ _ (st.takes tagger 1) (st.gives tagger 1) j);
        out = keep _ _ _ (st.takes new_exit 1) (st.gives new_exit 1);
      }

  retag_fires : (s u : Held TaggedNode) (k : ℕ) (st : PlanStep new s retag (Fire k) u) (r : Ring f d n s) → Stays s u r
  retag_fires s u k st r =
      let slots : u.slots tagger ≡ s.slots tagger = st.others tagger refl in
      let (vs, z, long, et, eg, en) = st.acts in
      let (x, y, is_vs) = two_long vs long in
      let took : st.taken ≡ one x ∷ one y ∷ [] = et ∙ ap (map one) is_vs in
      let h : Uncons (next_now f) r.paired y (st.between retag 2) = uncons (next_now f) r.paired y (st.between retag 2) (sym r.retag2 ∙ st.takes retag 2 ∙ ap (λ z. at_port z 2 ++ st.between retag 2) took) in
      let tags : tag_of h.head ∷ map tag_of (h.tail ++ (r.valued ++ r.split)) ≡ x ∷ st.between retag 1 = ap (λ z. map tag_of (z ++ (r.valued ++ r.split))) (sym h.is) ∙ sym r.retag1 ∙ st.takes retag 1 ∙ ap (λ z. at_port z 1 ++ st.between retag 1) took in
      let is_tag : x ≡ tag_of h.head = cc in
      let tags_left : st.between retag 1 ≡ map tag_of (h.tail ++ (r.valued ++ r.split)) = cc in
      let token : concat vs ≡ next_whole f h.head = ap concat is_vs ∙ (λ j. is_tag j ++ append-nil y j) ∙ ap (λ z. h.head.tag ∷ z) (sym h.value) in
      let same_two : (r.joined ++ h.head ∷ []) ++ h.tail ≡ r.joined ++ r.paired = append_assoc r.joined (h.head ∷ []) h.tail ∙ ap (λ z. r.joined ++ z) (sym h.is) in
      let same : line (r.joined ++ h.head ∷ []) h.tail r.valued r.split r.merged ≡ line r.joined r.paired r.valued r.split r.merged = append_assoc r.joined (h.head ∷ []) (h.tail ++ (r.valued ++ (r.split ++ r.merged))) ∙ ap (λ z. r.joined ++ (z ++ (r.valued ++ (r.split ++ r.merged)))) (sym h.is) in
      record {
        ring = record {
          first = r.first;
          entering = r.entering;
          returning = r.returning;
          merged = r.merged;
          split = r.split;
          valued = r.valued;
          paired = h.tail;
          joined = r.joined ++ h.head ∷ [];
          leaving = r.leaving;
          merge1 = keep _ _ _ (st.takes merge 1) (st.gives merge 1) ∙ r.merge1;
          merge2 = keep _ _ _ (st.takes merge 2) (st.gives merge 2) ∙ r.merge2;
          tag1 = keep _ _ _ (st.takes tag 1) (st.gives tag 1) ∙ r.tag1;
          retag1 = st.gives retag 1 ∙ append-nil _ ∙ tags_left;
          pure1 = keep _ _ _ (st.takes new_pure 1) (st.gives new_pure 1) ∙ r.pure1;
          pair1 = keep _ _ _ (st.takes new_pair 1) (st.gives new_pair 1) ∙ r.pair1;
          retag2 = st.gives retag 2 ∙ append-nil _ ∙ sym h.rest;
          branch1 = pushed (next_whole f) r.joined h.head _ _ _ _ (st.takes new_branch 1) (st.gives new_branch 1) (ap (λ z. at_port z 1) eg ∙ ap one token) r.branch1;
          branch2 = keep _ _ _ (st.takes new_branch 2) (st.gives new_branch 2) ∙ r.branch2 ∙ ap (map (again_of f)) (sym same_two);
          tagger2 = keep _ _ _ (st.takes tagger 2) (st.gives tagger 2) ∙ r.tagger2;
          entering_run = r.entering_run;
          returning_run = r.returning_run;
          line_run = subst (AllByRecursion (Runs f d r.first)) (sym same) r.line_run;
          leaving_end = r.leaving_end;
          counts = λ t. ap (λ z. count t r.leaving + count t r.entering + count t r.returning + count t z) same ∙ r.counts t ∙ ap (open_count t) (sym slots);
          results = subst (AllByRecursion (HasResult f d r.first)) (sym slots) r.results;
          once = λ t. subst (λ z. tag_count t z ≤ 1) (sym slots) (r.once t);
          below = subst (AllByRecursion (λ x. x.tag < n)) (sym slots) r.below;
        };
        queue = (λ j. map (λ x. r.first x.tag) (slots j) ++ keep _ _ _ (st.takes tagger 1) (st.gives tagger 1) j);
        out = keep _ _ _ (st.takes new_exit 1) (st.gives new_exit 1);
      }

  branch_back : (s u : Held TaggedNode) (k : ℕ) (st : PlanStep new s new_branch (Fire k) u) (r : Ring f d n s) (v : Token) → st.taken ≡ one v ∷ one (back_bit d ∷ []) ∷ [] → at_port st.given (back_out d) ≡ one v → at_port st.given (exit_out d) ≡ [] → Stays s u r
  branch_back s u k st r v et eg eo =
      let slots : u.slots tagger ≡ s.slots tagger = st.others tagger refl in
      let h : Uncons (next_whole f) r.joined v (st.between new_branch 1) = uncons (next_whole f) r.joined v (st.between new_branch 1) (sym r.branch1 ∙ st.takes new_branch 1 ∙ ap (λ z. at_port z 1 ++ st.between new_branch 1) et) in
      let bits : again_of f h.head ∷ map (again_of f) (h.tail ++ r.paired) ≡ (back_bit d ∷ []) ∷ st.between new_branch 2 = ap (λ z. map (again_of f) (z ++ r.paired)) (sym h.is) ∙ sym r.branch2 ∙ st.takes new_branch 2 ∙ ap (λ z. at_port z 2 ++ st.between new_branch 2) et in
      let is_bit : condition f h.head.now ≡ back_bit d = cc in
      let bits_left : st.between new_branch 2 ≡ map (again_of f) (h.tail ++ r.paired) = cc in
      let i : Item = record { tag = h.head.tag; now = next f h.head.now } in
      let same : line r.joined r.paired r.valued r.split r.merged ≡ h.head ∷ line h.tail r.paired r.valued r.split r.merged = ap (λ z. z ++ (r.paired ++ (r.valued ++ (r.split ++ r.merged)))) h.is in
      let ran : AllByRecursion (Runs f d r.first) (h.head ∷ line h.tail r.paired r.valued r.split r.merged) = subst (AllByRecursion (Runs f d r.first)) same r.line_run in
      record {
        ring = record {
          first = r.first;
          entering = r.entering;
          returning = r.returning ++ i ∷ [];
          merged = r.merged;
          split = r.split;
          valued = r.valued;
          paired = r.paired;
          joined = h.tail;
          leaving = r.leaving;
          merge1 = keep _ _ _ (st.takes merge 1) (st.gives merge 1) ∙ r.merge1;
          merge2 = pushed whole r.returning i _ _ _ _ (st.takes merge 2) (st.gives merge 2) (eg ∙ ap one (sym h.value)) r.merge2;
          tag1 = keep _ _ _ (st.takes tag 1) (st.gives tag 1) ∙ r.tag1;
          retag1 = keep _ _ _ (st.takes retag 1) (st.gives retag 1) ∙ r.retag1;
          pure1 = keep _ _ _ (st.takes new_pure 1) (st.gives new_pure 1) ∙ r.pure1;
          pair1 = keep _ _ _ (st.takes new_pair 1) (st.gives new_pair 1) ∙ r.pair1;
          retag2 = keep _ _ _ (st.takes retag 2) (st.gives retag 2) ∙ r.retag2;
          branch1 = st.gives new_branch 1 ∙ append-nil _ ∙ sym h.rest;
          branch2 = st.gives new_branch 2 ∙ append-nil _ ∙ bits_left;
          tagger2 = st.gives tagger 2 ∙ ap (λ z. st.between tagger 2 ++ z) eo ∙ append-nil _ ∙ sym (st.takes tagger 2) ∙ r.tagger2;
          entering_run = r.entering_run;
          returning_run = each_append (Runs f d r.first) r.returning (i ∷ []) r.returning_run ((λ y l. ran.0 y (turns is_bit l)), tt);
          line_run = ran.1;
          leaving_end = r.leaving_end;
          counts = λ t.
              let was : count t (line r.joined r.paired r.valued r.split r.merged) ≡ hit t h.head.tag + count t (line h.tail r.paired r.valued r.split r.merged) = ap (count t) same in
              let goes : count t (r.returning ++ i ∷ []) ≡ count t r.returning + (hit t h.head.tag + 0) = count_append t r.returning (i ∷ []) in
              let all = r.counts t in
              let these : open_count t (u.slots tagger) ≡ open_count t (s.slots tagger) = ap (open_count t) slots in
              omega (arith, was, goes, all, these);
          results = subst (AllByRecursion (HasResult f d r.first)) (sym slots) r.results;
          once = λ t. subst (λ z. tag_count t z ≤ 1) (sym slots) (r.once t);
          below = subst (AllByRecursion (λ x. x.tag < n)) (sym slots) r.below;
        };
        queue = (λ j. map (λ x. r.first x.tag) (slots j) ++ keep _ _ _ (st.takes tagger 1) (st.gives tagger 1) j);
        out = keep _ _ _ (st.takes new_exit 1) (st.gives new_exit 1);
      }

  branch_exit : (s u : Held TaggedNode) (k : ℕ) (st : PlanStep new s new_branch (Fire k) u) (r : Ring f d n s) (v : Token) → st.taken ≡ one v ∷ one (exit_bit d ∷ []) ∷ [] → at_port st.given (exit_out d) ≡ one v → at_port st.given (back_out d) ≡ [] → Stays s u r
  branch_exit s u k st r v et eg eo =
      let slots : u.slots tagger ≡ s.slots tagger = st.others tagger refl in
      let h : Uncons (next_whole f) r.joined v (st.between new_branch 1) = uncons (next_whole f) r.joined v (st.between new_branch 1) (sym r.branch1 ∙ st.takes new_branch 1 ∙ ap (λ z. at_port z 1 ++ st.between new_branch 1) et) in
      let bits : again_of f h.head ∷ map (again_of f) (h.tail ++ r.paired) ≡ (exit_bit d ∷ []) ∷ st.between new_branch 2 = ap (λ z. map (again_of f) (z ++ r.paired)) (sym h.is) ∙ sym r.branch2 ∙ st.takes new_branch 2 ∙ ap (λ z. at_port z 2 ++ st.between new_branch 2) et in
      let is_bit : condition f h.head.now ≡ exit_bit d = cc in
      let bits_left : st.between new_branch 2 ≡ map (again_of f) (h.tail ++ r.paired) = cc in
      let i : Item = record { tag = h.head.tag; now = next f h.head.now } in
      let same : line r.joined r.paired r.valued r.split r.merged ≡ h.head ∷ line h.tail r.paired r.valued r.split r.merged = ap (λ z. z ++ (r.paired ++ (r.valued ++ (r.split ++ r.merged)))) h.is in
      let ran : AllByRecursion (Runs f d r.first) (h.head ∷ line h.tail r.paired r.valued r.split r.merged) = subst (AllByRecursion (Runs f d r.first)) same r.line_run in
      record {
        ring = record {
          first = r.first;
          entering = r.entering;
          returning = r.returning;
          merged = r.merged;
          split = r.split;
          valued = r.valued;
          paired = r.paired;
          joined = h.tail;
          leaving = r.leaving ++ i ∷ [];
          merge1 = keep _ _ _ (st.takes merge 1) (st.gives merge 1) ∙ r.merge1;
          merge2 = st.gives merge 2 ∙ ap (λ z. st.between merge 2 ++ z) eo ∙ append-nil _ ∙ sym (st.takes merge 2) ∙ r.merge2;
          tag1 = keep _ _ _ (st.takes tag 1) (st.gives tag 1) ∙ r.tag1;
          retag1 = keep _ _ _ (st.takes retag 1) (st.gives retag 1) ∙ r.retag1;
          pure1 = keep _ _ _ (st.takes new_pure 1) (st.gives new_pure 1) ∙ r.pure1;
          pair1 = keep _ _ _ (st.takes new_pair 1) (st.gives new_pair 1) ∙ r.pair1;
          retag2 = keep _ _ _ (st.takes retag 2) (st.gives retag 2) ∙ r.retag2;
          branch1 = st.gives new_branch 1 ∙ append-nil _ ∙ sym h.rest;
          branch2 = st.gives new_branch 2 ∙ append-nil _ ∙ bits_left;
          tagger2 = pushed whole r.leaving i _ _ _ _ (st.takes tagger 2) (st.gives tagger 2) (eg ∙ ap one (sym h.value)) r.tagger2;
          entering_run = r.entering_run;
          returning_run = r.returning_run;
          line_run = ran.1;
          leaving_end = each_append (Ended f d r.first) r.leaving (i ∷ []) r.leaving_end (ran.0 (next f h.head.now) (ends is_bit refl), tt);
          counts = λ t.
              let was : count t (line r.joined r.paired r.valued r.split r.merged) ≡ hit t h.head.tag + count t (line h.tail r.paired r.valued r.split r.merged) = ap (count t) same in
              let goes : count t (r.leaving ++ i ∷ []) ≡ count t r.leaving + (hit t h.head.tag + 0) = count_append t r.leaving (i ∷ []) in
              let all = r.counts t in
              let these : open_count t (u.slots tagger) ≡ open_count t (s.slots tagger) = ap (open_count t) slots in
              omega (arith, was, goes, all, these);
          results = subst (AllByRecursion (HasResult f d r.first)) (sym slots) r.results;
          once = λ t. subst (λ z. tag_count t z ≤ 1) (sym slots) (r.once t);
          below = subst (AllByRecursion (λ x. x.tag < n)) (sym slots) r.below;
        };
        queue = (λ j. map (λ x. r.first x.tag) (slots j) ++ keep _ _ _ (st.takes tagger 1) (st.gives tagger 1) j);
        out = keep _ _ _ (st.takes new_exit 1) (st.gives new_exit 1);
      }

  -- which way the Branch goes
  branch_way : (e : Bool) (v : Token) (took gave : List (List Token)) → ((took ≡ one v ∷ one (1 ∷ []) ∷ []) × (gave ≡ one v ∷ [])) ⊎ ((took ≡ one v ∷ one (0 ∷ []) ∷ []) × (gave ≡ [] ∷ one v ∷ [])) → ((took ≡ one v ∷ one (back_bit e ∷ []) ∷ []) × (at_port gave (back_out e) ≡ one v) × (at_port gave (exit_out e) ≡ [])) ⊎ ((took ≡ one v ∷ one (exit_bit e ∷ []) ∷ []) × (at_port gave (exit_out e) ≡ one v) × (at_port gave (back_out e) ≡ []))
  branch_way true v took gave (inl h) = inl (h.0, ap (λ z. at_port z 1) h.1, ap (λ z. at_port z 2) h.1)
  branch_way true v took gave (inr h) = inr (h.0, ap (λ z. at_port z 2) h.1, ap (λ z. at_port z 1) h.1)
  branch_way false v took gave (inl h) = inr (h.0, ap (λ z. at_port z 1) h.1, ap (λ z. at_port z 2) h.1)
  branch_way false v took gave (inr h) = inl (h.0, ap (λ z. at_port z 2) h.1, ap (λ z. at_port z 1) h.1)

  branch_fires : (s u : Held TaggedNode) (k : ℕ) → PlanStep new s new_branch (Fire k) u → (r : Ring f d n s) → Stays s u r
  branch_fires s u k st r =
      let (v, z, way, en) = st.acts in
      elim (branch_way d v st.taken st.given way) [
        | inl h ↦ branch_back s u k st r v h.0 h.1 h.2
        | inr h ↦ branch_exit s u k st r v h.0 h.1 h.2
      ]

  -- a step that gives the result of the oldest slot
  pub record Gives (s u : Held TaggedNode) (r : Ring f d n s) : Type 0 where
    pub ring : Ring f d n u
    pub begun : Token
    pub ended : Token
    pub loops : Loops f d ended begun
    pub queue : queue_of s r ≡ begun ∷ queue_of u ring
    pub out : u.wires new_exit 1 ≡ s.wires new_exit 1 ++ one ended

  tagger_gives : (s u : Held TaggedNode) (k : ℕ) (st : PlanStep new s tagger (Fire k) u) (r : Ring f d n s) (t : ℕ) (v : Token) → s.slots tagger ≡ record { tag = t; result = Some v } ∷ u.slots tagger → st.taken ≡ [] → st.given ≡ [] ∷ one v ∷ [] → Gives s u r
  tagger_gives s u k st r t v eo et eg =
      let results : AllByRecursion (HasResult f d r.first) (record { tag = t; result = Some v } ∷ u.slots tagger) = subst (AllByRecursion (HasResult f d r.first)) eo r.results in
      let below : AllByRecursion (λ (x : Slot). x.tag < n) (record { tag = t; result = Some v } ∷ u.slots tagger) = subst (AllByRecursion (λ x. x.tag < n)) eo r.below in
      let waits : u.wires tagger 1 ≡ s.wires tagger 1 = st.gives tagger 1 ∙ append-nil _ ∙ sym (st.takes tagger 1 ∙ ap (λ z. at_port z 1 ++ st.between tagger 1) et) in
      record {
        ring = record {
          first = r.first;
          entering = r.entering;
          returning = r.returning;
          merged = r.merged;
          split = r.split;
          valued = r.valued;
          paired = r.paired;
          joined = r.joined;
          leaving = r.leaving;
          merge1 = st.gives merge 1 ∙ ap (λ z. st.between merge 1 ++ at_port z 1) eg ∙ append-nil _ ∙ sym (st.takes merge 1) ∙ r.merge1;
          merge2 = keep _ _ _ (st.takes merge 2) (st.gives merge 2) ∙ r.merge2;
          tag1 = keep _ _ _ (st.takes tag 1) (st.gives tag 1) ∙ r.tag1;
          retag1 = keep _ _ _ (st.takes retag 1) (st.gives retag 1) ∙ r.retag1;
          pure1 = keep _ _ _ (st.takes new_pure 1) (st.gives new_pure 1) ∙ r.pure1;
          pair1 = keep _ _ _ (st.takes new_pair 1) (st.gives new_pair 1) ∙ r.pair1;
          retag2 = keep _ _ _ (st.takes retag 2) (st.gives retag 2) ∙ r.retag2;
          branch1 = keep _ _ _ (st.takes new_branch 1) (st.gives new_branch 1) ∙ r.branch1;
          branch2 = keep _ _ _ (st.takes new_branch 2) (st.gives new_branch 2) ∙ r.branch2;
          tagger2 = st.gives tagger 2 ∙ append-nil _ ∙ sym (st.takes tagger 2 ∙ ap (λ z. at_port z 2 ++ st.between tagger 2) et) ∙ r.tagger2;
          entering_run = r.entering_run;
          returning_run = r.returning_run;
          line_run = r.line_run;
          leaving_end = r.leaving_end;
          counts = λ q.
              let all = r.counts q in
              let these : open_count q (s.slots tagger) ≡ 0 + open_count q (u.slots tagger) = ap (open_count q) eo in
              omega (arith, all, these);
          results = results.1;
          once = λ q.
              let was = r.once q in
              let these : tag_count q (s.slots tagger) ≡ hit q t + tag_count q (u.slots tagger) = ap (tag_count q) eo in
              omega (arith, was, these);
          below = below.1;
        };
        begun = r.first t;
        ended = v;
        loops = results.0;
        queue = (λ j. map (λ x. r.first x.tag) (eo j) ++ sym waits j);
        out = st.gives new_exit 1 ∙ ap (λ z. st.between new_exit 1 ++ at_port z 2) eg ∙ ap (λ z. z ++ one v) (sym (st.takes new_exit 1));
      }

  -- a result changes free tag
  same_firsts : (first : ℕ → Token) (t : ℕ) (v : Token) (before after : List Slot) → map (λ (x : Slot). first x.tag) (before ++ record { tag = t; result = Some v } ∷ after) ≡ map (λ (x : Slot). first x.tag) (before ++ record { tag = t; result = None } ∷ after)
  same_firsts first t v [] after = refl
  same_firsts first t v (x ∷ before) after = ap (λ z. first x.tag ∷ z) (same_firsts first t v before after)

  tagger_keeps : (s u : Held TaggedNode) (k : ℕ) (st : PlanStep new s tagger (Fire k) u) (r : Ring f d n s) (t : ℕ) (v : Token) (before after : List Slot) → s.slots tagger ≡ before ++ record { tag = t; result = None } ∷ after → u.slots tagger ≡ before ++ record { tag = t; result = Some v } ∷ after → st.taken ≡ [] ∷ one (t ∷ v) ∷ [] → st.given ≡ [] → Stays s u r
  tagger_keeps s u k st r t v before after eo en et eg =
      let h : Uncons whole r.leaving (t ∷ v) (st.between tagger 2) = uncons whole r.leaving (t ∷ v) (st.between tagger 2) (sym r.tagger2 ∙ st.takes tagger 2 ∙ ap (λ z. at_port z 2 ++ st.between tagger 2) et) in
      let is_tag : h.head.tag ≡ t = let k2 : h.head.tag ∷ h.head.now ≡ t ∷ v = h.value in cc in
      let is_now : h.head.now ≡ v = let k2 : h.head.tag ∷ h.head.now ≡ t ∷ v = h.value in cc in
      let ended : AllByRecursion (Ended f d r.first) (h.head ∷ h.tail) = subst (AllByRecursion (Ended f d r.first)) h.is r.leaving_end in
      let this : Loops f d v (r.first t) = subst (λ y. Loops f d y (r.first t)) is_now (subst (λ q. Loops f d h.head.now (r.first q)) is_tag ended.0) in
      let results : AllByRecursion (HasResult f d r.first) (before ++ record { tag = t; result = None } ∷ after) = subst (AllByRecursion (HasResult f d r.first)) eo r.results in
      let right : AllByRecursion (HasResult f d r.first) (record { tag = t; result = None } ∷ after) = each_right (HasResult f d r.first) before _ results in
      let below : AllByRecursion (λ (x : Slot). x.tag < n) (before ++ record { tag = t; result = None } ∷ after) = subst (AllByRecursion (λ x. x.tag < n)) eo r.below in
      let below_right : AllByRecursion (λ (x : Slot). x.tag < n) (record { tag = t; result = None } ∷ after) = each_right (λ (x : Slot). x.tag < n) before _ below in
      let waits : u.wires tagger 1 ≡ s.wires tagger 1 = st.gives tagger 1 ∙ append-nil _ ∙ sym (st.takes tagger 1 ∙ ap (λ z. at_port z 1 ++ st.between tagger 1) et) in
      record {
        ring = record {
          first = r.first;
          entering = r.entering;
          returning = r.returning;
          merged = r.merged;
          split = r.split;
          valued = r.valued;
          paired = r.paired;
          joined = r.joined;
          leaving = h.tail;
          merge1 = st.gives merge 1 ∙ ap (λ z. st.between merge 1 ++ at_port z 1) eg ∙ append-nil _ ∙ sym (st.takes merge 1) ∙ r.merge1;
          merge2 = keep _ _ _ (st.takes merge 2) (st.gives merge 2) ∙ r.merge2;
          tag1 = keep _ _ _ (st.takes tag 1) (st.gives tag 1) ∙ r.tag1;
          retag1 = keep _ _ _ (st.takes retag 1) (st.gives retag 1) ∙ r.retag1;
          pure1 = keep _ _ _ (st.takes new_pure 1) (st.gives new_pure 1) ∙ r.pure1;
          pair1 = keep _ _ _ (st.takes new_pair 1) (st.gives new_pair 1) ∙ r.pair1;
          retag2 = keep _ _ _ (st.takes retag 2) (st.gives retag 2) ∙ r.retag2;
          branch1 = keep _ _ _ (st.takes new_branch 1) (st.gives new_branch 1) ∙ r.branch1;
          branch2 = keep _ _ _ (st.takes new_branch 2) (st.gives new_branch 2) ∙ r.branch2;
          tagger2 = st.gives tagger 2 ∙ append-nil _ ∙ sym h.rest;
          entering_run = r.entering_run;
          returning_run = r.returning_run;
          line_run = r.line_run;
          leaving_end = ended.1;
          counts = λ q.
              let all = r.counts q in
              let was : count q r.leaving ≡ hit q t + count q h.tail = ap (count q) h.is ∙ ap (λ z. hit q z + count q h.tail) is_tag in
              let these : open_count q (s.slots tagger) ≡ open_count q before + (hit q t + open_count q after) = ap (open_count q) eo ∙ open_append q before (record { tag = t; result = None } ∷ after) in
              let those : open_count q (u.slots tagger) ≡ open_count q before + (0 + open_count q after) = ap (open_count q) en ∙ open_append q before (record { tag = t; result = Some v } ∷ after) in
              omega (arith, all, was, these, those);
          results = subst (AllByRecursion (HasResult f d r.first)) (sym en) (each_append (HasResult f d r.first) before _ (each_left (HasResult f d r.first) before _ results) (this, right.1));
          once = λ q.
              let was = r.once q in
              let these : tag_count q (s.slots tagger) ≡ tag_count q before + (hit q t + tag_count q after) = ap (tag_count q) eo ∙ tag_append q before (record { tag = t; result = None } ∷ after) in
              let those : tag_count q (u.slots tagger) ≡ tag_count q before + (hit q t + tag_count q after) = ap (tag_count q) en ∙ tag_append q before (record { tag = t; result = Some v } ∷ after) in
              omega (arith, was, these, those);
          below = subst (AllByRecursion (λ x. x.tag < n)) (sym en) (each_append (λ (x : Slot). x.tag < n) before _ (each_left (λ (x : Slot). x.tag < n) before _ below) (below_right.0, below_right.1));
        };
        queue = (λ j. (ap (map (λ x. r.first x.tag)) en ∙ same_firsts r.first t v before after ∙ ap (map (λ x. r.first x.tag)) (sym eo)) j ++ waits j);
        out = st.gives new_exit 1 ∙ ap (λ z. st.between new_exit 1 ++ at_port z 2) eg ∙ append-nil _ ∙ sym (st.takes new_exit 1);
      }

  -- a tag that no slot has begins anew with v
  abbrev begin : (ℕ → Token) → ℕ → Token → ℕ → Token
  begin first t v q = if nat_eq q t then v else first q

  begin_self : (first : ℕ → Token) (t : ℕ) (v : Token) → begin first t v t ≡ v
  begin_self first t v = ap (λ b. if b then v else first t) (eq-eqb t t refl)

  begin_other_at : (first : ℕ → Token) (t : ℕ) (v : Token) (q : ℕ) (b : Bool) → nat_eq q t ≡ b → q ≢ t → (if b then v else first q) ≡ first q
  begin_other_at first t v q true e ne = absurd (ne (eqb-true q t e))
  begin_other_at first t v q false e ne = refl

  begin_other : (first : ℕ → Token) (t : ℕ) (v : Token) (q : ℕ) → q ≢ t → begin first t v q ≡ first q
  begin_other first t v q ne = begin_other_at first t v q (nat_eq q t) refl ne

  runs_other : (first : ℕ → Token) (t : ℕ) (v : Token) (xs : List Item) → count t xs ≡ 0 → AllByRecursion (Runs f d first) xs → AllByRecursion (Runs f d (begin first t v)) xs
  runs_other first t v xs e h =
      each_map (λ i. Runs f d first i × (i.tag ≢ t)) (Runs f d (begin first t v)) (λ i k y l. subst (Loops f d y) (sym (begin_other first t v i.tag k.1)) (k.0 y l)) xs
      (each_other t (Runs f d first) xs e h)

  ended_other : (first : ℕ → Token) (t : ℕ) (v : Token) (xs : List Item) → count t xs ≡ 0 → AllByRecursion (Ended f d first) xs → AllByRecursion (Ended f d (begin first t v)) xs
  ended_other first t v xs e h =
      each_map (λ i. Ended f d first i × (i.tag ≢ t)) (Ended f d (begin first t v)) (λ i k. subst (Loops f d i.now) (sym (begin_other first t v i.tag k.1)) k.0) xs
      (each_other t (Ended f d first) xs e h)

  results_other : (first : ℕ → Token) (t : ℕ) (v : Token) (xs : List Slot) → HasNoTag t xs → AllByRecursion (HasResult f d first) xs → AllByRecursion (HasResult f d (begin first t v)) xs
  results_other first t v [] free h = tt
  results_other first t v (x ∷ xs) free h =
      (subst (λ z. IfSome x.result (λ y. Loops f d y z)) (sym (begin_other first t v x.tag free.0)) h.0, results_other first t v xs free.1 h.1)

  firsts_other : (first : ℕ → Token) (t : ℕ) (v : Token) (xs : List Slot) → HasNoTag t xs → map (λ (x : Slot). begin first t v x.tag) xs ≡ map (λ (x : Slot). first x.tag) xs
  firsts_other first t v [] free = refl
  firsts_other first t v (x ∷ xs) free = λ j. begin_other first t v x.tag free.0 j ∷ firsts_other first t v xs free.1 j

  once_more : (t q : ℕ) (xs : List Slot) → HasNoTag t xs → tag_count q xs ≤ 1 → tag_count q xs + (hit q t + 0) ≤ 1
  once_more t q xs free h =
      elim (eqb_tells q t) [
        | inl e ↦
            let z : tag_count q xs ≡ 0 = ap (λ p. tag_count p xs) e.1 ∙ no_tag_count t xs free in
            let l : hit q t ≤ 1 = hit_le q t in
            omega (arith, z, l)
        | inr e ↦ let z : hit q t ≡ 0 = hit_other q t e.1 in omega (arith, z, h)
      ]

  tagger_takes : (s u : Held TaggedNode) (k : ℕ) (st : PlanStep new s tagger (Fire k) u) (r : Ring f d n s) (t : ℕ) (v : Token) → t < n → HasNoTag t (s.slots tagger) → u.slots tagger ≡ s.slots tagger ++ record { tag = t; result = None } ∷ [] → st.taken ≡ one v ∷ [] → st.given ≡ one (t ∷ v) ∷ [] → Stays s u r
  tagger_takes s u k st r t v lt free en et eg =
      let i : Item = record { tag = t; now = v } in
      let first : ℕ → Token = begin r.first t v in
      let all = r.counts t in
      let none : open_count t (s.slots tagger) ≤ tag_count t (s.slots tagger) = open_le t (s.slots tagger) in
      let zero_tags : tag_count t (s.slots tagger) ≡ 0 = no_tag_count t (s.slots tagger) free in
      let start : Runs f d (begin r.first t v) i = λ y l. subst (Loops f d y) (sym (begin_self r.first t v)) l in
      record {
        ring = record {
          first = begin r.first t v;
          entering = r.entering ++ i ∷ [];
          returning = r.returning;
          merged = r.merged;
          split = r.split;
          valued = r.valued;
          paired = r.paired;
          joined = r.joined;
          leaving = r.leaving;
          merge1 = pushed whole r.entering i _ _ _ _ (st.takes merge 1) (st.gives merge 1) (ap (λ z. at_port z 1) eg) r.merge1;
          merge2 = keep _ _ _ (st.takes merge 2) (st.gives merge 2) ∙ r.merge2;
          tag1 = keep _ _ _ (st.takes tag 1) (st.gives tag 1) ∙ r.tag1;
          retag1 = keep _ _ _ (st.takes retag 1) (st.gives retag 1) ∙ r.retag1;
          pure1 = keep _ _ _ (st.takes new_pure 1) (st.gives new_pure 1) ∙ r.pure1;
          pair1 = keep _ _ _ (st.takes new_pair 1) (st.gives new_pair 1) ∙ r.pair1;
          retag2 = keep _ _ _ (st.takes retag 2) (st.gives retag 2) ∙ r.retag2;
          branch1 = keep _ _ _ (st.takes new_branch 1) (st.gives new_branch 1) ∙ r.branch1;
          branch2 = keep _ _ _ (st.takes new_branch 2) (st.gives new_branch 2) ∙ r.branch2;
          tagger2 = st.gives tagger 2 ∙ append-nil _ ∙ sym (st.takes tagger 2 ∙ ap (λ z. at_port z 2 ++ st.between tagger 2) et) ∙ r.tagger2;
          entering_run = each_append (Runs f d (begin r.first t v)) r.entering (i ∷ []) (runs_other r.first t v r.entering (omega (arith, all, none, zero_tags)) r.entering_run) (start, tt);
          returning_run = runs_other r.first t v r.returning (omega (arith, all, none, zero_tags)) r.returning_run;
          line_run = runs_other r.first t v (line r.joined r.paired r.valued r.split r.merged) (omega (arith, all, none, zero_tags)) r.line_run;
          leaving_end = ended_other r.first t v r.leaving (omega (arith, all, none, zero_tags)) r.leaving_end;
          counts = λ q.
              let was = r.counts q in
              let goes : count q (r.entering ++ i ∷ []) ≡ count q r.entering + (hit q t + 0) = count_append q r.entering (i ∷ []) in
              let these : open_count q (u.slots tagger) ≡ open_count q (s.slots tagger) + (hit q t + 0) = ap (open_count q) en ∙ open_append q (s.slots tagger) (record { tag = t; result = None } ∷ []) in
              omega (arith, was, goes, these);
          results = subst (AllByRecursion (HasResult f d (begin r.first t v))) (sym en) (each_append (HasResult f d (begin r.first t v)) (s.slots tagger) _ (results_other r.first t v (s.slots tagger) free r.results) (tt, tt));
          once = λ q. subst (λ z. z ≤ 1) (sym (ap (tag_count q) en ∙ tag_append q (s.slots tagger) (record { tag = t; result = None } ∷ []))) (once_more t q (s.slots tagger) free (r.once q));
          below = subst (AllByRecursion (λ x. x.tag < n)) (sym en) (each_append (λ (x : Slot). x.tag < n) (s.slots tagger) _ r.below (lt, tt));
        };
        queue = (λ j. map (λ x. begin r.first t v x.tag) (en j) ++ u.wires tagger 1)
            ∙ ap (λ z. z ++ u.wires tagger 1) (map-append (λ (x : Slot). begin r.first t v x.tag) (s.slots tagger) (record { tag = t; result = None } ∷ []) ∙ (λ j. firsts_other r.first t v (s.slots tagger) free j ++ one (begin_self r.first t v j)))
            ∙ append_assoc (map (λ (x : Slot). r.first x.tag) (s.slots tagger)) (one v) (u.wires tagger 1)
            ∙ ap (λ z. map (λ (x : Slot). r.first x.tag) (s.slots tagger) ++ z) (ap (λ z. v ∷ z) (st.gives tagger 1 ∙ append-nil _) ∙ sym (st.takes tagger 1 ∙ ap (λ z. at_port z 1 ++ st.between tagger 1) et));
        out = st.gives new_exit 1 ∙ ap (λ z. st.between new_exit 1 ++ at_port z 2) eg ∙ append-nil _ ∙ sym (st.takes new_exit 1);
      }

  pub record Fed (s u : Held TaggedNode) (r : Ring f d n s) (v : Token) : Type 0 where
    pub ring : Ring f d n u
    pub fits : Fits a v
    pub queue : queue_of u ring ≡ queue_of s r ++ one v
    pub out : u.wires new_exit 1 ≡ s.wires new_exit 1

  pub enter_fed : (s u : Held TaggedNode) (v : Token) (st : PlanStep new s new_entry (Feed v) u) (r : Ring f d n s) → Fed s u r v
  enter_fed s u v st r =
      let slots : u.slots tagger ≡ s.slots tagger = st.others tagger refl in
      let (fit, et, eg, en) = st.acts in
      let more : u.wires tagger 1 ≡ s.wires tagger 1 ++ one v = st.gives tagger 1 ∙ ap (λ z. st.between tagger 1 ++ at_port z 1) eg ∙ ap (λ z. z ++ one v) (sym (st.takes tagger 1)) in
      record {
        ring = record {
          first = r.first;
          entering = r.entering;
          returning = r.returning;
          merged = r.merged;
          split = r.split;
          valued = r.valued;
          paired = r.paired;
          joined = r.joined;
          leaving = r.leaving;
          merge1 = keep _ _ _ (st.takes merge 1) (st.gives merge 1) ∙ r.merge1;
          merge2 = keep _ _ _ (st.takes merge 2) (st.gives merge 2) ∙ r.merge2;
          tag1 = keep _ _ _ (st.takes tag 1) (st.gives tag 1) ∙ r.tag1;
          retag1 = keep _ _ _ (st.takes retag 1) (st.gives retag 1) ∙ r.retag1;
          pure1 = keep _ _ _ (st.takes new_pure 1) (st.gives new_pure 1) ∙ r.pure1;
          pair1 = keep _ _ _ (st.takes new_pair 1) (st.gives new_pair 1) ∙ r.pair1;
          retag2 = keep _ _ _ (st.takes retag 2) (st.gives retag 2) ∙ r.retag2;
          branch1 = keep _ _ _ (st.takes new_branch 1) (st.gives new_branch 1) ∙ r.branch1;
          branch2 = keep _ _ _ (st.takes new_branch 2) (st.gives new_branch 2) ∙ r.branch2;
          tagger2 = keep _ _ _ (st.takes tagger 2) (st.gives tagger 2) ∙ r.tagger2;
          entering_run = r.entering_run;
          returning_run = r.returning_run;
          line_run = r.line_run;
          leaving_end = r.leaving_end;
          counts = λ t. r.counts t ∙ ap (open_count t) (sym slots);
          results = subst (AllByRecursion (HasResult f d r.first)) (sym slots) r.results;
          once = λ t. subst (λ z. tag_count t z ≤ 1) (sym slots) (r.once t);
          below = subst (AllByRecursion (λ x. x.tag < n)) (sym slots) r.below;
        };
        fits = fit;
        queue = (λ j. map (λ x. r.first x.tag) (slots j) ++ more j) ∙ sym (append_assoc (map (λ (x : Slot). r.first x.tag) (s.slots tagger)) (s.wires tagger 1) (one v));
        out = keep _ _ _ (st.takes new_exit 1) (st.gives new_exit 1);
      }

  pub record Took (s u : Held TaggedNode) (r : Ring f d n s) (v : Token) : Type 0 where
    pub ring : Ring f d n u
    pub queue : queue_of u ring ≡ queue_of s r
    pub out : s.wires new_exit 1 ≡ v ∷ u.wires new_exit 1

  pub leave_took : (s u : Held TaggedNode) (v : Token) (st : PlanStep new s new_exit (Take v) u) (r : Ring f d n s) → Took s u r v
  leave_took s u v st r =
      let slots : u.slots tagger ≡ s.slots tagger = st.others tagger refl in
      let (et, eg, en) = st.acts in
      record {
        ring = record {
          first = r.first;
          entering = r.entering;
          returning = r.returning;
          merged = r.merged;
          split = r.split;
          valued = r.valued;
          paired = r.paired;
          joined = r.joined;
          leaving = r.leaving;
          merge1 = keep _ _ _ (st.takes merge 1) (st.gives merge 1) ∙ r.merge1;
          merge2 = keep _ _ _ (st.takes merge 2) (st.gives merge 2) ∙ r.merge2;
          tag1 = keep _ _ _ (st.takes tag 1) (st.gives tag 1) ∙ r.tag1;
          retag1 = keep _ _ _ (st.takes retag 1) (st.gives retag 1) ∙ r.retag1;
          pure1 = keep _ _ _ (st.takes new_pure 1) (st.gives new_pure 1) ∙ r.pure1;
          pair1 = keep _ _ _ (st.takes new_pair 1) (st.gives new_pair 1) ∙ r.pair1;
          retag2 = keep _ _ _ (st.takes retag 2) (st.gives retag 2) ∙ r.retag2;
          branch1 = keep _ _ _ (st.takes new_branch 1) (st.gives new_branch 1) ∙ r.branch1;
          branch2 = keep _ _ _ (st.takes new_branch 2) (st.gives new_branch 2) ∙ r.branch2;
          tagger2 = keep _ _ _ (st.takes tagger 2) (st.gives tagger 2) ∙ r.tagger2;
          entering_run = r.entering_run;
          returning_run = r.returning_run;
          line_run = r.line_run;
          leaving_end = r.leaving_end;
          counts = λ t. r.counts t ∙ ap (open_count t) (sym slots);
          results = subst (AllByRecursion (HasResult f d r.first)) (sym slots) r.results;
          once = λ t. subst (λ z. tag_count t z ≤ 1) (sym slots) (r.once t);
          below = subst (AllByRecursion (λ x. x.tag < n)) (sym slots) r.below;
        };
        queue = (λ j. map (λ x. r.first x.tag) (slots j) ++ keep _ _ _ (st.takes tagger 1) (st.gives tagger 1) j);
        out = st.takes new_exit 1 ∙ ap (λ z. at_port z 1 ++ st.between new_exit 1) et ∙ ap (λ z. v ∷ z) (sym (st.gives new_exit 1 ∙ append-nil _));
      }

  -- a firing, whichever node it is
  pub fires_ring : (s u : Held TaggedNode) (m : TaggedNode) (k : ℕ) → PlanStep new s m (Fire k) u → (r : Ring f d n s) → Stays s u r ⊎ Gives s u r
  fires_ring s u new_entry k st r = absurd st.acts
  fires_ring s u new_exit k st r = absurd st.acts
  fires_ring s u merge k st r = inl (merge_fires s u k st r)
  fires_ring s u tag k st r = inl (tag_fires s u k st r)
  fires_ring s u new_pure k st r = inl (pure_fires s u k st r)
  fires_ring s u new_pair k st r = inl (pair_fires s u k st r)
  fires_ring s u retag k st r = inl (retag_fires s u k st r)
  fires_ring s u new_branch k st r = inl (branch_fires s u k st r)
  fires_ring s u tagger zero st r = let (t, v, eo, et, eg) = st.acts in inr (tagger_gives s u zero st r t v eo et eg)
  fires_ring s u tagger (suc zero) st r =
      let (t, v, before, after, eo, en, et, eg) = st.acts in inl (tagger_keeps s u (suc zero) st r t v before after eo en et eg)
  fires_ring s u tagger (suc (suc t)) st r =
      let (v, lt, free, en, et, eg) = st.acts in inl (tagger_takes s u (suc (suc t)) st r t v lt free en et eg)

  -- at the start
  pub ring_start : Ring f d n (plan_start new)
  ring_start =
      record {
        first = λ t. [];
        entering = [];
        returning = [];
        merged = [];
        split = [];
        valued = [];
        paired = [];
        joined = [];
        leaving = [];
        merge1 = refl;
        merge2 = refl;
        tag1 = refl;
        retag1 = refl;
        pure1 = refl;
        pair1 = refl;
        retag2 = refl;
        branch1 = refl;
        branch2 = refl;
        tagger2 = refl;
        entering_run = tt;
        returning_run = tt;
        line_run = tt;
        leaving_end = tt;
        counts = λ t. refl;
        results = tt;
        once = λ t. omega arith;
        below = tt;
      }
