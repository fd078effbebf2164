-- steady nodes catch up with what was fed
use Rattle.std.proofs.Common.{◌≡◌, ℕ, zero, suc, ◌⊎◌, inl, inr, ◌+◌, ◌<◌, ◌≤◌, refl, sym, ap, subst, ◌∙◌, true, false, Bool, if◌then◌else◌, map, length, List, [], ◌∷◌, ◌++◌, Option, Some, None, arith}
use Rattle.body_laws.proofs.SteadyKinds.{ones_inj, one_each, any_slots, port_one, port_none, same_ports}
use Rattle.body_laws.proofs.SteadySteps.{Agrees, SteadyPlan, stream, Slices, bump, producer, fired}
use Rattle.body_laws.proofs.SteadyStreams.{slice_front, Fitting, Begins, padded, padded_begins}
use Rattle.body_laws.specs.Bodies.{IsSteady}
use Rattle.circuit_plans.proofs.PlanAfter.{after, do_step}
use Rattle.circuit_plans.proofs.Plans.{Held, PlanStep, PlanInner, rest, fires, plan_then}
use Rattle.circuit_plans.specs.Plans.{Out, Plan}
use Rattle.circuits.proofs.Beside.{none_some}
use Rattle.circuits.specs.Firing.{Label.Fire}
use Rattle.circuits.specs.PortTokens.{Token, at_port, one}
use Rattle.components.specs.Kind.{Shape, ins}
use Rattle.components.specs.Name.{port_get}
use Rattle.components.specs.declared.kind.Kind.{Kind}
use Rattle.components.specs.declared.kind.Kind.TheVariants.{Buffer, Fork, Join, Split, Sink0, Source0, Constant, Pure, Operator}
use Rattle.std.proofs.lemmas.Option.{same_Some}

pub steady_or_not : (k : Kind) → IsSteady k ⊎ (IsSteady k → ⊥)
steady_or_not (Buffer a) = inl tt
steady_or_not (Fork a n) = inl tt
steady_or_not (Join bs) = inl tt
steady_or_not (Split bs) = inl tt
steady_or_not (Sink0 a) = inl tt
steady_or_not (Source0 a) = inl tt
steady_or_not (Constant a w v) = inl tt
steady_or_not (Pure f b) = inl tt
steady_or_not (Operator o ws w) = inl tt
steady_or_not _ = inr (λ h. h)

equal_or_not : (x y : ℕ) → (x ≡ y) ⊎ (x ≡ y → ⊥)
equal_or_not zero zero = inl refl
equal_or_not zero (suc y) = inr (λ e. omega (arith, e))
equal_or_not (suc x) zero = inr (λ e. omega (arith, e))
equal_or_not (suc x) (suc y) = elim (equal_or_not x y) [ inl e ↦ inl (ap suc e) | inr h ↦ inr (λ e. h (omega (arith, e))) ]

-- how much is missing, or nothing
missing : (x y : ℕ) → ((d : ℕ) × (x + d ≡ y)) ⊎ (y ≤ x)
missing zero y = inl (y, omega arith)
missing (suc x) zero = inr (omega arith)
missing (suc x) (suc y) = elim (missing x y) [ inl h ↦ inl (h.0, (let e : x + h.0 ≡ y = h.1 in omega (arith, e))) | inr h ↦ inr (omega (arith, h)) ]

below_by : (x k d : ℕ) → x + d ≡ k → (x < k) ⊎ (x ≡ k)
below_by x k zero f = inr (omega (arith, f))
below_by x k (suc d) f = inl (omega (arith, f))

below : (x k : ℕ) → x < suc k → (x < k) ⊎ (x ≡ k)
below x k lt = elim (missing x k) [ inl d ↦ below_by x k d.0 d.1 | inr g ↦ inr (omega (arith, g, lt)) ]

abbrev but_first : List Token → List Token
but_first [] = []
but_first (v ∷ vs) = vs

module _ {N : Type 0} (c : Plan N) (e : N) (a : Shape) (val : Fitting a → N → ℕ → Token) (sp : SteadyPlan c e a val) where
  -- slices of every stream that goes on from what was fed
  abbrev pub AllSlices : List (Fitting a) → (N → ℕ) → Held N → Type 0
  AllSlices xs count s = (X : ℕ → Fitting a) → Begins xs X → Slices c e a val X count s

  module _ (xs : List (Fitting a)) (count : N → ℕ) (s : Held N) (all : AllSlices xs count s) (n : N) (steady : IsSteady (c.kind n)) where
    module _ (room : (i : ℕ) (q : Out N) → c.source n i ≡ Some q → count n < count q.at) where
      abbrev X0 : ℕ → Fitting a
      X0 = padded xs

      abbrev ag : Agrees c (val (X0 (count n))) n
      ag = sp.agrees (X0 (count n)) n steady

      abbrev behind : ℕ → Option (Out N) → List Token
      behind i None = s.wires n i
      behind i (Some q) = but_first (s.wires n i)

      vs_length : length ag.vs ≡ length (ins (c.kind n))
      vs_length =
          let oe = one_each (c.kind n) 0 [] (map one ag.vs) (map one ag.ws) [] steady ag.fires in
          ap length (ones_inj ag.vs oe.vs oe.is_taken) ∙ oe.as_ins

      unfed : (i : ℕ) → c.source n i ≡ None → (o : Option Token) → port_get ag.vs i ≡ o → at_port (map one ag.vs) i ≡ []
      unfed i f None g = port_none ag.vs i g
      unfed i f (Some v) g =
          let (sh, enters) = same_ports ag.vs (ins (c.kind n)) i v vs_length g in
          let (q, h) = sp.typed.inputs (record { at = n; port = i }) sh enters in
          absurd (none_some None q refl (sym f ∙ h))

      own_takes : (i : ℕ) (o : Option (Out N)) → c.source n i ≡ o → s.wires n i ≡ at_port (map one ag.vs) i ++ behind i o
      own_takes i None f = ap (λ z. z ++ s.wires n i) (sym (unfed i f (port_get ag.vs i) refl))
      own_takes i (Some q) f =
          let h = slice_front (stream c e a val X0 q) (count n) (s.wires n i) (count q.at) (all X0 (padded_begins xs) n i q f) (room i q f) in
          h.is ∙ (λ j. at_port_is j ++ h.later) ∙ ap (λ z. at_port (map one ag.vs) i ++ but_first z) (sym h.is)
        where
          at_port_is : one (stream c e a val X0 q (count n)) ≡ at_port (map one ag.vs) i
          at_port_is = sym (port_one ag.vs i (stream c e a val X0 q (count n)) (ag.inputs i q f))

      fire_to : Held N
      fire_to = after c s n (λ i. behind i (c.source n i)) (map one ag.ws) (s.slots n)

      fire_step : PlanStep c s n (Fire 0) fire_to
      unfolding fire_to
      fire_step =
          do_step c s n (Fire 0) (map one ag.vs) (map one ag.ws) (s.slots n) (λ i. behind i (c.source n i)) (any_slots (c.kind n) 0 [] [] (s.slots n) (map one ag.vs) (map one ag.ws) steady ag.fires)
          (λ i. own_takes i (c.source n i) refl)

      -- n fires once more
      pub record Once : Type 0 where
        pub to : Held N
        pub step : PlanStep c s n (Fire 0) to
        pub slices : AllSlices xs (bump c e a val count n) to

      pub once : Once
      once = record { to = fire_to; step = fire_step; slices = λ X begins. fired c e a val sp X count s (all X begins) n 0 fire_to fire_step steady }

  not_self : (n : N) (z : Bool) → c.same n n ≡ z → z ≡ true
  not_self n z f = sym f ∙ c.same_self n

  bump_self : (count : N → ℕ) (n : N) → bump c e a val count n n ≡ suc (count n)
  bump_self count n = ap (λ z. if z then suc (count n) else count n) (c.same_self n)

  bump_other : (count : N → ℕ) (n m : N) → c.same m n ≡ false → bump c e a val count n m ≡ count m
  bump_other count n m f = ap (λ z. if z then suc (count m) else count m) f

  bump_at : (count : N → ℕ) (n m : N) (z : Bool) → c.same m n ≡ z → count m ≤ bump c e a val count n m
  bump_at count n m true f = let k : bump c e a val count n m ≡ suc (count m) = ap (λ z. if z then suc (count m) else count m) f in omega (arith, k)
  bump_at count n m false f = let k : bump c e a val count n m ≡ count m = bump_other count n m f in omega (arith, k)

  -- n has fired at least so often, and no more than it must
  pub record CaughtOne (xs : List (Fitting a)) (count : N → ℕ) (s : Held N) (n : N) (goal : ℕ) : Type 0 where
    pub to : Held N
    pub inner : PlanInner c to s
    pub now : N → ℕ
    pub slices : AllSlices xs now to
    pub at_least : goal ≤ now n
    pub at_most : count n ≤ goal → now n ≤ goal
    pub rest : (m : N) → c.same m n ≡ false → now m ≡ count m

  catch_more : (d : ℕ) (xs : List (Fitting a)) (count : N → ℕ) (s : Held N) → AllSlices xs count s → (n : N) → IsSteady (c.kind n) → (goal : ℕ) → count n + d ≡ goal → ((i : ℕ) (q : Out N) → c.source n i ≡ Some q → goal ≤ count q.at) → CaughtOne xs count s n goal
  catch_more zero xs count s all n steady goal f ready =
      record { to = s; inner = rest; now = count; slices = all; at_least = omega (arith, f); at_most = λ h. h; rest = λ m z. refl }
  catch_more (suc d) xs count s all n steady goal f ready =
      let o = once xs count s all n steady (λ i q g. let h : goal ≤ count q.at = ready i q g in omega (arith, f, h)) in
      let up : bump c e a val count n n ≡ suc (count n) = bump_self count n in
      let go = catch_more d xs (bump c e a val count n) o.to o.slices n steady goal (omega (arith, f, up))
      (λ i q g. let h : goal ≤ count q.at = ready i q g in let k : count q.at ≤ bump c e a val count n q.at = bump_at count n q.at (c.same q.at n) refl in omega (arith, h, k)) in
      record {
        to = go.to;
        inner = fires n 0 o.to o.step go.inner;
        now = go.now;
        slices = go.slices;
        at_least = go.at_least;
        at_most = λ h. go.at_most (omega (arith, f, up));
        rest = λ m z. go.rest m z ∙ bump_other count n m z;
      }

  catch_one : (xs : List (Fitting a)) (count : N → ℕ) (s : Held N) → AllSlices xs count s → (n : N) → IsSteady (c.kind n) → (goal : ℕ) → ((i : ℕ) (q : Out N) → c.source n i ≡ Some q → goal ≤ count q.at) → CaughtOne xs count s n goal
  catch_one xs count s all n steady goal ready =
      elim (missing (count n) goal) [
        | inl d ↦ catch_more d.0 xs count s all n steady goal d.1 ready
        | inr h ↦ record { to = s; inner = rest; now = count; slices = all; at_least = h; at_most = λ k. k; rest = λ m z. refl }
      ]

  -- the steady nodes of rank below k have fired at least so often, and no node more than it must
  pub record CaughtAll (xs : List (Fitting a)) (count : N → ℕ) (s : Held N) (goal k : ℕ) : Type 0 where
    pub to : Held N
    pub inner : PlanInner c to s
    pub now : N → ℕ
    pub slices : AllSlices xs now to
    pub at_least : (m : N) → IsSteady (c.kind m) → sp.rank m < k → goal ≤ now m
    pub at_most : (m : N) → count m ≤ goal → now m ≤ goal
    pub ends : (m : N) → (IsSteady (c.kind m) → ⊥) → now m ≡ count m

  not_same : (m n : N) → (m ≡ n → ⊥) → (z : Bool) → c.same m n ≡ z → c.same m n ≡ false
  not_same m n h true f = absurd (h (c.same_is m n f))
  not_same m n h false f = f

  module _ (xs : List (Fitting a)) (count : N → ℕ) (s : Held N) (goal k : ℕ) (enough : goal ≤ count e) (go : CaughtAll xs count s goal k) where
    entry_not : IsSteady (c.kind e) → ⊥
    entry_not h = subst IsSteady sp.entry h

    -- the node of rank k
    module _ (n : N) (steady : IsSteady (c.kind n)) (is_rank : sp.rank n ≡ k) where
      ready : (i : ℕ) (q : Out N) → c.source n i ≡ Some q → goal ≤ go.now q.at
      ready i q f =
          elim (sp.lower n i q steady f) [
            | inl is ↦ (let k1 : go.now q.at ≡ count e = ap go.now is ∙ go.ends e entry_not in omega (arith, k1, enough))
            | inr lt ↦ elim (producer c e a val sp n i q f) [
              | inl is ↦ (let k1 : go.now q.at ≡ count e = ap go.now is ∙ go.ends e entry_not in omega (arith, k1, enough))
              | inr h ↦ go.at_least q.at h (omega (arith, lt, is_rank))
            ]
          ]

      abbrev one_step : CaughtOne xs go.now go.to n goal
      one_step = catch_one xs go.now go.to go.slices n steady goal ready

      least_at : (m : N) → IsSteady (c.kind m) → sp.rank m < suc k → (o : N) → sp.nth k ≡ Some o → o ≡ n → (z : Bool) → c.same m n ≡ z → goal ≤ one_step.now m
      least_at m h lt o f on true g = subst (λ z. goal ≤ one_step.now z) (sym (c.same_is m n g)) one_step.at_least
      least_at m h lt o f on false g =
          elim (below (sp.rank m) k lt) [
            | inl l ↦ (let k1 : one_step.now m ≡ go.now m = one_step.rest m g in let k2 : goal ≤ go.now m = go.at_least m h l in omega (arith, k1, k2))
            | inr is ↦ (
                let there : m ≡ n = same_Some m o (sym (sp.ranked m h).1 ∙ ap sp.nth is ∙ f) ∙ on in
                let no : true ≡ false = sym (c.same_self n) ∙ ap (λ z. c.same z n) (sym there) ∙ g in
                absurd cc)
          ]

      most_at : (m : N) → count m ≤ goal → (z : Bool) → c.same m n ≡ z → one_step.now m ≤ goal
      most_at m h true g = subst (λ z. one_step.now z ≤ goal) (sym (c.same_is m n g)) (one_step.at_most (subst (λ z. go.now z ≤ goal) (c.same_is m n g) (go.at_most m h)))
      most_at m h false g = let k1 : one_step.now m ≡ go.now m = one_step.rest m g in let k2 : go.now m ≤ goal = go.at_most m h in omega (arith, k1, k2)

      with_next : sp.nth k ≡ Some n → CaughtAll xs count s goal (suc k)
      with_next f =
          record {
            to = one_step.to;
            inner = plan_then c one_step.to go.to s go.inner one_step.inner;
            now = one_step.now;
            slices = one_step.slices;
            at_least = λ m h lt. least_at m h lt n f refl (c.same m n) refl;
            at_most = λ m h. most_at m h (c.same m n) refl;
            ends = λ m h. one_step.rest m (not_same m n (λ is. h (subst (λ z. IsSteady (c.kind z)) (sym is) steady)) (c.same m n) refl) ∙ go.ends m h;
          }

    -- there is no such node
    without_next : ((m : N) → IsSteady (c.kind m) → sp.rank m ≡ k → ⊥) → CaughtAll xs count s goal (suc k)
    without_next none =
        record {
          to = go.to;
          inner = go.inner;
          now = go.now;
          slices = go.slices;
          at_least = λ m h lt. elim (below (sp.rank m) k lt) [ inl l ↦ go.at_least m h l | inr is ↦ absurd (none m h is) ];
          at_most = go.at_most;
          ends = go.ends;
        }

    is_nth : (m n : N) → IsSteady (c.kind m) → sp.rank m ≡ k → sp.nth k ≡ Some n → m ≡ n
    is_nth m n h is f = same_Some m n (sym (sp.ranked m h).1 ∙ ap sp.nth is ∙ f)

    next_at : (o : Option N) → sp.nth k ≡ o → CaughtAll xs count s goal (suc k)
    next_at None f = without_next (λ m h is. none_some None m refl (sym f ∙ ap sp.nth (sym is) ∙ (sp.ranked m h).1))
    next_at (Some n) f =
        elim (steady_or_not (c.kind n)) [
          | inl h ↦ elim (equal_or_not (sp.rank n) k) [
            | inl is ↦ with_next n h is f
            | inr ne ↦ without_next (λ m g is. ne (ap sp.rank (sym (is_nth m n g is f)) ∙ is))
          ]
          | inr not_it ↦ without_next (λ m g is. not_it (subst (λ z. IsSteady (c.kind z)) (is_nth m n g is f) g))
        ]

  catch_to : (k : ℕ) (xs : List (Fitting a)) (count : N → ℕ) (s : Held N) → AllSlices xs count s → (goal : ℕ) → goal ≤ count e → CaughtAll xs count s goal k
  catch_to zero xs count s all goal enough =
      record { to = s; inner = rest; now = count; slices = all; at_least = λ m h lt. absurd (omega (arith, lt)); at_most = λ m h. h; ends = λ m h. refl }
  catch_to (suc k) xs count s all goal enough =
      let go = catch_to k xs count s all goal enough in next_at xs count s goal k enough go (sp.nth k) refl

  pub catch_all : (xs : List (Fitting a)) (count : N → ℕ) (s : Held N) → AllSlices xs count s → (goal : ℕ) → goal ≤ count e → CaughtAll xs count s goal sp.size
  catch_all = catch_to sp.size
