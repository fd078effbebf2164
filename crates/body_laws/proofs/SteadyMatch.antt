-- two plans of steady nodes with the same values at their Exits: the one refines the other
use Rattle.std.proofs.Common.{◌≡◌, ℕ, suc, ◌⊎◌, inl, inr, ◌<◌, ◌≤◌, refl, sym, ap, subst, ◌∙◌, true, false, Bool, if◌then◌else◌, length, List, [], ◌∷◌, ◌++◌, Option, Some, None, arith}
use Rattle.body_laws.proofs.SteadyCatch.{AllSlices, CaughtAll, catch_all}
use Rattle.body_laws.proofs.SteadySteps.{SteadyPlan, stream, bump, producer, fired, fed, took, taken_is, took_out}
use Rattle.body_laws.proofs.SteadyStreams.{Slice, slice_front, Fitting, padded, padded_begins, begins_more, length_more}
use Rattle.body_laws.specs.Bodies.{IsSteady}
use Rattle.circuit_plans.proofs.PlanAfter.{after, do_step, pop1, pop1_takes}
use Rattle.circuit_plans.proofs.PlanTyped.{PlanPorts}
use Rattle.circuit_plans.proofs.Plans.{Held, PlanStep, PlanInner, rest, plan_initial, PlanMatches, name_inj}
use Rattle.circuit_plans.specs.Plans.{Out, Plan, Naming}
use Rattle.circuits.specs.CircuitState.{Slot, initial}
use Rattle.circuits.specs.Firing.{Label.Feed, Label.Take, Label.Fire, Acts, Fires}
use Rattle.circuits.specs.PortTokens.{Token, one}
use Rattle.components.specs.Kind.{Shape, ins}
use Rattle.components.specs.Name.{port_get}
use Rattle.components.specs.declared.kind.Kind.{Kind}
use Rattle.components.specs.declared.kind.Kind.TheVariants.{Entry, Exit, Init}
use Rattle.port_types.specs.Token.{Fits}

-- back from a node there is a way to e
pub data Follows {N : Type 0} (c : Plan N) (e : N) : N → Type 0 where
  start : Follows c e e
  on : (n : N) (i : ℕ) (q : Out N) → c.source n i ≡ Some q → Follows c e q.at → Follows c e n

follows_input : {N : Type 0} (c : Plan N) (e n : N) → (n ≡ e → ⊥) → Follows c e n → (i : ℕ) × (q : Out N) × (c.source n i ≡ Some q) × Follows c e q.at
follows_input c e n ne start = absurd (ne refl)
follows_input c e n ne (on m i q f go) = (i, q, f, go)

fed_kind : (k : Kind) (v : Token) (old : List Slot) (taken given : List (List Token)) (new : List Slot) → Acts k (Feed v) old taken given new → (b : Shape) × (k ≡ Entry b)
fed_kind (Entry b) v old taken given new h = (b, refl)
fed_kind _ v old taken given new h = absurd h

taken_kind : (k : Kind) (v : Token) (old : List Slot) (taken given : List (List Token)) (new : List Slot) → Acts k (Take v) old taken given new → (b : Shape) × (k ≡ Exit b)
taken_kind (Exit b) v old taken given new h = (b, refl)
taken_kind _ v old taken given new h = absurd h

-- facts on one such plan
module _ {N : Type 0} (c : Plan N) (e : N) (a : Shape) (val : Fitting a → N → ℕ → Token) (sp : SteadyPlan c e a val) where
  pub exit_not_entry : (n : N) (b : Shape) → c.kind n ≡ Exit b → n ≡ e → ⊥
  exit_not_entry n b x is = let k : Exit b ≡ Entry a = sym x ∙ ap c.kind is ∙ sp.entry in absurd cc

  pub exit_not_steady : (n : N) (b : Shape) → c.kind n ≡ Exit b → IsSteady (c.kind n) → ⊥
  exit_not_steady n b x h = subst IsSteady x h

  pub not_same : (m n : N) → (m ≡ n → ⊥) → (z : Bool) → c.same m n ≡ z → c.same m n ≡ false
  not_same m n h true f = absurd (h (c.same_is m n f))
  not_same m n h false f = f

  pub bump_other : (count : N → ℕ) (n m : N) → c.same m n ≡ false → bump c e a val count n m ≡ count m
  bump_other count n m f = ap (λ z. if z then suc (count m) else count m) f

  pub bump_same : (count : N → ℕ) (n : N) → bump c e a val count n n ≡ suc (count n)
  bump_same count n = ap (λ z. if z then suc (count n) else count n) (c.same_self n)

  -- a bound that n is still below
  pub bump_bound : (count : N → ℕ) (n m : N) (top : ℕ) → (m ≡ n → suc (count n) ≤ top) → count m ≤ top → (z : Bool) → c.same m n ≡ z → bump c e a val count n m ≤ top
  bump_bound count n m top h k true f =
      let mn : m ≡ n = c.same_is m n f in
      subst (λ z. bump c e a val count n z ≤ top) (sym mn) (let up : bump c e a val count n n ≡ suc (count n) = bump_same count n in let lt : suc (count n) ≤ top = h mn in omega (arith, up, lt))
  bump_bound count n m top h k false f = let same : bump c e a val count n m ≡ count m = bump_other count n m f in omega (arith, same, k)

  pub is_entry : (s t : Held N) (n : N) (v : Token) → PlanStep c s n (Feed v) t → n ≡ e
  is_entry s t n v st =
      let (b, k) = fed_kind (c.kind n) v (s.slots n) st.taken st.given (t.slots n) st.acts in
      elim (sp.others n) [
        | inl is ↦ is
        | inr x ↦ elim x [ inl h ↦ absurd (subst IsSteady k h) | inr y ↦ absurd (let z : Entry b ≡ Exit y.0 = sym k ∙ y.1 in let no_such : ⊥ = cc in no_such) ]
      ]

  pub is_steady : (s t : Held N) (n : N) (k : ℕ) → PlanStep c s n (Fire k) t → IsSteady (c.kind n)
  is_steady s t n k st =
      elim (sp.others n) [
        | inl is ↦ absurd (subst (λ z. Fires z k (s.slots n) st.taken st.given (t.slots n)) (ap c.kind is ∙ sp.entry) st.acts)
        | inr x ↦ elim x [ inl h ↦ h | inr y ↦ absurd (subst (λ z. Fires z k (s.slots n) st.taken st.given (t.slots n)) y.1 st.acts) ]
      ]

  pub exit_source : (n : N) (b : Shape) → c.kind n ≡ Exit b → (q : Out N) × (c.source n 1 ≡ Some q)
  exit_source n b x = sp.typed.inputs (record { at = n; port = 1 }) b (ap (λ k. port_one_of k) x)
    where
      port_one_of : Kind → Option Shape
      port_one_of k = port_get (ins k) 1

  -- a token fed
  pub feed_to : Held N → Token → Held N
  feed_to t v = after c t e (t.wires e) (one v ∷ []) (t.slots e)

  pub feed : (t : Held N) (v : Token) → Fits a v → PlanStep c t e (Feed v) (feed_to t v)
  unfolding feed_to
  feed t v fit =
      do_step c t e (Feed v) [] (one v ∷ []) (t.slots e) (t.wires e) (subst (λ z. Acts z (Feed v) (t.slots e) [] (one v ∷ []) (t.slots e)) (sym sp.entry) (fit, refl, refl, refl))
      (λ i. refl)

  -- a token taken
  pub leave_to : Held N → N → List Token → Held N
  leave_to t n r = after c t n (pop1 (t.wires n) r) [] (t.slots n)

  pub leave : (t : Held N) (n : N) (b : Shape) (v : Token) (r : List Token) → c.kind n ≡ Exit b → t.wires n 1 ≡ v ∷ r → PlanStep c t n (Take v) (leave_to t n r)
  unfolding leave_to
  leave t n b v r x f =
      do_step c t n (Take v) (one v ∷ []) [] (t.slots n) (pop1 (t.wires n) r) (subst (λ z. Acts z (Take v) (t.slots n) (one v ∷ []) [] (t.slots n)) (sym x) (refl, refl, refl))
      (pop1_takes (t.wires n) v r f)

  -- at the start, with nothing fed
  pub quiet : (o : Option (Out N)) → ((q : Out N) → o ≡ Some q → (q.at ≡ e) ⊎ IsSteady (c.kind q.at)) → plan_initial c o ≡ []
  quiet None h = refl
  quiet (Some q) h = quiet_at (c.kind q.at) (elim (h q refl) [ inl is ↦ inr (a, ap c.kind is ∙ sp.entry) | inr y ↦ inl y ])
    where
      quiet_at : (k : Kind) → IsSteady k ⊎ ((b : Shape) × (k ≡ Entry b)) → initial (Some k) ≡ []
      quiet_at (Init v m) (inl h) = absurd h
      quiet_at (Init v m) (inr y) = absurd (let z : Init v m ≡ Entry y.0 = y.1 in let no_such : ⊥ = cc in no_such)
      quiet_at _ h = refl

-- two such plans with the same names at their ends have the same ports
pub only_entry : {N : Type 0} (c : Plan N) (e : N) (a : Shape) (val : Fitting a → N → ℕ → Token) → SteadyPlan c e a val → (n : N) (s : Shape) → c.kind n ≡ Entry s → (n ≡ e) × (Entry a ≡ Entry s)
only_entry c e a val sp n s k =
    elim (sp.others n) [
      | inl is ↦ (is, sym sp.entry ∙ ap c.kind (sym is) ∙ k)
      | inr x ↦ elim x [ inl h ↦ absurd (subst IsSteady k h) | inr y ↦ absurd (let z : Entry s ≡ Exit y.0 = sym k ∙ y.1 in let no_such : ⊥ = cc in no_such) ]
    ]

pub steady_ports : {N M : Type 0} (h : Plan N) (e : N) (a : Shape) (val : Fitting a → N → ℕ → Token) → SteadyPlan h e a val → (g : Plan M) (d : M) (wal : Fitting a → M → ℕ → Token) → SteadyPlan g d a wal → (hx : Naming N) (gx : Naming M) → hx.name e ≡ gx.name d → ((n : N) (b : Shape) → h.kind n ≡ Exit b → (m : M) × (hx.name n ≡ gx.name m) × (g.kind m ≡ Exit b)) → ((m : M) (b : Shape) → g.kind m ≡ Exit b → (n : N) × (hx.name n ≡ gx.name m) × (h.kind n ≡ Exit b)) → PlanPorts h g hx gx
steady_ports h e a val sh g d wal sg hx gx entry exits back =
    record {
      entry = λ n s k. let (is, same) = only_entry h e a val sh n s k in (d, ap hx.name is ∙ entry, sg.entry ∙ same);
      entry_back = λ m s k. let (is, same) = only_entry g d a wal sg m s k in (e, entry ∙ ap gx.name (sym is), sh.entry ∙ same);
      exit = exits;
      exit_back = back;
    }

module _ {N M : Type 0} (h : Plan N) (e : N) (a : Shape) (val : Fitting a → N → ℕ → Token) (sh : SteadyPlan h e a val)
    (g : Plan M) (d : M) (wal : Fitting a → M → ℕ → Token) (sg : SteadyPlan g d a wal)
    (hx : Naming N) (gx : Naming M) (entry : hx.name e ≡ gx.name d)
    (exits : (n : N) (b : Shape) → h.kind n ≡ Exit b → (m : M) × (hx.name n ≡ gx.name m) × (g.kind m ≡ Exit b))
    (depends : (n : N) (b : Shape) (q : Out N) → h.kind n ≡ Exit b → h.source n 1 ≡ Some q → Follows h e q.at)
    (values : (x : Fitting a) (n : N) (m : M) (b : Shape) (q : Out N) (r : Out M) → hx.name n ≡ gx.name m → h.kind n ≡ Exit b → g.kind m ≡ Exit b → h.source n 1 ≡ Some q → g.source m 1 ≡ Some r → val x q.at q.port ≡ wal x r.at r.port) where
  -- both hold slices of their streams for what was fed, and as much was taken from the one as from the other
  record Like (s : Held N) (t : Held M) : Type 0 where
    xs : List (Fitting a)
    now : N → ℕ
    was : M → ℕ
    new : AllSlices h e a val sh xs now s
    old : AllSlices g d a wal sg xs was t
    new_entry : now e ≡ length xs
    old_entry : was d ≡ length xs
    bound : (n : N) → Follows h e n → now n ≤ length xs
    alike : (n : N) (m : M) (b : Shape) → hx.name n ≡ gx.name m → h.kind n ≡ Exit b → now n ≡ was m

  same_kind : (n : N) (m : M) (b : Shape) → hx.name n ≡ gx.name m → h.kind n ≡ Exit b → g.kind m ≡ Exit b
  same_kind n m b is x =
      let (m2, is2, x2) = exits n b x in ap g.kind (name_inj g gx m m2 (sym is ∙ is2)) ∙ x2

  like_feed : (s u : Held N) (t w : Held M) (v : Token) → Fits a v → Like s t → PlanStep h s e (Feed v) u → PlanStep g t d (Feed v) w → Like u w
  like_feed s u t w v fit l st st2 =
      let x : Fitting a = record { token = v; fits = fit } in
      record {
        xs = l.xs ++ x ∷ [];
        now = bump h e a val l.now e;
        was = bump g d a wal l.was d;
        new = λ X begins.
            let (b1, at) = begins_more l.xs x X begins in fed h e a val sh X l.now s (l.new X b1) v u st (ap (λ (z : Fitting a). z.token) (ap X l.new_entry ∙ at));
        old = λ X begins.
            let (b1, at) = begins_more l.xs x X begins in fed g d a wal sg X l.was t (l.old X b1) v w st2 (ap (λ (z : Fitting a). z.token) (ap X l.old_entry ∙ at));
        new_entry = bump_same h e a val sh l.now e ∙ ap suc l.new_entry ∙ sym (length_more l.xs x);
        old_entry = bump_same g d a wal sg l.was d ∙ ap suc l.old_entry ∙ sym (length_more l.xs x);
        bound = λ n f.
            let more : length (l.xs ++ x ∷ []) ≡ suc (length l.xs) = length_more l.xs x in
            let was_bound : l.now n ≤ length l.xs = l.bound n f in
            let at_entry : l.now e ≡ length l.xs = l.new_entry in
            bump_bound h e a val sh l.now e n (length (l.xs ++ x ∷ [])) (λ is. omega (arith, more, at_entry)) (omega (arith, more, was_bound)) (h.same n e) refl;
        alike = λ n m b is k.
            bump_other h e a val sh l.now e n (not_same h e a val sh n e (exit_not_entry h e a val sh n b k) (h.same n e) refl) ∙ l.alike n m b is k
            ∙ sym (bump_other g d a wal sg l.was d m (not_same g d a wal sg m d (exit_not_entry g d a wal sg m b (same_kind n m b is k)) (g.same m d) refl));
      }

  like_fire : (s u : Held N) (t : Held M) (n : N) (k : ℕ) → Like s t → PlanStep h s n (Fire k) u → Like u t
  like_fire s u t n k l st =
      let steady = is_steady h e a val sh s u n k st in
      record {
        xs = l.xs;
        now = bump h e a val l.now n;
        was = l.was;
        new = λ X begins. fired h e a val sh X l.now s (l.new X begins) n k u st steady;
        old = l.old;
        new_entry = bump_other h e a val sh l.now n e (not_same h e a val sh e n (λ is. not_entry steady (sym is)) (h.same e n) refl) ∙ l.new_entry;
        old_entry = l.old_entry;
        bound = λ m f. bump_bound h e a val sh l.now n m (length l.xs) (λ is. room steady (subst (Follows h e) is f)) (l.bound m f) (h.same m n) refl;
        alike = λ i m b is x.
            bump_other h e a val sh l.now n i (not_same h e a val sh i n (λ z. exit_not_steady h e a val sh n b (ap h.kind (sym z) ∙ x) steady) (h.same i n) refl) ∙ l.alike i m b is x;
      }
    where
      not_entry : IsSteady (h.kind n) → n ≡ e → ⊥
      not_entry steady is = subst IsSteady (ap h.kind is ∙ sh.entry) steady

      room : IsSteady (h.kind n) → Follows h e n → suc (l.now n) ≤ length l.xs
      room steady f =
          let (i, q, src, fq) = follows_input h e n (not_entry steady) f in
          let lt : l.now n < l.now q.at = took h e a val sh (padded l.xs) l.now s (l.new (padded l.xs) (padded_begins l.xs)) n k u st steady i q src in
          let le : l.now q.at ≤ length l.xs = l.bound q.at fq in
          omega (arith, lt, le)

  record Given (s u : Held N) (t : Held M) (n : N) (v : Token) : Type 0 where
    exit : M
    named : hx.name n ≡ gx.name exit
    ready : Held M
    to : Held M
    inner : PlanInner g ready t
    step : PlanStep g ready exit (Take v) to
    like : Like u to

  given : (s u : Held N) (t : Held M) (n : N) (v : Token) (b : Shape) → h.kind n ≡ Exit b → Like s t → PlanStep h s n (Take v) u → Given s u t n v
  given s u t n v b x l st =
      let (m, is, y) = exits n b x in
      let (q, fq) = exit_source h e a val sh n b x in
      let (r, fr) = exit_source g d a wal sg m b y in
      let X : ℕ → Fitting a = padded l.xs in
      let (head, lt) = taken_is h e a val sh X l.now s (l.new X (padded_begins l.xs)) n b v u st x 1 q fq in
      let room : l.now q.at ≤ length l.xs = l.bound q.at (depends n b q x fq) in
      let enough : length l.xs ≤ l.was d = let k : l.was d ≡ length l.xs = l.old_entry in omega (arith, k) in
      let all : CaughtAll g d a wal sg l.xs l.was t (length l.xs) sg.size = catch_all g d a wal sg l.xs l.was t l.old (length l.xs) enough in
      let mine : all.now m ≡ l.now n = all.ends m (exit_not_steady g d a wal sg m b y) ∙ sym (l.alike n m b is x) in
      let theirs : length l.xs ≤ all.now r.at = least r (producer g d a wal sg m 1 r fr) enough l.old_entry all in
      let below : all.now m < all.now r.at = omega (arith, lt, room, mine, theirs) in
      let front = slice_front (stream g d a wal X r) (all.now m) (all.to.wires m 1) (all.now r.at) (all.slices X (padded_begins l.xs) m 1 r fr) below in
      let same : stream g d a wal X r (all.now m) ≡ v =
      ap (λ z. wal (X z) r.at r.port) mine ∙ sym (values (X (l.now n)) n m b q r is x y fq fr) ∙ head in
      let top : all.to.wires m 1 ≡ v ∷ front.later = front.is ∙ ap (λ z. z ∷ front.later) same in
      let step2 : PlanStep g all.to m (Take v) (leave_to g d a wal sg all.to m front.later) = leave g d a wal sg all.to m b v front.later y top in
      record {
        exit = m;
        named = is;
        ready = all.to;
        to = leave_to g d a wal sg all.to m front.later;
        inner = all.inner;
        step = step2;
        like = record {
          xs = l.xs;
          now = bump h e a val l.now n;
          was = bump g d a wal all.now m;
          new = λ X begins. took_out h e a val sh X l.now s (l.new X begins) n b v u st x;
          old = λ X begins. took_out g d a wal sg X all.now all.to (all.slices X begins) m b v (leave_to g d a wal sg all.to m front.later) step2 y;
          new_entry = bump_other h e a val sh l.now n e (not_same h e a val sh e n (λ z. exit_not_entry h e a val sh n b x (sym z)) (h.same e n) refl) ∙ l.new_entry;
          old_entry =
              bump_other g d a wal sg all.now m d (not_same g d a wal sg d m (λ z. exit_not_entry g d a wal sg m b y (sym z)) (g.same d m) refl)
              ∙ all.ends d (λ z. subst IsSteady sg.entry z) ∙ l.old_entry;
          bound = λ k f. bump_bound h e a val sh l.now n k (length l.xs) (λ z. omega (arith, lt, room)) (l.bound k f) (h.same k n) refl;
          alike = λ i j w f z.
              alike_at all.now m is mine i j w f z (λ jw. all.ends j (exit_not_steady g d a wal sg j w jw) ∙ sym (l.alike i j w f z)) (h.same i n) refl;
        };
      }
    where
      least : (r : Out M) → (r.at ≡ d) ⊎ IsSteady (g.kind r.at) → length l.xs ≤ l.was d → l.was d ≡ length l.xs → (all : CaughtAll g d a wal sg l.xs l.was t (length l.xs) sg.size) → length l.xs ≤ all.now r.at
      least r (inl z) enough f all =
          let k : all.now r.at ≡ l.was d = ap all.now z ∙ all.ends d (λ w. subst IsSteady sg.entry w) in omega (arith, k, f)
      least r (inr z) enough f all = all.at_least r.at z (sg.ranked r.at z).0

      alike_at : (at : M → ℕ) (m : M) → hx.name n ≡ gx.name m → at m ≡ l.now n → (i : N) (j : M) (w : Shape) → hx.name i ≡ gx.name j → h.kind i ≡ Exit w → (g.kind j ≡ Exit w → at j ≡ l.now i) → (z : Bool) → h.same i n ≡ z → bump h e a val l.now n i ≡ bump g d a wal at m j
      alike_at at m is mine i j w f k there true s' =
          let ni : i ≡ n = h.same_is i n s' in
          let mj : m ≡ j = name_inj g gx m j (sym is ∙ ap hx.name (sym ni) ∙ f) in
          ap (bump h e a val l.now n) ni ∙ bump_same h e a val sh l.now n ∙ ap suc (sym mine) ∙ sym (bump_same g d a wal sg at m) ∙ ap (bump g d a wal at m) mj
      alike_at at m is mine i j w f k there false s' =
          bump_other h e a val sh l.now n i s' ∙ sym (there (same_kind i j w f k))
          ∙ sym (bump_other g d a wal sg at m j (not_same g d a wal sg j m (λ z. let y : true ≡ false = sym (h.same_self n) ∙ ap (λ w. h.same w n) (sym (name_inj h hx i n (f ∙ ap gx.name z ∙ sym is))) ∙ s' in let no_such : ⊥ = cc in no_such) (g.same j m) refl))

  -- what is steady and has the same values matches
  pub steady_matches : PlanMatches h g hx gx
  steady_matches =
      record {
        R = Like;
        begins = record {
          xs = [];
          now = λ n. 0;
          was = λ m. 0;
          new = λ X begins m i q f. begin_at h (h.source m i) q (quiet h e a val sh (h.source m i) (λ r fr. producer h e a val sh m i r fr)) (stream h e a val X q);
          old = λ X begins m i q f. begin_at g (g.source m i) q (quiet g d a wal sg (g.source m i) (λ r fr. producer g d a wal sg m i r fr)) (stream g d a wal X q);
          new_entry = refl;
          old_entry = refl;
          bound = λ n f. omega arith;
          alike = λ n m b is x. refl;
        };
        feeds = λ s t u n v l st.
            let is : n ≡ e = is_entry h e a val sh s u n v st in
            let st1 : PlanStep h s e (Feed v) u = subst (λ z. PlanStep h s z (Feed v) u) is st in
            let acts : Acts (Entry a) (Feed v) (s.slots e) st1.taken st1.given (u.slots e) = subst (λ z. Acts z (Feed v) (s.slots e) st1.taken st1.given (u.slots e)) sh.entry st1.acts in (
              d,
              ap hx.name is ∙ entry,
              feed_to g d a wal sg t v,
              feed g d a wal sg t v acts.0,
              like_feed s u t (feed_to g d a wal sg t v) v acts.0 l st1 (feed g d a wal sg t v acts.0),
            );
        takes = λ s t u n v fits l st.
            let (b, x) = taken_kind (h.kind n) v (s.slots n) st.taken st.given (u.slots n) st.acts in
            let go = given s u t n v b x l st in
            (go.exit, go.named, go.ready, go.to, go.inner, go.step, go.like);
        fires = λ s t u n k fits l st. (t, rest, like_fire s u t n k l st);
      }
    where
      begin_at : {A : Type 0} (c : Plan A) (o : Option (Out A)) (q : Out A) → plan_initial c o ≡ [] → (f : ℕ → Token) → Slice f 0 (plan_initial c o) 0
      begin_at c o q is f = subst (λ z. Slice f 0 z 0) (sym is) refl
