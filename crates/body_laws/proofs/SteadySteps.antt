-- plans of steady nodes: each wire holds a slice of an ideal stream, and each step keeps that
use Rattle.std.proofs.Common.{◌≡◌, ◌≢◌, ℕ, suc, ◌⊎◌, inl, inr, ◌<◌, refl, sym, ap, subst, ◌∙◌, true, false, Bool, if◌then◌else◌, map, length, List, [], ◌∷◌, ◌++◌, Option, Some, None, append-nil, arith}
use Rattle.body_laws.proofs.SteadyKinds.{ones_inj, same_given, OneEach, one_each, port_one, same_ports, by_port}
use Rattle.body_laws.proofs.SteadyStreams.{Slice, slice_lt, slice_more, Fitting}
use Rattle.body_laws.specs.Bodies.{IsSteady}
use Rattle.body_laws.specs.TypedPlan.{TypedPlan}
use Rattle.circuit_plans.proofs.Plans.{Held, PlanStep, part_from}
use Rattle.circuit_plans.specs.Plans.{Out, Plan}
use Rattle.circuits.proofs.Beside.{none_some}
use Rattle.circuits.specs.Firing.{Fires, Label, Label.Feed, Label.Take, Label.Fire, Acts}
use Rattle.circuits.specs.PortTokens.{Token, at_port, one}
use Rattle.components.specs.Kind.{Shape, ins, outs}
use Rattle.components.specs.Name.{port_get}
use Rattle.components.specs.Numbered.{single_port}
use Rattle.components.specs.declared.kind.Kind.TheVariants.{Entry, Exit}
use Rattle.std.proofs.lemmas.Option.{same_Some}

module _ {N : Type 0} (c : Plan N) where
  -- the tokens v at all outputs agree with one firing of n
  pub record Agrees (v : N → ℕ → Token) (n : N) : Type 0 where
    pub vs : List Token
    pub ws : List Token
    pub fires : Fires (c.kind n) 0 [] (map one vs) (map one ws) []
    pub inputs : (i : ℕ) (q : Out N) → c.source n i ≡ Some q → port_get vs i ≡ Some (v q.at q.port)
    pub outputs : (j : ℕ) (b : Shape) → port_get (outs (c.kind n)) j ≡ Some b → port_get ws j ≡ Some (v n j)

  -- one Entry, Exits, and steady nodes between, each behind those that feed it; val x says what each output gives when x has come in
  pub record SteadyPlan (e : N) (a : Shape) (val : Fitting a → N → ℕ → Token) : Type 0 where
    pub typed : TypedPlan c
    pub entry : c.kind e ≡ Entry a
    pub others : (n : N) → (n ≡ e) ⊎ (IsSteady (c.kind n) ⊎ ((b : Shape) × (c.kind n ≡ Exit b)))
    pub value : (x : Fitting a) → val x e 1 ≡ x.token
    pub agrees : (x : Fitting a) (n : N) → IsSteady (c.kind n) → Agrees (val x) n
    pub size : ℕ
    pub rank : N → ℕ
    pub nth : ℕ → Option N
    pub ranked : (n : N) → IsSteady (c.kind n) → (rank n < size) × (nth (rank n) ≡ Some n)
    pub lower : (n : N) (i : ℕ) (q : Out N) → IsSteady (c.kind n) → c.source n i ≡ Some q → (q.at ≡ e) ⊎ (rank q.at < rank n)

  module _ (e : N) (a : Shape) (val : Fitting a → N → ℕ → Token) where
    -- what an output gives, when the tokens of X come in one after another
    abbrev pub stream : (ℕ → Fitting a) → Out N → ℕ → Token
    stream X q k = val (X k) q.at q.port

    -- each node has fired so often, and each wire holds what its consumer has not yet taken
    abbrev pub Slices : (ℕ → Fitting a) → (N → ℕ) → Held N → Type 0
    Slices X count s = (m : N) (i : ℕ) (q : Out N) → c.source m i ≡ Some q → Slice (stream X q) (count m) (s.wires m i) (count q.at)

    abbrev pub bump : (N → ℕ) → N → N → ℕ
    bump count n m = if c.same m n then suc (count m) else count m

    -- a step that takes the next token from each input and gives the next at each output
    module _ (X : ℕ → Fitting a) (count : N → ℕ) (s : Held N) (b : Slices X count s) (n : N) (l : Label) (t : Held N) (st : PlanStep c s n l t) where
      own : (m : N) (i : ℕ) (v : Token) → c.same m n ≡ true → at_port st.taken i ≡ one v → s.wires m i ≡ v ∷ st.between m i
      own m i v is e = st.takes m i ∙ ap (λ z. (if z then at_port st.taken i else []) ++ st.between m i) is ∙ ap (λ z. z ++ st.between m i) e

      kept : (m : N) (i : ℕ) → c.same m n ≡ false → s.wires m i ≡ st.between m i
      kept m i is = st.takes m i ∙ ap (λ z. (if z then at_port st.taken i else []) ++ st.between m i) is

      given_at : (m : N) (i : ℕ) (q : Out N) (z : Bool) → c.source m i ≡ Some q → c.same q.at n ≡ z → t.wires m i ≡ st.between m i ++ (if z then at_port st.given q.port else [])
      given_at m i q z f is = st.gives m i ∙ ap (λ o. st.between m i ++ part_from c n st.given o) f ∙ ap (λ z. st.between m i ++ (if z then at_port st.given q.port else [])) is

      -- what is taken is the next token, and has been given before
      pub head_is : (i : ℕ) (q : Out N) (v : Token) → c.source n i ≡ Some q → at_port st.taken i ≡ one v → (stream X q (count n) ≡ v) × (count n < count q.at)
      head_is i q v f e =
          let h : Slice (stream X q) (count n) (v ∷ st.between n i) (count q.at) =
          subst (λ z. Slice (stream X q) (count n) z (count q.at)) (own n i v (c.same_self n) e) (b n i q f) in
          (h.0, slice_lt (stream X q) (count n) v (st.between n i) (count q.at) h)

      module _ (takes : (i : ℕ) (q : Out N) → c.source n i ≡ Some q → at_port st.taken i ≡ one (stream X q (count n)))
          (gives : (m : N) (i j : ℕ) → c.source m i ≡ Some (record { at = n; port = j }) → at_port st.given j ≡ one (val (X (count n)) n j)) where
        takes_at : (m : N) (i : ℕ) (q : Out N) → c.source m i ≡ Some q → c.same m n ≡ true → s.wires m i ≡ stream X q (count m) ∷ st.between m i
        takes_at m i q f is =
            let mn : m ≡ n = c.same_is m n is in
            own m i (stream X q (count m)) is (takes i q (ap (λ z. c.source z i) (sym mn) ∙ f) ∙ ap (λ z. one (stream X q (count z))) (sym mn))

        gives_at : (m : N) (i : ℕ) (q : Out N) → c.source m i ≡ Some q → c.same q.at n ≡ true → at_port st.given q.port ≡ one (stream X q (count q.at))
        gives_at m i q f is =
            let qn : q.at ≡ n = c.same_is q.at n is in
            gives m i q.port (f ∙ (λ j. Some (record { at = qn j; port = q.port }))) ∙ ap (λ z. one (val (X (count z)) z q.port)) (sym qn)

        wire_at : (m : N) (i : ℕ) (q : Out N) → c.source m i ≡ Some q → (y d : Bool) → c.same q.at n ≡ y → c.same m n ≡ d → Slice (stream X q) (if d then suc (count m) else count m) (t.wires m i) (if y then suc (count q.at) else count q.at)
        wire_at m i q f true true qa md =
            let h : Slice (stream X q) (count m) (stream X q (count m) ∷ st.between m i) (count q.at) =
            subst (λ z. Slice (stream X q) (count m) z (count q.at)) (takes_at m i q f md) (b m i q f) in
            let lt : count m < count q.at = slice_lt (stream X q) (count m) (stream X q (count m)) (st.between m i) (count q.at) h in
            let same : count m ≡ count q.at = ap count (c.same_is m n md ∙ sym (c.same_is q.at n qa)) in
            absurd (omega (arith, lt, same))
        wire_at m i q f true false qa md =
            let h : Slice (stream X q) (count m) (st.between m i) (count q.at) = subst (λ z. Slice (stream X q) (count m) z (count q.at)) (kept m i md) (b m i q f) in
            subst (λ z. Slice (stream X q) (count m) z (suc (count q.at))) (sym (given_at m i q true f qa ∙ ap (λ z. st.between m i ++ z) (gives_at m i q f qa)))
            (slice_more (stream X q) (count m) (st.between m i) (count q.at) h)
        wire_at m i q f false true qa md =
            let h : Slice (stream X q) (count m) (stream X q (count m) ∷ st.between m i) (count q.at) =
            subst (λ z. Slice (stream X q) (count m) z (count q.at)) (takes_at m i q f md) (b m i q f) in
            subst (λ z. Slice (stream X q) (suc (count m)) z (count q.at)) (sym (given_at m i q false f qa ∙ append-nil (st.between m i))) h.1
        wire_at m i q f false false qa md =
            subst (λ z. Slice (stream X q) (count m) z (count q.at)) (kept m i md ∙ sym (given_at m i q false f qa ∙ append-nil (st.between m i))) (b m i q f)

        pub advance : Slices X (bump count n) t
        advance m i q f = wire_at m i q f (c.same q.at n) (c.same m n) refl refl

    module _ (sp : SteadyPlan e a val) where
      no_entry : (n : N) → IsSteady (c.kind n) → n ≢ e
      no_entry n h is = subst IsSteady (ap c.kind is ∙ sp.entry) h

      -- what feeds an input is the Entry or a steady node
      pub producer : (m : N) (i : ℕ) (q : Out N) → c.source m i ≡ Some q → (q.at ≡ e) ⊎ IsSteady (c.kind q.at)
      producer m i q f =
          let (b, enters, leaves) = sp.typed.wires (record { at = m; port = i }) q f in
          let goal : (q.at ≡ e) ⊎ IsSteady (c.kind q.at) =
          elim (sp.others q.at) [
            | inl is ↦ inl is
            | inr x ↦ elim x [ inl h ↦ inr h | inr y ↦ absurd (none_some None b refl (sym (ap (λ k. port_get (outs k) q.port) y.1) ∙ leaves)) ]
          ] in
          goal

      module _ (X : ℕ → Fitting a) (count : N → ℕ) (s : Held N) (b : Slices X count s) where
        -- a firing
        module _ (n : N) (k : ℕ) (t : Held N) (st : PlanStep c s n (Fire k) t) (steady : IsSteady (c.kind n)) where
          abbrev oe : OneEach (c.kind n) k (s.slots n) st.taken st.given (t.slots n)
          oe = one_each (c.kind n) k (s.slots n) st.taken st.given (t.slots n) steady st.acts

          abbrev ag : Agrees (val (X (count n))) n
          ag = sp.agrees (X (count n)) n steady

          record Input (i : ℕ) (q : Out N) : Type 0 where
            token : Token
            port : port_get oe.vs i ≡ Some token
            is_taken : at_port st.taken i ≡ one token

          input : (i : ℕ) (q : Out N) → c.source n i ≡ Some q → Input i q
          input i q f =
              let (sh, enters, leaves) = sp.typed.wires (record { at = n; port = i }) q f in
              let (v, e) = same_ports (ins (c.kind n)) oe.vs i sh (sym oe.as_ins) enters in
              record { token = v; port = e; is_taken = ap (λ z. at_port z i) oe.is_taken ∙ port_one oe.vs i v e }

          takes_next : (i : ℕ) (q : Out N) → c.source n i ≡ Some q → at_port st.taken i ≡ one (stream X q (count n))
          takes_next i q f =
              let v = input i q f in v.is_taken ∙ ap one (sym (head_is X count s b n (Fire k) t st i q v.token f v.is_taken).0)

          -- each input was given more often than n has fired
          pub took : (i : ℕ) (q : Out N) → c.source n i ≡ Some q → count n < count q.at
          took i q f = let v = input i q f in (head_is X count s b n (Fire k) t st i q v.token f v.is_taken).1

          expected : OneEach (c.kind n) 0 [] (map one ag.vs) (map one ag.ws) []
          expected = one_each (c.kind n) 0 [] (map one ag.vs) (map one ag.ws) [] steady ag.fires

          same_length : length oe.vs ≡ length ag.vs
          same_length = oe.as_ins ∙ sym expected.as_ins ∙ ap length (sym (ones_inj ag.vs expected.vs expected.is_taken))

          agree_at : (i : ℕ) (v : Token) → port_get oe.vs i ≡ Some v → port_get ag.vs i ≡ Some v
          agree_at i v g =
              let (sh, enters) = same_ports oe.vs (ins (c.kind n)) i v oe.as_ins g in
              let (q, f) = sp.typed.inputs (record { at = n; port = i }) sh enters in
              let w = input i q f in
              let same : w.token ≡ v = same_Some w.token v (sym w.port ∙ g) in
              ag.inputs i q f ∙ ap Some ((head_is X count s b n (Fire k) t st i q w.token f w.is_taken).0 ∙ same)

          gives_next : (m : N) (i j : ℕ) → c.source m i ≡ Some (record { at = n; port = j }) → at_port st.given j ≡ one (val (X (count n)) n j)
          gives_next m i j f =
              let (sh, enters, leaves) = sp.typed.wires (record { at = m; port = i }) (record { at = n; port = j }) f in
              let taken : st.taken ≡ map one ag.vs = oe.is_taken ∙ ap (map one) (by_port oe.vs ag.vs same_length agree_at) in
              let all : st.given ≡ map one ag.ws =
              same_given (c.kind n) k 0 (s.slots n) [] (t.slots n) [] (map one ag.vs) st.given (map one ag.ws) steady
              (subst (λ z. Fires (c.kind n) k (s.slots n) z st.given (t.slots n)) taken st.acts) ag.fires in
              ap (λ z. at_port z j) all ∙ port_one ag.ws j (val (X (count n)) n j) (ag.outputs j sh leaves)

          pub fired : Slices X (bump count n) t
          fired = advance X count s b n (Fire k) t st takes_next gives_next

        no_input : (n : N) (i : ℕ) (q : Out N) → ins (c.kind n) ≡ [] → c.source n i ≡ Some q → ⊥
        no_input n i q is f =
            let (sh, enters, leaves) = sp.typed.wires (record { at = n; port = i }) q f in
            none_some None sh refl (sym (ap (λ z. port_get z i) is) ∙ enters)

        no_output : (n : N) (m : N) (i j : ℕ) → outs (c.kind n) ≡ [] → c.source m i ≡ Some (record { at = n; port = j }) → ⊥
        no_output n m i j is f =
            let (sh, enters, leaves) = sp.typed.wires (record { at = m; port = i }) (record { at = n; port = j }) f in
            none_some None sh refl (sym (ap (λ z. port_get z j) is) ∙ leaves)

        -- a token fed
        module _ (v : Token) (t : Held N) (st : PlanStep c s e (Feed v) t) (next : (X (count e)).token ≡ v) where
          feed_acts : Acts (Entry a) (Feed v) (s.slots e) st.taken st.given (t.slots e)
          feed_acts = subst (λ k. Acts k (Feed v) (s.slots e) st.taken st.given (t.slots e)) sp.entry st.acts

          gives_fed : (m : N) (i j : ℕ) → c.source m i ≡ Some (record { at = e; port = j }) → at_port st.given j ≡ one (val (X (count e)) e j)
          gives_fed m i j f =
              let (sh, enters, leaves) = sp.typed.wires (record { at = m; port = i }) (record { at = e; port = j }) f in
              let port : j ≡ 1 = single_port a sh j (sym (ap (λ k. port_get (outs k) j) sp.entry) ∙ leaves) in
              (λ l. at_port (feed_acts.2 l) (port l)) ∙ ap one (sym (sp.value (X (count e)) ∙ next)) ∙ ap (λ z. one (val (X (count e)) e z)) (sym port)

          pub fed : Slices X (bump count e) t
          fed = advance X count s b e (Feed v) t st (λ i q f. absurd (no_input e i q (ap ins sp.entry) f)) gives_fed

        -- a token taken
        module _ (n : N) (sh : Shape) (v : Token) (t : Held N) (st : PlanStep c s n (Take v) t) (exit : c.kind n ≡ Exit sh) where
          take_acts : Acts (Exit sh) (Take v) (s.slots n) st.taken st.given (t.slots n)
          take_acts = subst (λ k. Acts k (Take v) (s.slots n) st.taken st.given (t.slots n)) exit st.acts

          is_taken : (i : ℕ) (q : Out N) → c.source n i ≡ Some q → at_port st.taken i ≡ one v
          is_taken i q f =
              let (b, enters, leaves) = sp.typed.wires (record { at = n; port = i }) q f in
              let port : i ≡ 1 = single_port sh b i (sym (ap (λ k. port_get (ins k) i) exit) ∙ enters) in
              λ l. at_port (take_acts.0 l) (port l)

          pub taken_is : (i : ℕ) (q : Out N) → c.source n i ≡ Some q → (stream X q (count n) ≡ v) × (count n < count q.at)
          taken_is i q f = head_is X count s b n (Take v) t st i q v f (is_taken i q f)

          pub took_out : Slices X (bump count n) t
          took_out =
              advance X count s b n (Take v) t st (λ i q f. is_taken i q f ∙ ap one (sym (taken_is i q f).0))
              (λ m i j f. absurd (no_output n m i j (ap outs exit) f))
