-- What a circuit drains without a Buffer it drains with it: the Buffer passes on at once what comes.
use Rattle.std.proofs.Common.{◌≡◌, ◌≢◌, ℕ, inl, inr, refl, sym, ap, subst, ◌∙◌, List, [], ◌∷◌, ◌++◌, Option, Some, None}
use Rattle.std.specs.List.{AllByRecursion}
use Rattle.std.proofs.lemmas.Option.{same_Some}
use Rattle.components.specs.declared.kind.Kind.{Kind}
use Rattle.components.specs.declared.kind.Kind.TheVariants.{Entry, Exit}
use Rattle.components.specs.Name.{Name, Port}
use Rattle.circuits.specs.PortTokens.{Token, one, share, share_from}
use Rattle.circuits.specs.Circuit.{Circuit, kind_of, Typed}
use Rattle.circuits.specs.CircuitState.{CircuitState, start, initial}
use Rattle.circuits.specs.Firing.{Label.Fire}
use Rattle.circuits.specs.Run.{Step, Firing, Firings}
use Rattle.circuits.specs.Buffers.{first_port, drop_node, IsBufferLike, CanDropBuffer}
use Rattle.circuits.specs.Root.{PassesThrough}
use Rattle.circuits.specs.Drains.{Led, IsRest, put_on, loaded, IsNoExit, Drains}
use Rattle.circuits.proofs.Names.{name_cases}
use Rattle.circuits.proofs.Lists.{each_append}
use Rattle.circuits.proofs.Steps.{acts_at, share_same}
use Rattle.circuits.proofs.Simulation.{firings_then}
use Rattle.circuits.proofs.Buffers.Steps.{CanDrop, Ahead, pass, passing, passed, pass_ahead, down_to, down_step, up_to, up_step, up_ahead, level, start_ahead, kind_dropped}
use Rattle.circuits.proofs.Buffers.Circuits.{can_drop_of, in_is}
use Rattle.circuits.proofs.Buffers.Drains.{through_of, led_without, led_with, loaded_ahead}
use Rattle.circuits.proofs.Rest.Inits.{Comes, start_comes, led_comes}

none_behind : (xs ys : List Token) → xs ++ ys ≡ [] → ys ≡ []
none_behind [] ys e = e
none_behind (x ∷ xs) ys e = cc

-- a wire that nothing feeds stays empty
unfed_stays : (c : Circuit) (p : Port) → c.feeder p ≡ None → (s : CircuitState) (fs : List Firing) (t : CircuitState) → Firings c s fs t → s.wires p ≡ [] → t.wires p ≡ []
unfed_stays c p f s [] t run e = ap (λ (z : CircuitState). z.wires p) (sym run) ∙ e
unfed_stays c p f s (g ∷ fs) t run e =
    let st = run.1 in
    let between : st.between p ≡ [] = none_behind (share g.node st.taken p) (st.between p) (sym (st.takes p) ∙ e) in
    unfed_stays c p f run.0 fs t run.2 (st.gives p ∙ (λ i. between i ++ share_from g.node st.given (f i)))

module _ (c : Circuit) (b : Name) (cd : CanDropBuffer c b) (ty : Typed c) where
  can : CanDrop c b
  can = can_drop_of c b cd

  through : PassesThrough cd.kind
  through = through_of cd.kind cd.passes

  -- b keeps no slots
  slots_stay : (s : CircuitState) (fs : List Firing) (t : CircuitState) → Firings c s fs t → t.slots b ≡ s.slots b
  slots_stay s [] t run = ap (λ (z : CircuitState). z.slots b) (sym run)
  slots_stay s (f ∷ fs) t run =
      slots_stay run.0 fs t run.2
      ∙ elim (name_cases b f.node) [
        | inl is ↦
            let st : Step c s b (Fire f.choice) run.0 = subst (λ z. Step c s z (Fire f.choice) run.0) (sym is.is) run.1 in
            (can.plain.does f.choice (s.slots b) st.taken st.given (run.0.slots b) (acts_at c s b (Fire f.choice) run.0 st can.kind can.is_kind)).3
        | inr ne ↦ run.1.others b ne.is_not
      ]

  -- with nothing before it b does not fire
  waits : (s : CircuitState) → s.wires (first_port b) ≡ [] → (k : ℕ) (t : CircuitState) → Step c s b (Fire k) t → ⊥
  waits s none k t st =
      let (v, et, eg, en) = can.plain.does k (s.slots b) st.taken st.given (t.slots b) (acts_at c s b (Fire k) t st can.kind can.is_kind) in
      let holds : [] ≡ v ∷ st.between (first_port b) =
      sym none ∙ st.takes (first_port b) ∙ ap (λ z. share b z (first_port b) ++ st.between (first_port b)) et
      ∙ ap (λ z. z ++ st.between (first_port b)) (share_same b (one v ∷ []) (first_port b) refl) in
      let z : ⊥ = cc in z

  -- b fires until nothing stands before it
  record Emptied (s t : CircuitState) : Type 0 where
    to : CircuitState
    firings : List Firing
    leads : Firings c t firings to
    led : Comes c t → AllByRecursion (λ f. Led c f.node) firings
    ahead : Ahead c b s to
    empty : to.wires (first_port b) ≡ []

  emptied : (s : CircuitState) (xs : List Token) (t : CircuitState) → t.wires (first_port b) ≡ xs → Ahead c b s t → Emptied s t
  emptied s [] t e a = record { to = t; firings = []; leads = refl; led = λ h. tt; ahead = a; empty = e }
  emptied s (v ∷ vs) t e a =
      let w : CircuitState = passing c b can ty t v vs in
      let st : Step c t b (Fire 0) w = pass c b can ty t v vs e in
      let go = emptied s vs w (passed c b can ty t v vs) (pass_ahead c b can ty t 0 w st s a) in
      record {
        to = go.to;
        firings = record { node = b; choice = 0 } ∷ go.firings;
        leads = (w, st, go.leads);
        led = λ h.
            let led_b : Led c b = record { kind = cd.kind; is_kind = cd.is_kind; passes = through; comes = h (first_port b) v vs e } in
            (led_b, go.led (led_comes c t (record { node = b; choice = 0 } ∷ []) w ((led_b, tt)) ((w, st, refl)) h));
        ahead = go.ahead;
        empty = go.empty;
      }

  -- firings with b
  record More (u t : CircuitState) (fs : List Firing) : Type 0 where
    to : CircuitState
    firings : List Firing
    leads : Firings c t firings to
    led : Comes c t → AllByRecursion (λ f. Led (drop_node b c) f.node) fs → AllByRecursion (λ f. Led c f.node) firings
    ahead : Ahead c b u to
    empty : to.wires (first_port b) ≡ []

  more : (s : CircuitState) (fs : List Firing) (u t : CircuitState) → Ahead c b s t → Firings (drop_node b c) s fs u → More u t fs
  more s [] u t a run =
      let d = emptied s (t.wires (first_port b)) t refl a in
      record { to = d.to; firings = d.firings; leads = d.leads; led = λ h leds. d.led h; ahead = subst (λ z. Ahead c b z d.to) run d.ahead; empty = d.empty }
  more s (f ∷ fs) u t a run =
      let d = emptied s (t.wires (first_port b)) t refl a in
      let able : (p : Port) → p.node ≢ b → d.to.wires p ≡ share f.node run.1.taken p ++ run.1.between p = λ p away. level c b can ty s d.to d.ahead d.empty p away ∙ run.1.takes p in
      let w : CircuitState = up_to c b can s d.to d.ahead f.node (Fire f.choice) run.0 run.1 run.1.between able in
      let st : Step c d.to f.node (Fire f.choice) w = up_step c b can s d.to d.ahead f.node (Fire f.choice) run.0 run.1 run.1.between able in
      let go = more run.0 fs u w (up_ahead c b can s d.to d.ahead f.node (Fire f.choice) run.0 run.1 run.1.between able) run.2 in
      record {
        to = go.to;
        firings = d.firings ++ f ∷ go.firings;
        leads = firings_then c t d.firings d.to (f ∷ go.firings) go.to d.leads ((w, st, go.leads));
        led = λ h leds.
            let led_f : Led c f.node = led_with c b cd ty f.node leds.0 in
            let later : Comes c w = led_comes c d.to (f ∷ []) w ((led_f, tt)) ((w, st, refl)) (led_comes c t d.firings d.to (d.led h) d.leads h) in
            each_append (λ g. Led c g.node) d.firings (f ∷ go.firings) (d.led h) ((led_f, go.led later leds.1));
        ahead = go.ahead;
        empty = go.empty;
      }

  -- the state at rest
  module _ (r : CircuitState) (is : IsRest (drop_node b c) r) where
    rest_run : More r (start c) is.firings
    rest_run = more (start (drop_node b c)) is.firings r (start c) (start_ahead c b can ty) is.leads

    abbrev at_rest : CircuitState
    at_rest = rest_run.to

    stuck : (n : Name) (k : ℕ) (t : CircuitState) → Led c n → ¬ (Step c at_rest n (Fire k) t)
    stuck n k t led st =
        elim (name_cases n b) [
          | inl e ↦ waits at_rest rest_run.empty k t (subst (λ z. Step c at_rest z (Fire k) t) e.is st)
          | inr ne ↦
              is.ends n k (down_to c b can r at_rest rest_run.ahead n (Fire k) t ne.is_not st) (led_without c b cd ty n ne.is_not led)
              (down_step c b can r at_rest rest_run.ahead n (Fire k) t ne.is_not st)
        ]

    rests : IsRest c at_rest
    rests = record { firings = rest_run.firings; led = rest_run.led (start_comes c) is.led; leads = rest_run.leads; ends = stuck }

  module _ (ins outs : Name → List Token) (d : Drains (drop_node b c) ins outs) where
    go : More d.end (loaded c ins) d.firings
    go = more (loaded (drop_node b c) ins) d.firings d.end (loaded c ins) (loaded_ahead c b cd ty ins) d.leads

    abbrev rest : CircuitState
    rest = at_rest d.rest d.is_rest

    -- the nodes other than b
    same_kind : (n : Name) (k : Kind) → n ≢ b → c.kind_at n ≡ Some k → (drop_node b c).kind_at n ≡ Some k
    same_kind n k ne e = kind_dropped c b can n ne ∙ e

    not_buffer : (n : Name) (k : Kind) → ¬ (IsBufferLike k) → c.kind_at n ≡ Some k → n ≢ b
    not_buffer n k differs e is = differs (subst IsBufferLike (same_Some cd.kind k (sym cd.is_kind ∙ ap c.kind_at (sym is) ∙ e)) cd.passes)

    slots_at : (n : Name) (k : Kind) → c.kind_at n ≡ Some k → go.to.slots n ≡ []
    slots_at n k e =
        elim (name_cases n b) [
          | inl is ↦ ap go.to.slots is.is ∙ slots_stay (loaded c ins) go.firings go.to go.leads
          | inr ne ↦ sym (go.ahead.slots n ne.is_not) ∙ d.slots n k (same_kind n k ne.is_not e)
        ]

    -- the wires before b
    at_b : (p : Port) → p.node ≡ b → (o : Option Port) → c.feeder p ≡ o → go.to.wires p ≡ rest.wires p
    at_b p is None f =
        unfed_stays c p f (loaded c ins) go.firings go.to go.leads (ap (λ o. initial (kind_of c o) ++ put_on c ins o) f)
        ∙ sym (unfed_stays c p f (start c) (rest_run d.rest d.is_rest).firings rest (rest_run d.rest d.is_rest).leads (ap (λ o. initial (kind_of c o)) f))
    at_b p is (Some q) f =
        let here : p ≡ first_port b = in_is c b can ty p q f is in
        ap go.to.wires here ∙ go.empty ∙ sym (ap rest.wires here ∙ (rest_run d.rest d.is_rest).empty)

    others_at : (p : Port) (k : Kind) → c.kind_at p.node ≡ Some k → IsNoExit k → go.to.wires p ≡ rest.wires p
    others_at p k e no_x =
        elim (name_cases p.node b) [
          | inl is ↦ at_b p is.is (c.feeder p) refl
          | inr ne ↦
              level c b can ty d.end go.to go.ahead go.empty p ne.is_not ∙ d.others p k (same_kind p.node k ne.is_not e) no_x
              ∙ sym (level c b can ty d.rest rest (rest_run d.rest d.is_rest).ahead (rest_run d.rest d.is_rest).empty p ne.is_not)
        ]

    -- what c drains without b, it drains with it
    pub drains_with : Drains c ins outs
    drains_with =
        record {
          fit_in = λ n a e. d.fit_in n a (same_kind n (Entry a) (not_buffer n (Entry a) (λ h. h) e) e);
          fit_out = λ n a e. d.fit_out n a (same_kind n (Exit a) (not_buffer n (Exit a) (λ h. h) e) e);
          rest = rest;
          is_rest = rests d.rest d.is_rest;
          firings = go.firings;
          end = go.to;
          leads = go.leads;
          slots = slots_at;
          exits = λ n a e.
              let away : n ≢ b = not_buffer n (Exit a) (λ h. h) e in
              level c b can ty d.end go.to go.ahead go.empty (first_port n) away ∙ d.exits n a (same_kind n (Exit a) away e);
          others = others_at;
        }
