-- What a circuit drains it drains without a Buffer.
use Rattle.std.proofs.Common.{◌≡◌, ◌≢◌, inl, inr, refl, sym, ap, subst, ◌∙◌, if◌then◌else◌, List, [], ◌∷◌, ◌++◌, Option, Some, None, append-nil}
use Rattle.std.specs.List.{AllByRecursion}
use Rattle.std.proofs.lemmas.Option.{same_Some}
use Rattle.components.specs.declared.kind.Kind.{Kind}
use Rattle.components.specs.declared.kind.Kind.TheVariants.{Entry, Exit, Buffer, Fork}
use Rattle.components.specs.Name.{Name, Port}
use Rattle.circuits.specs.PortTokens.{Token, share}
use Rattle.circuits.specs.Circuit.{Circuit, kind_of, Typed}
use Rattle.circuits.specs.CircuitState.{CircuitState, start, initial}
use Rattle.circuits.specs.Firing.{Label.Fire}
use Rattle.circuits.specs.Run.{Step, Firing, Firings}
use Rattle.circuits.specs.Buffers.{first_port, bypass, drop_node, IsBufferLike, CanDropBuffer}
use Rattle.circuits.specs.Root.{PassesThrough, Root, Root.here, Root.past}
use Rattle.circuits.specs.Drains.{Led, IsRest, put_by, put_on, loaded, IsNoExit, Drains}
use Rattle.circuits.proofs.Names.{name_cases}
use Rattle.circuits.proofs.Buffers.Steps.{CanDrop, Ahead, held, pass, pass_ahead, down_to, down_step, down_ahead, up_to, up_step, level, start_ahead, kind_dropped, feeder_dropped}
use Rattle.circuits.proofs.Buffers.Circuits.{Fed, Fed.straight, Fed.across, fed, fed_straight, fed_across, node_kept, kind_kept, can_drop_of}
use Rattle.circuits.proofs.Rest.Inits.{init_stays, rest_comes}

pub through_of : (k : Kind) → IsBufferLike k → PassesThrough k
through_of (Buffer _) h = tt
through_of (Fork _ _) h = tt
through_of _ h = absurd h

pub no_exit : (k : Kind) → IsBufferLike k → IsNoExit k
no_exit (Buffer _) h = tt
no_exit (Fork _ _) h = tt
no_exit _ h = absurd h

module _ (c : Circuit) (b : Name) (cd : CanDropBuffer c b) (ty : Typed c) where
  can : CanDrop c b
  can = can_drop_of c b cd

  through : PassesThrough cd.kind
  through = through_of cd.kind cd.passes

  -- at rest nothing stands before b
  rest_empty_at : (r : CircuitState) → IsRest c r → (xs : List Token) → r.wires (first_port b) ≡ xs → r.wires (first_port b) ≡ []
  rest_empty_at r is [] e = e
  rest_empty_at r is (v ∷ vs) e =
      let led : Led c b = record { kind = cd.kind; is_kind = cd.is_kind; passes = through; comes = rest_comes c r is (first_port b) v vs e } in
      absurd (is.ends b 0 _ led (pass c b can ty r v vs e))

  rest_empty : (r : CircuitState) → IsRest c r → r.wires (first_port b) ≡ []
  rest_empty r is = rest_empty_at r is (r.wires (first_port b)) refl

  root_away : (n : Name) (k : Kind) → c.kind_at n ≡ Some k → (PassesThrough k → ⊥) → n ≢ b
  root_away n k e stays is =
      stays (subst PassesThrough (same_Some cd.kind k (sym cd.is_kind ∙ ap c.kind_at (sym is) ∙ e)) through)

  -- without b an input has the root that it had
  record Short (s q : Port) : Type 0 where
    from : s.node ≢ b → Root (drop_node b c) s q
    over : s ≡ first_port b → (p : Port) → (drop_node b c).feeder p ≡ c.feeder (first_port b) → Root (drop_node b c) p q

  short : (s q : Port) → Root c s q → Short s q
  short s q (here k f e stays) =
      let ne : q.node ≢ b = root_away q.node k e stays in
      record {
        from = λ away. here k (fed_straight c b can ty s q away f ne) (kind_dropped c b can q.node ne ∙ e) stays;
        over = λ is p g. here k (g ∙ ap c.feeder (sym is) ∙ f) (kind_dropped c b can q.node ne ∙ e) stays;
      }
  short s q (past r k f e passes more) =
      let go = short (first_port r.node) q more in
      record {
        from = λ away.
            elim (name_cases r.node b) [
              | inl is ↦ go.over (λ i. first_port (is.is i)) s (fed_across c b can ty s r away f is.is)
              | inr ne ↦ past r k (fed_straight c b can ty s r away f ne.is_not) (kind_dropped c b can r.node ne.is_not ∙ e) passes (go.from ne.is_not)
            ];
        over = λ is p g.
            let first : r ≡ can.before = same_Some r can.before (sym f ∙ ap c.feeder is ∙ can.is_before) in
            let ne : r.node ≢ b = λ x. can.other (ap (λ (z : Port). z.node) (sym first) ∙ x) in
            past r k (g ∙ ap c.feeder (sym is) ∙ f) (kind_dropped c b can r.node ne ∙ e) passes (go.from ne);
      }

  root_kept : (n : Name) (q : Port) → Root c (first_port n) q → (k : Kind) → c.kind_at q.node ≡ Some k → (PassesThrough k → ⊥) → (drop_node b c).kind_at q.node ≡ Some k
  root_kept n q h k e stays = kind_dropped c b can q.node (root_away q.node k e stays) ∙ e

  pub led_without : (n : Name) → n ≢ b → Led c n → Led (drop_node b c) n
  led_without n ne led =
      let from = led.comes in
      record {
        kind = led.kind;
        is_kind = kind_dropped c b can n ne ∙ led.is_kind;
        passes = led.passes;
        comes =
            record {
              root = from.root;
              is_root = (short (first_port n) from.root from.is_root).from ne;
              source = from.source;
              is_source = root_kept n from.root from.is_root from.source from.is_source (init_stays from.source from.is_init);
              is_init = from.is_init;
            };
      }

  -- and the other way round
  through_b : (p r q : Port) → c.feeder p ≡ Some r → r.node ≡ b → Root c (first_port b) q → Root c p q
  through_b p r q f is h = past r cd.kind f (ap c.kind_at is ∙ cd.is_kind) through (subst (λ z. Root c (first_port z) q) (sym is) h)

  long_here : (p q : Port) (k : Kind) → Fed c b p q → c.kind_at q.node ≡ Some k → (PassesThrough k → ⊥) → Root c p q
  long_here p q k (straight f ne) e stays = here k f e stays
  long_here p q k (across r f is g) e stays = through_b p r q f is (here k g e stays)

  long_past : (p r q : Port) (k : Kind) → Fed c b p r → c.kind_at r.node ≡ Some k → PassesThrough k → Root c (first_port r.node) q → Root c p q
  long_past p r q k (straight f ne) e passes more = past r k f e passes more
  long_past p r q k (across s f is g) e passes more = through_b p s q f is (past r k g e passes more)

  long : (p q : Port) → Root (drop_node b c) p q → Root c p q
  long p q (here k f e stays) = long_here p q k (fed c b can ty p q f) (kind_kept c b can ty q.node k e) stays
  long p q (past r k f e passes more) = long_past p r q k (fed c b can ty p r f) (kind_kept c b can ty r.node k e) passes (long (first_port r.node) q more)

  pub led_with : (n : Name) → Led (drop_node b c) n → Led c n
  led_with n led =
      let from = led.comes in
      record {
        kind = led.kind;
        is_kind = kind_kept c b can ty n led.kind led.is_kind;
        passes = led.passes;
        comes =
            record {
              root = from.root;
              is_root = long (first_port n) from.root from.is_root;
              source = from.source;
              is_source = kind_kept c b can ty from.root.node from.source from.is_source;
              is_init = from.is_init;
            };
      }

  -- firings without b
  record Fewer (s : CircuitState) (fs : List Firing) (t : CircuitState) : Type 0 where
    to : CircuitState
    firings : List Firing
    leads : Firings (drop_node b c) s firings to
    ahead : Ahead c b to t
    led : AllByRecursion (λ f. Led c f.node) fs → AllByRecursion (λ f. Led (drop_node b c) f.node) firings

  fewer : (s t : CircuitState) (fs : List Firing) (u : CircuitState) → Ahead c b s t → Firings c t fs u → Fewer s fs u
  fewer s t [] u a run = record { to = s; firings = []; leads = refl; ahead = subst (Ahead c b s) run a; led = λ h. tt }
  fewer s t (f ∷ fs) u a run =
      elim (name_cases f.node b) [
        | inl is ↦
            let go = fewer s run.0 fs u (pass_ahead c b can ty t f.choice run.0 (subst (λ z. Step c t z (Fire f.choice) run.0) is.is run.1) s a) run.2 in
            record { to = go.to; firings = go.firings; leads = go.leads; ahead = go.ahead; led = λ h. go.led h.1 }
        | inr ne ↦
            let x : CircuitState = down_to c b can s t a f.node (Fire f.choice) run.0 ne.is_not run.1 in
            let go = fewer x run.0 fs u (down_ahead c b can s t a f.node (Fire f.choice) run.0 ne.is_not run.1) run.2 in
            record {
              to = go.to;
              firings = f ∷ go.firings;
              leads = (x, down_step c b can s t a f.node (Fire f.choice) run.0 ne.is_not run.1, go.leads);
              ahead = go.ahead;
              led = λ h. (led_without f.node ne.is_not h.0, go.led h.1);
            }
      ]

  -- the state at rest
  rest_without : (r : CircuitState) → IsRest c r → (q : CircuitState) × IsRest (drop_node b c) q × Ahead c b q r
  rest_without r is =
      let go = fewer (start (drop_node b c)) (start c) is.firings r (start_ahead c b can ty) is.leads in (
        go.to,
        record {
          firings = go.firings;
          led = go.led is.led;
          leads = go.leads;
          ends = λ n k t led st.
              let able : (p : Port) → p.node ≢ b → r.wires p ≡ share n st.taken p ++ st.between p = λ p away. level c b can ty go.to r go.ahead (rest_empty r is) p away ∙ st.takes p in
              is.ends n k (up_to c b can go.to r go.ahead n (Fire k) t st st.between able) (led_with n led) (up_step c b can go.to r go.ahead n (Fire k) t st st.between able);
        },
        go.ahead,
      )

  -- what is put in
  holds : Circuit → (Name → List Token) → Option Port → List Token
  holds d ins o = initial (kind_of d o) ++ put_on d ins o

  held_alike : (ins : Name → List Token) (q : Port) → q.node ≢ b → holds (drop_node b c) ins (Some q) ≡ holds c ins (Some q)
  unfolding holds
  held_alike ins q ne = ap (λ k. initial k ++ put_by ins k q.node) (kind_dropped c b can q.node ne)

  none_by_kind : (ins : Name → List Token) (k : Kind) → IsBufferLike k → initial (Some k) ++ put_by ins (Some k) b ≡ []
  none_by_kind ins (Buffer _) h = refl
  none_by_kind ins (Fork _ _) h = refl
  none_by_kind ins _ h = absurd h

  none_by_b : (ins : Name → List Token) (q : Port) → q.node ≡ b → holds c ins (Some q) ≡ []
  unfolding holds
  none_by_b ins q is =
      ap (λ z. initial (c.kind_at z) ++ put_by ins (c.kind_at z) z) is ∙ ap (λ k. initial k ++ put_by ins k b) cd.is_kind ∙ none_by_kind ins cd.kind cd.passes

  loaded_at : (ins : Name → List Token) (o : Option Port) → holds (drop_node b c) ins (bypass b (c.feeder (first_port b)) o) ≡ holds c ins o ++ held b (loaded c ins) o
  unfolding holds
  loaded_at ins None = refl
  loaded_at ins (Some q) =
      elim (name_cases q.node b) [
        | inl is ↦
            ap (λ z. holds (drop_node b c) ins (if z then c.feeder (first_port b) else Some q)) is.test
            ∙ ap (holds (drop_node b c) ins) cd.is_before ∙ held_alike ins cd.before cd.other
            ∙ sym (ap (λ z. z ++ held b (loaded c ins) (Some q)) (none_by_b ins q is.is)
            ∙ ap (λ z. if z then (loaded c ins).wires (first_port b) else []) is.test
            ∙ ap (holds c ins) cd.is_before)
        | inr ne ↦
            ap (λ z. holds (drop_node b c) ins (if z then c.feeder (first_port b) else Some q)) ne.test
            ∙ held_alike ins q ne.is_not ∙ sym (append-nil (holds c ins (Some q)))
            ∙ ap (λ z. holds c ins (Some q) ++ (if z then (loaded c ins).wires (first_port b) else [])) (sym ne.test)
      ]

  pub loaded_ahead : (ins : Name → List Token) → Ahead c b (loaded (drop_node b c) ins) (loaded c ins)
  unfolding holds loaded_at
  loaded_ahead ins =
      record {
        wires = λ p away. ap (holds (drop_node b c) ins) (feeder_dropped c b can p away) ∙ loaded_at ins (c.feeder p);
        slots = λ n away. refl;
      }

  -- what c drains, it drains without b
  pub drains_without : (ins outs : Name → List Token) → Drains c ins outs → Drains (drop_node b c) ins outs
  drains_without ins outs d =
      let (r, is_rest, ar) = rest_without d.rest d.is_rest in
      let go = fewer (loaded (drop_node b c) ins) (loaded c ins) d.firings d.end (loaded_ahead ins) d.leads in
      let none : d.rest.wires (first_port b) ≡ [] = rest_empty d.rest d.is_rest in
      let empty : d.end.wires (first_port b) ≡ [] = d.others (first_port b) cd.kind cd.is_kind (no_exit cd.kind cd.passes) ∙ none in
      record {
        fit_in = λ n a e. d.fit_in n a (kind_kept c b can ty n (Entry a) e);
        fit_out = λ n a e. d.fit_out n a (kind_kept c b can ty n (Exit a) e);
        rest = r;
        is_rest = is_rest;
        firings = go.firings;
        end = go.to;
        leads = go.leads;
        slots = λ n k e. go.ahead.slots n (node_kept c b can ty n k e) ∙ d.slots n k (kind_kept c b can ty n k e);
        exits = λ n a e.
            sym (level c b can ty go.to d.end go.ahead empty (first_port n) (node_kept c b can ty n (Exit a) e)) ∙ d.exits n a (kind_kept c b can ty n (Exit a) e);
        others = λ p k e no_x.
            let away = node_kept c b can ty p.node k e in
            sym (level c b can ty go.to d.end go.ahead empty p away)
            ∙ d.others p k (kind_kept c b can ty p.node k e) no_x
            ∙ level c b can ty r d.rest ar none p away;
      }
