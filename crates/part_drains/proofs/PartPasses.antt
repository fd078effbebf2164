-- What a part passes by itself it passes in any circuit.
use Rattle.std.proofs.Common.{◌≡◌, ◌≢◌, ℕ, refl, sym, ap, subst, ◌∙◌, true, false, Bool, if◌then◌else◌, List, [], ◌∷◌, ◌++◌, Option, Some, None, append-nil, append_assoc}
use Rattle.components.specs.Kind.{Shape, ins, outs}
use Rattle.components.specs.Name.{Name, Port, port_get}
use Rattle.components.specs.declared.kind.Kind.{Kind}
use Rattle.components.specs.declared.kind.Kind.TheVariants.{Entry, Exit, Init}
use Rattle.circuits.specs.PortTokens.{Token, share, share_from}
use Rattle.circuits.specs.Firing.{Acts, Label.Fire}
use Rattle.circuits.specs.CircuitState.{Slot, CircuitState, initial}
use Rattle.circuits.specs.Circuit.{Circuit, kind_of}
use Rattle.circuits.specs.Run.{Step, Firing, Firings}
use Rattle.circuits.specs.Drains.{loaded, put_on, put_by, IsNoExit}
use Rattle.circuits.specs.Replacing.{is_inner, IsPart}
use Rattle.circuits.proofs.Steps.{share_other}
use Rattle.circuits.proofs.Beside.{none_some}
use Rattle.std.proofs.lemmas.Option.{same_Some}
use Rattle.part_drains.specs.Part.{HasNoInit}
use Rattle.part_drains.specs.Passing.{Passes, IsIdle, with_inputs, at_exit, given_by, with_outputs}
use Rattle.part_drains.proofs.Sorts.{single_port}
use Rattle.part_drains.proofs.Untouched.{fires_listed}

true_not_false : true ≡ false → ⊥
true_not_false e = cc

pub inner_some : (o : Option Kind) → is_inner o ≡ true → (k : Kind) × (o ≡ Some k)
inner_some None e = absurd (true_not_false (sym e))
inner_some (Some k) e = (k, refl)

-- a kind that is not inner is an Entry or an Exit
outer_exit : (k : Kind) (a : Shape) (i : ℕ) → is_inner (Some k) ≡ false → port_get (ins k) i ≡ Some a → (b : Shape) × (k ≡ Exit b)
outer_exit (Entry b) a i e f = absurd (none_some None a refl f)
outer_exit (Exit b) a i e f = (b, refl)
outer_exit _ a i e f = absurd (true_not_false e)

pub inner_no_exit : (k : Kind) → is_inner (Some k) ≡ true → IsNoExit k
inner_no_exit (Exit a) e = absurd (true_not_false (sym e))
inner_no_exit _ e = tt

pub inner_unfed : (ins : Name → List Token) (k : Kind) (n : Name) → is_inner (Some k) ≡ true → put_by ins (Some k) n ≡ []
inner_unfed ins (Entry a) n e = absurd (true_not_false (sym e))
inner_unfed ins _ n e = refl

pub no_init_empty : (k : Kind) → ((v m : ℕ) → k ≡ Init v m → ⊥) → initial (Some k) ≡ []
no_init_empty (Init v m) h = absurd (h v m refl)
no_init_empty _ h = refl

module _ (g part : Circuit) (target : Port → Option Port) (h : IsPart g part target) (u : CircuitState) where
  abbrev inside : Name → Bool
  inside n = is_inner (part.kind_at n)

  abbrev inside_of : Option Port → Bool
  inside_of None = false
  inside_of (Some q) = inside q.node

  -- the wire of the part that a wire of the circuit is: one into a listed node, or one that leads out of the part
  abbrev led_out : Option Port → Option Port
  led_out None = None
  led_out (Some q) = if inside q.node then target q else None

  abbrev shadow : Port → Option Port
  shadow p = if inside p.node then Some p else led_out (g.feeder p)

  -- what stands behind the part's tokens on a wire into a listed node
  abbrev behind_of : Port → Option Port → List Token
  behind_of p None = u.wires p
  behind_of p (Some q) = if inside q.node then [] else u.wires p

  abbrev framed : Port → Bool → Option Port → (Port → List Token) → List Token
  framed p true o f = f p ++ behind_of p (part.feeder p)
  framed p false None f = u.wires p
  framed p false (Some r) f = u.wires p ++ f r

  abbrev frame_wires : (Port → List Token) → Port → List Token
  frame_wires f p = framed p (inside p.node) (led_out (g.feeder p)) f

  abbrev frame : CircuitState → CircuitState
  frame s = record { wires = frame_wires s.wires; slots = λ n. if inside n then s.slots n else u.slots n }

  -- an output of a listed node that leads out goes to an Exit of the part
  record LedOut (p q r : Port) : Type 0 where
    feeds : part.feeder r ≡ Some q
    shape : Shape
    exit : part.kind_at r.node ≡ Some (Exit shape)
    port : r.port ≡ 1

  exit_at : (p q r : Port) → inside p.node ≡ false → g.feeder p ≡ Some q → inside q.node ≡ true → target q ≡ Some r → LedOut p q r
  exit_at p q r out f in_q t =
      let feeds : part.feeder r ≡ Some q = (h.target_is r q).1 t in
      let w = h.part.wires r q feeds in
      let outer : is_inner (Some w.to) ≡ false = outer_at (inside r.node) refl feeds w.is_to in
      let (b, is) = outer_exit w.to w.shape r.port outer w.enters in
      record { feeds = feeds; shape = b; exit = w.is_to ∙ ap Some is; port = single_port b w.shape r.port (sym (ap (λ k. port_get (ins k) r.port) is) ∙ w.enters) }
    where
      outer_at : (z : Bool) → inside r.node ≡ z → part.feeder r ≡ Some q → {k : Kind} → part.kind_at r.node ≡ Some k → is_inner (Some k) ≡ false
      outer_at true e feeds ek =
          let same : r ≡ p = h.whole.once r p q ((h.wires r q e in_q).1 feeds) f in
          absurd (true_not_false (sym e ∙ ap (λ (z : Port). inside z.node) same ∙ out))
      outer_at false e feeds ek = sym (ap is_inner ek) ∙ e

  module _ (s : CircuitState) (n : Name) (k : ℕ) (t : CircuitState) (st : Step part s n (Fire k) t) where
    is_in : inside n ≡ true
    is_in = ap is_inner st.is_kind ∙ fires_listed st.kind k (s.slots n) st.taken st.given (t.slots n) st.acts

    not_n : (m : Name) → inside m ≡ false → m ≢ n
    not_n m e is = true_not_false (sym is_in ∙ sym (ap inside is) ∙ e)

    takes_at : (p : Port) (z : Bool) (o : Option Port) → inside p.node ≡ z → led_out (g.feeder p) ≡ o → framed p z o s.wires ≡ share n st.taken p ++ framed p z o st.between
    takes_at p true o e f =
        ap (λ w. w ++ behind_of p (part.feeder p)) (st.takes p) ∙ append_assoc (share n st.taken p) (st.between p) (behind_of p (part.feeder p))
    takes_at p false None e f = ap (λ w. w ++ u.wires p) (sym (share_other n st.taken p (not_n p.node e)))
    takes_at p false (Some r) e f =
        let none : share n st.taken r ≡ [] = share_other n st.taken r (not_n r.node (led_outer (g.feeder p) refl f)) in
        ap (λ w. u.wires p ++ w) (st.takes r ∙ ap (λ w. w ++ st.between r) none)
        ∙ ap (λ w. w ++ (u.wires p ++ st.between r)) (sym (share_other n st.taken p (not_n p.node e)))
      where
        led_outer : (o : Option Port) → g.feeder p ≡ o → led_out o ≡ Some r → inside r.node ≡ false
        led_outer None g1 g2 = absurd (none_some None r refl g2)
        led_outer (Some q) g1 g2 = led_at (inside q.node) refl
          where
            led_at : (y : Bool) → inside q.node ≡ y → inside r.node ≡ false
            led_at true in_q =
                let to : target q ≡ Some r = ap (λ b. if b then target q else None) (sym in_q) ∙ g2 in
                ap is_inner (exit_at p q r e g1 in_q to).exit
            led_at false in_q = absurd (none_some None r refl (ap (λ b. if b then target q else None) (sym in_q) ∙ g2))

    none_from : (o : Option Port) → ((q : Port) → o ≡ Some q → q.node ≡ n → ⊥) → share_from n st.given o ≡ []
    none_from None no_feed = refl
    none_from (Some q) no_feed = share_other n st.given q (no_feed q refl)

    -- the wire of the part is that of the circuit
    same_feed : (p q : Port) → inside p.node ≡ true → g.feeder p ≡ Some q → q.node ≡ n → part.feeder p ≡ Some q
    same_feed p q e f is = (h.wires p q e (ap inside is ∙ is_in)).0 f

    inner_gives : (p : Port) → inside p.node ≡ true → (a : Option Port) → part.feeder p ≡ a → (y : Bool) → (inside_of a ≡ y) → (st.between p ++ share_from n st.given a) ++ behind_of p a ≡ (st.between p ++ behind_of p a) ++ share_from n st.given (g.feeder p)
    inner_gives p e None f y g1 =
        ap (λ w. w ++ u.wires p) (append-nil (st.between p)) ∙ sym (append-nil (st.between p ++ u.wires p))
        ∙ ap (λ w. (st.between p ++ u.wires p) ++ w) (sym (none_from (g.feeder p) (λ q f2 is. none_some None q refl (sym f ∙ same_feed p q e f2 is))))
    inner_gives p e (Some q) f true in_q =
        ap (λ b. (st.between p ++ share n st.given q) ++ (if b then [] else u.wires p)) in_q ∙ append-nil (st.between p ++ share n st.given q)
        ∙ ap (λ w. w ++ share n st.given q) (sym (append-nil (st.between p)) ∙ ap (λ b. st.between p ++ (if b then [] else u.wires p)) (sym in_q))
        ∙ ap (λ o. (st.between p ++ behind_of p (Some q)) ++ share_from n st.given o) (sym ((h.wires p q e in_q).1 f))
    inner_gives p e (Some q) f false out_q =
        let mine : share n st.given q ≡ [] = share_other n st.given q (not_n q.node out_q) in
        ap (λ w. (st.between p ++ w) ++ behind_of p (Some q)) mine ∙ ap (λ w. w ++ behind_of p (Some q)) (append-nil (st.between p))
        ∙ sym (append-nil (st.between p ++ behind_of p (Some q)))
        ∙ ap (λ w. (st.between p ++ behind_of p (Some q)) ++ w) (sym (none_from (g.feeder p) (λ r f2 is. not_n q.node out_q (ap (λ (z : Port). z.node) (same_Some q r (sym f ∙ same_feed p r e f2 is)) ∙ is))))

    -- each output of a listed node feeds something in the part
    has_target : (p q : Port) → g.feeder p ≡ Some q → q.node ≡ n → (r : Port) × (target q ≡ Some r)
    has_target p q f is =
        let w = h.whole.wires p q f in
        let in_part : part.kind_at q.node ≡ Some st.kind = ap part.kind_at is ∙ st.is_kind in
        let source : w.from ≡ st.kind = same_Some w.from st.kind (sym w.is_from ∙ h.nodes q.node st.kind in_part (fires_listed st.kind k (s.slots n) st.taken st.given (t.slots n) st.acts)) in
        let (r, feeds) = h.part.outputs q st.kind w.shape in_part (ap (λ z. port_get (outs z) q.port) (sym source) ∙ w.leaves) in
        (r, (h.target_is r q).0 feeds)

    no_way : (p : Port) → (o : Option Port) → g.feeder p ≡ o → led_out o ≡ None → share_from n st.given o ≡ []
    no_way p o f none =
        none_from o (λ q is_q is.
        let (r, to) = has_target p q (f ∙ is_q) is in
        none_some (led_out o) r none (ap led_out is_q ∙ ap (λ b. if b then target q else None) (ap inside is ∙ is_in) ∙ to))

    out_gives : (p r : Port) → inside p.node ≡ false → (o : Option Port) → g.feeder p ≡ o → led_out o ≡ Some r → (y : Bool) → inside_of o ≡ y → share_from n st.given (part.feeder r) ≡ share_from n st.given o
    out_gives p r e None f to y g1 = absurd (none_some None r refl to)
    out_gives p r e (Some q) f to true in_q =
        ap (share_from n st.given) (exit_at p q r e f in_q (ap (λ b. if b then target q else None) (sym in_q) ∙ to)).feeds
    out_gives p r e (Some q) f to false out_q = absurd (none_some None r refl (ap (λ b. if b then target q else None) (sym out_q) ∙ to))

    gives_at : (p : Port) (z : Bool) (o : Option Port) → inside p.node ≡ z → led_out (g.feeder p) ≡ o → framed p z o t.wires ≡ framed p z o st.between ++ share_from n st.given (g.feeder p)
    gives_at p true o e f = ap (λ w. w ++ behind_of p (part.feeder p)) (st.gives p) ∙ inner_gives p e (part.feeder p) refl (inside_of (part.feeder p)) refl
    gives_at p false None e f = sym (append-nil (u.wires p)) ∙ ap (λ w. u.wires p ++ w) (sym (no_way p (g.feeder p) refl f))
    gives_at p false (Some r) e f =
        ap (λ w. u.wires p ++ w) (st.gives r ∙ ap (λ w. st.between r ++ w) (out_gives p r e (g.feeder p) refl f (inside_of (g.feeder p)) refl))
        ∙ sym (append_assoc (u.wires p) (st.between r) (share_from n st.given (g.feeder p)))

    frame_step : Step g (frame s) n (Fire k) (frame t)
    frame_step =
        record {
          kind = st.kind;
          is_kind = h.nodes n st.kind st.is_kind (fires_listed st.kind k (s.slots n) st.taken st.given (t.slots n) st.acts);
          taken = st.taken;
          given = st.given;
          acts = subst (λ b. Acts st.kind (Fire k) (if b then s.slots n else u.slots n) st.taken st.given (if b then t.slots n else u.slots n)) (sym is_in) st.acts;
          between = frame_wires st.between;
          takes = λ p. takes_at p (inside p.node) (led_out (g.feeder p)) refl refl;
          gives = λ p. gives_at p (inside p.node) (led_out (g.feeder p)) refl refl;
          others = λ m ne. ap (λ z. if inside m then z else u.slots m) (st.others m ne);
        }

  frame_firings : (s : CircuitState) (fs : List Firing) (t : CircuitState) → Firings part s fs t → Firings g (frame s) fs (frame t)
  frame_firings s [] t r = ap frame r
  frame_firings s (f ∷ fs) t r = (frame r.0, frame_step s f.node f.choice r.0 r.1, frame_firings r.0 fs t r.2)

  module _ (ins outs_of : Name → List Token) (quiet : HasNoInit part) (idle : IsIdle part u) (passes : Passes part ins outs_of) where
    begins_empty : (o : Option Port) → initial (kind_of part o) ≡ []
    begins_empty None = refl
    begins_empty (Some q) = empty_kind (part.kind_at q.node) refl
      where
        empty_kind : (o : Option Kind) → part.kind_at q.node ≡ o → initial o ≡ []
        empty_kind None e = refl
        empty_kind (Some k) e = no_init_empty k (λ v m is. quiet q.node v m (e ∙ ap Some is))

    unfed : (q : Port) → inside q.node ≡ true → put_on part ins (Some q) ≡ []
    unfed q e = let (k, is) = inner_some (part.kind_at q.node) e in ap (λ o. put_by ins o q.node) is ∙ inner_unfed ins k q.node (ap is_inner (sym is) ∙ e)

    inner_begins : (p : Port) → inside p.node ≡ true → (a : Option Port) → part.feeder p ≡ a → (y : Bool) → inside_of a ≡ y → put_on part ins a ++ behind_of p a ≡ put_on part ins a ++ u.wires p
    inner_begins p e None f y g1 = refl
    inner_begins p e (Some q) f true in_q =
        ap (λ w. put_on part ins (Some q) ++ w) (ap (λ b. if b then [] else u.wires p) in_q ∙ sym (idle.wires p q f e in_q))
    inner_begins p e (Some q) f false out_q = ap (λ b. put_on part ins (Some q) ++ (if b then [] else u.wires p)) out_q

    begins_at : (p : Port) (z : Bool) (o : Option Port) → inside p.node ≡ z → led_out (g.feeder p) ≡ o → framed p z o (loaded part ins).wires ≡ (if z then put_on part ins (part.feeder p) else []) ++ u.wires p
    begins_at p true o e f =
        ap (λ w. (w ++ put_on part ins (part.feeder p)) ++ behind_of p (part.feeder p)) (begins_empty (part.feeder p))
        ∙ inner_begins p e (part.feeder p) refl (inside_of (part.feeder p)) refl
    begins_at p false None e f = refl
    begins_at p false (Some r) e f = led_empty (g.feeder p) refl f (inside_of (g.feeder p)) refl
      where
        led_empty : (o : Option Port) → g.feeder p ≡ o → led_out o ≡ Some r → (y : Bool) → inside_of o ≡ y → u.wires p ++ (loaded part ins).wires r ≡ u.wires p
        led_empty None f1 to y g1 = absurd (none_some None r refl to)
        led_empty (Some q) f1 to true in_q =
            let x = exit_at p q r e f1 in_q (ap (λ b. if b then target q else None) (sym in_q) ∙ to) in
            ap (λ w. u.wires p ++ (w ++ put_on part ins (part.feeder r))) (begins_empty (part.feeder r)) ∙ ap (λ o. u.wires p ++ put_on part ins o) x.feeds
            ∙ ap (λ w. u.wires p ++ w) (unfed q in_q) ∙ append-nil (u.wires p)
        led_empty (Some q) f1 to false out_q = absurd (none_some None r refl (ap (λ b. if b then target q else None) (sym out_q) ∙ to))

    slots_at : (n : Name) (z : Bool) → inside n ≡ z → (f : Name → List Slot) → (inside n ≡ true → f n ≡ []) → (if z then f n else u.slots n) ≡ u.slots n
    slots_at n true e f none = none e ∙ sym (idle.slots n e)
    slots_at n false e f none = refl

    begins : frame (loaded part ins) ≡ with_inputs part ins u
    begins =
        λ i. record {
          wires = λ p. begins_at p (inside p.node) (led_out (g.feeder p)) refl refl i;
          slots = λ n. slots_at n (inside n) refl (λ n. []) (λ e. refl) i;
        }

    end_empty : (p : Port) → inside p.node ≡ true → passes.end.wires p ≡ []
    end_empty p e = let (k, is) = inner_some (part.kind_at p.node) e in passes.others p k is (inner_no_exit k (ap is_inner (sym is) ∙ e))

    inner_ends : (p : Port) → inside p.node ≡ true → (a : Option Port) → part.feeder p ≡ a → (y : Bool) → inside_of a ≡ y → behind_of p a ≡ u.wires p
    inner_ends p e None f y g1 = refl
    inner_ends p e (Some q) f true in_q = ap (λ b. if b then [] else u.wires p) in_q ∙ sym (idle.wires p q f e in_q)
    inner_ends p e (Some q) f false out_q = ap (λ b. if b then [] else u.wires p) out_q

    ends_at : (p : Port) (z : Bool) (o : Option Port) → inside p.node ≡ z → led_out (g.feeder p) ≡ o → framed p z o passes.end.wires ≡ u.wires p ++ (if z then [] else given_by part target outs_of (g.feeder p))
    ends_at p true o e f =
        ap (λ w. w ++ behind_of p (part.feeder p)) (end_empty p e) ∙ inner_ends p e (part.feeder p) refl (inside_of (part.feeder p)) refl ∙ sym (append-nil (u.wires p))
    ends_at p false o e f = led_ends (g.feeder p) refl o f (inside_of (g.feeder p)) refl
      where
        led_ends : (a : Option Port) → g.feeder p ≡ a → (o : Option Port) → led_out a ≡ o → (y : Bool) → inside_of a ≡ y → framed p false o passes.end.wires ≡ u.wires p ++ given_by part target outs_of a
        led_ends None f1 None to y g1 = sym (append-nil (u.wires p))
        led_ends None f1 (Some r) to y g1 = absurd (none_some None r refl to)
        led_ends (Some q) f1 None to true in_q =
            let none : target q ≡ None = ap (λ b. if b then target q else None) (sym in_q) ∙ to in
            sym (append-nil (u.wires p)) ∙ ap (λ w. u.wires p ++ w) (sym (ap (λ b. if b then at_exit outs_of (target q) else []) in_q ∙ ap (at_exit outs_of) none))
        led_ends (Some q) f1 (Some r) to true in_q =
            let is_to : target q ≡ Some r = ap (λ b. if b then target q else None) (sym in_q) ∙ to in
            let x = exit_at p q r e f1 in_q is_to in
            let token : passes.end.wires r ≡ outs_of r.node = ap passes.end.wires (λ j. record { node = r.node; port = x.port j }) ∙ passes.exits r.node x.shape x.exit in
            ap (λ w. u.wires p ++ w) (token ∙ sym (ap (λ b. if b then at_exit outs_of (target q) else []) in_q ∙ ap (at_exit outs_of) is_to))
        led_ends (Some q) f1 None to false out_q =
            sym (append-nil (u.wires p)) ∙ ap (λ w. u.wires p ++ w) (sym (ap (λ b. if b then at_exit outs_of (target q) else []) out_q))
        led_ends (Some q) f1 (Some r) to false out_q = absurd (none_some None r refl (ap (λ b. if b then target q else None) (sym out_q) ∙ to))

    end_slots : (n : Name) → inside n ≡ true → passes.end.slots n ≡ []
    end_slots n e = let (k, is) = inner_some (part.kind_at n) e in passes.slots n k is

    ends : frame passes.end ≡ with_outputs g part target outs_of u
    ends =
        λ i. record {
          wires = λ p. ends_at p (inside p.node) (led_out (g.feeder p)) refl refl i;
          slots = λ n. slots_at n (inside n) refl passes.end.slots (end_slots n) i;
        }

    pub passes_anywhere : (firings : List Firing) × Firings g (with_inputs part ins u) firings (with_outputs g part target outs_of u)
    passes_anywhere = (
      passes.firings,
      subst (λ z. Firings g z passes.firings (with_outputs g part target outs_of u)) begins
          (subst (Firings g (frame (loaded part ins)) passes.firings) ends (frame_firings (loaded part ins) passes.firings passes.end passes.leads)),
    )
