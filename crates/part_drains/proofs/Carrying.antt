-- Firings of nodes that stand in two circuits.
use Rattle.std.proofs.Common.{◌≡◌, ◌≢◌, inl, inr, refl, sym, ap, subst, ◌∙◌, true, false, Bool, if◌then◌else◌, List, [], ◌∷◌, ◌++◌, Option, Some, None, append-nil, append_assoc}
use Rattle.components.specs.Name.{Name, Port}
use Rattle.circuits.specs.PortTokens.{Token, share, share_from}
use Rattle.std.specs.List.{AllByRecursion}
use Rattle.circuits.specs.Firing.{Label, Acts, Label.Fire}
use Rattle.circuits.specs.CircuitState.{CircuitState}
use Rattle.circuits.specs.Circuit.{Circuit}
use Rattle.circuits.specs.Run.{Step, Firing, Firings}
use Rattle.circuits.proofs.Names.{name_cases}
use Rattle.circuits.proofs.Steps.{share_other}
use Rattle.circuits.proofs.Beside.{none_some}
use Rattle.std.proofs.lemmas.Option.{same_Some}
use Rattle.part_drains.proofs.Carries.{Carries, on_wire, carried, thick}

apart_by : (here : Name → Bool) (m n : Name) → here m ≡ false → here n ≡ true → m ≢ n
apart_by here m n e f is = let k : false ≡ true = sym e ∙ ap here is ∙ f in let z : ⊥ = cc in z

module _ (c e : Circuit) (here : Name → Bool) (wire : Port → Option Port) (x : Carries c e here wire) (old : CircuitState) where
  module _ (s : CircuitState) (n : Name) (l : Label) (t : CircuitState) (in_here : here n ≡ true) (st : Step c s n l t) where
    takes_some : (r p : Port) → wire r ≡ Some p → (b : Bool) → here r.node ≡ b → share n st.taken p ≡ share n st.taken r
    takes_some r p w true h = ap (share n st.taken) (same_Some p r (sym w ∙ x.own r h))
    takes_some r p w false h =
        share_other n st.taken p (apart_by here p.node n (x.other r p w h) in_here) ∙ sym (share_other n st.taken r (apart_by here r.node n h in_here))

    takes_none : (r : Port) → wire r ≡ None → (b : Bool) → here r.node ≡ b → share n st.taken r ≡ []
    takes_none r w true h = absurd (none_some (wire r) r w (x.own r h))
    takes_none r w false h = share_other n st.taken r (apart_by here r.node n h in_here)

    takes_at : (r : Port) (o : Option Port) → wire r ≡ o → on_wire o s.wires (old.wires r) ≡ share n st.taken r ++ on_wire o st.between (old.wires r)
    takes_at r None w = ap (λ z. z ++ old.wires r) (sym (takes_none r w (here r.node) refl))
    takes_at r (Some p) w = st.takes p ∙ ap (λ z. z ++ st.between p) (takes_some r p w (here r.node) refl)

    no_feed : (r : Port) → wire r ≡ None → (o : Option Port) → e.feeder r ≡ o → share_from n st.given o ≡ []
    no_feed r w None f = refl
    no_feed r w (Some q) f = share_other n st.given q (λ is. x.unfed r q w (ap here is ∙ in_here) f)

    away : (r p q : Port) → wire r ≡ Some p → c.feeder p ≡ Some q → q.node ≢ n → (b : Option Port) → e.feeder r ≡ b → share_from n st.given b ≡ []
    away r p q w f ne None g = refl
    away r p q w f ne (Some k) g =
        share_other n st.given k
        (λ is. ne (ap (λ (z : Port). z.node) (same_Some q k (sym f ∙ (x.feeds r p k w (ap here is ∙ in_here)).1 g)) ∙ is))

    same_feed : (r p : Port) → wire r ≡ Some p → (a b : Option Port) → c.feeder p ≡ a → e.feeder r ≡ b → share_from n st.given a ≡ share_from n st.given b
    same_feed r p w None None f g = refl
    same_feed r p w None (Some q) f g =
        sym (share_other n st.given q (λ is. none_some (c.feeder p) q f ((x.feeds r p q w (ap here is ∙ in_here)).1 g)))
    same_feed r p w (Some q) b f g =
        elim (name_cases q.node n) [
          | inl is ↦ ap (share_from n st.given) (sym ((x.feeds r p q w (ap here is.is ∙ in_here)).0 f) ∙ g)
          | inr ne ↦ share_other n st.given q ne.is_not ∙ sym (away r p q w f ne.is_not b g)
        ]

    gives_at : (r : Port) (o : Option Port) → wire r ≡ o → on_wire o t.wires (old.wires r) ≡ on_wire o st.between (old.wires r) ++ share_from n st.given (e.feeder r)
    gives_at r None w = sym (append-nil (old.wires r)) ∙ ap (λ z. old.wires r ++ z) (sym (no_feed r w (e.feeder r) refl))
    gives_at r (Some p) w = st.gives p ∙ ap (λ z. st.between p ++ z) (same_feed r p w (c.feeder p) (e.feeder r) refl refl)

    -- a step of such a node in c is one in e
    pub carried_step : Step e (carried here wire old s) n l (carried here wire old t)
    carried_step =
        record {
          kind = st.kind;
          is_kind = x.nodes n st.kind in_here st.is_kind;
          taken = st.taken;
          given = st.given;
          acts = subst (λ b. Acts st.kind l (if b then s.slots n else old.slots n) st.taken st.given (if b then t.slots n else old.slots n)) (sym in_here) st.acts;
          between = λ r. on_wire (wire r) st.between (old.wires r);
          takes = λ r. takes_at r (wire r) refl;
          gives = λ r. gives_at r (wire r) refl;
          others = λ m ne. ap (λ z. if here m then z else old.slots m) (st.others m ne);
        }

  pub carried_firings : (s : CircuitState) (fs : List Firing) (t : CircuitState) → AllByRecursion (λ g. here g.node ≡ true) fs → Firings c s fs t → Firings e (carried here wire old s) fs (carried here wire old t)
  carried_firings s [] t h r = ap (carried here wire old) r
  carried_firings s (g ∷ fs) t h r = (
    carried here wire old r.0,
    carried_step s g.node (Fire g.choice) r.0 h.0 r.1,
    carried_firings r.0 fs t h.1 r.2,
  )

-- tokens at the end of a wire that no firing node feeds can be left out
module _ (c : Circuit) (here : Name → Bool) (framed : Port → Bool) (extra : Port → List Token) (unfed : (p q : Port) → framed p ≡ true → here q.node ≡ true → c.feeder p ≡ Some q → ⊥) where
  module _ (s : CircuitState) (n : Name) (l : Label) (y : CircuitState) (in_here : here n ≡ true) (st : Step c s n l (thick framed extra y)) where
    left : Port → List Token
    left p = if framed p then y.wires p else st.between p

    pub thin : CircuitState
    thin = record { wires = λ p. share n st.taken p ++ left p; slots = s.slots }

    none_fed : (p : Port) → framed p ≡ true → (o : Option Port) → c.feeder p ≡ o → share_from n st.given o ≡ []
    none_fed p e None f = refl
    none_fed p e (Some q) f = share_other n st.given q (λ is. unfed p q e (ap here is ∙ in_here) f)

    between_is : (p : Port) → framed p ≡ true → st.between p ≡ y.wires p ++ extra p
    between_is p e =
        sym (append-nil (st.between p)) ∙ ap (λ z. st.between p ++ z) (sym (none_fed p e (c.feeder p) refl)) ∙ sym (st.gives p)
        ∙ ap (λ b. if b then y.wires p ++ extra p else y.wires p) e

    thick_at : (p : Port) (b : Bool) → framed p ≡ b → s.wires p ≡ (if b then (share n st.taken p ++ (if b then y.wires p else st.between p)) ++ extra p else share n st.taken p ++ (if b then y.wires p else st.between p))
    thick_at p true e = st.takes p ∙ ap (λ z. share n st.taken p ++ z) (between_is p e) ∙ sym (append_assoc (share n st.taken p) (y.wires p) (extra p))
    thick_at p false e = st.takes p

    pub thick_is : s ≡ thick framed extra thin
    unfolding thin left
    thick_is = λ i. record { wires = λ p. thick_at p (framed p) refl i; slots = s.slots }

    thin_gives : (p : Port) (b : Bool) → framed p ≡ b → y.wires p ≡ (if b then y.wires p else st.between p) ++ share_from n st.given (c.feeder p)
    thin_gives p true e = sym (append-nil (y.wires p)) ∙ ap (λ z. y.wires p ++ z) (sym (none_fed p e (c.feeder p) refl))
    thin_gives p false e = ap (λ b. if b then y.wires p ++ extra p else y.wires p) (sym e) ∙ st.gives p

    pub thin_step : Step c thin n l y
    unfolding thin left
    thin_step =
        record {
          kind = st.kind;
          is_kind = st.is_kind;
          taken = st.taken;
          given = st.given;
          acts = st.acts;
          between = left;
          takes = λ p. refl;
          gives = λ p. thin_gives p (framed p) refl;
          others = st.others;
        }

  pub thin_firings : (s : CircuitState) (fs : List Firing) (y : CircuitState) → AllByRecursion (λ g. here g.node ≡ true) fs → Firings c s fs (thick framed extra y) → (z : CircuitState) × (s ≡ thick framed extra z) × Firings c z fs y
  thin_firings s [] y h r = (y, r, refl)
  thin_firings s (g ∷ fs) y h r =
      let (z, is, more) = thin_firings r.0 fs y h.1 r.2 in
      let st : Step c s g.node (Fire g.choice) (thick framed extra z) = subst (Step c s g.node (Fire g.choice)) is r.1 in (
        thin s g.node (Fire g.choice) z h.0 st,
        thick_is s g.node (Fire g.choice) z h.0 st,
        (z, thin_step s g.node (Fire g.choice) z h.0 st, more),
      )
