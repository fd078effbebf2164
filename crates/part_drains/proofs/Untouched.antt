-- What firings leave as it is, firings in an order that the wires between firing nodes allow, and tokens added at the ends of wires.
use Rattle.std.proofs.Common.{◌≡◌, ◌≢◌, ℕ, zero, suc, inl, inr, refl, sym, ap, subst, ◌∙◌, true, false, Bool, bytes_eq, if◌then◌else◌, List, [], ◌∷◌, ◌++◌, replicate, Option, Some, None, append-nil, append_assoc}
use Rattle.components.specs.Name.{Name, Port}
use Rattle.components.specs.declared.kind.Kind.{Kind}
use Rattle.components.specs.declared.kind.Kind.TheVariants.{Entry, Exit, Buffer, Fork}
use Rattle.circuits.specs.Values.{ValuesFit}
use Rattle.circuits.specs.PortTokens.{Token, share, share_from, at_port, one}
use Rattle.std.specs.List.{AllByRecursion}
use Rattle.circuits.specs.Firing.{Label, Fires, Label.Fire}
use Rattle.circuits.specs.CircuitState.{Slot, CircuitState, IsStateOf}
use Rattle.circuits.specs.Circuit.{Circuit, Typed}
use Rattle.circuits.specs.Run.{Step, Firing, Firings}
use Rattle.circuits.specs.Root.{PassesThrough}
use Rattle.circuits.specs.Replacing.{is_inner}
use Rattle.circuits.proofs.Names.{name_cases}
use Rattle.circuits.proofs.Steps.{acts_at, share_other, share_same}
use Rattle.circuits.proofs.Fitting.{step_fits}
use Rattle.part_drains.proofs.Carries.{thick}
use Rattle.part_drains.proofs.Draining.{LedBy, RestsAt}
use Rattle.part_drains.proofs.Ordering.{swapped}

-- a node of c that is no end
pub record FiresIn (c : Circuit) (n : Name) : Type 0 where
  pub kind : Kind
  pub is_kind : c.kind_at n ≡ Some kind
  pub is_listed : is_inner (Some kind) ≡ true

pub fires_listed : (k : Kind) (c : ℕ) (old : List Slot) (taken given : List (List Token)) (new : List Slot) → Fires k c old taken given new → is_inner (Some k) ≡ true
fires_listed (Entry a) c o t g e h = absurd h
fires_listed (Exit a) c o t g e h = absurd h
fires_listed _ c o t g e h = refl

-- only nodes that are no ends fire
pub all_fire : (c : Circuit) (s : CircuitState) (fs : List Firing) (t : CircuitState) → Firings c s fs t → AllByRecursion (λ f. FiresIn c f.node) fs
all_fire c s [] t r = tt
all_fire c s (f ∷ fs) t r = (
  record {
    kind = r.1.kind;
    is_kind = r.1.is_kind;
    is_listed = fires_listed r.1.kind f.choice (s.slots f.node) r.1.taken r.1.given (r.0.slots f.node) r.1.acts;
  },
  all_fire c r.0 fs t r.2,
)

-- firings keep a state
pub firings_fit : ValuesFit → (c : Circuit) → Typed c → (s : CircuitState) (fs : List Firing) (t : CircuitState) → Firings c s fs t → IsStateOf c s → IsStateOf c t
firings_fit values c ty s [] t r h = subst (IsStateOf c) r h
firings_fit values c ty s (f ∷ fs) t r h = firings_fit values c ty r.0 fs t r.2 (step_fits values c ty s f.node (Fire f.choice) r.0 r.1 h)

-- the state with more tokens at the heads of wires
abbrev pub ahead : (Port → List Token) → CircuitState → CircuitState
ahead front s = record { wires = λ p. front p ++ s.wires p; slots = s.slots }

-- firings of nodes of which P holds
module _ (c : Circuit) (P : Name → Type 0) where
  given_none : (n : Name) → P n → (side : List (List Token)) (p : Port) → ((q : Port) → c.feeder p ≡ Some q → P q.node → ⊥) → (o : Option Port) → c.feeder p ≡ o → share_from n side o ≡ []
  given_none n h side p no_give None e = refl
  given_none n h side p no_give (Some q) e = share_other n side q (λ is. no_give q e (subst P (sym is) h))

  -- a wire that they neither take from nor give to
  pub kept_wire : (p : Port) → (P p.node → ⊥) → ((q : Port) → c.feeder p ≡ Some q → P q.node → ⊥) → (s : CircuitState) (fs : List Firing) (t : CircuitState) → AllByRecursion (λ f. P f.node) fs → Firings c s fs t → t.wires p ≡ s.wires p
  kept_wire p no_take no_give s [] t h r = ap (λ (z : CircuitState). z.wires p) (sym r)
  kept_wire p no_take no_give s (f ∷ fs) t h r =
      let st : Step c s f.node (Fire f.choice) r.0 = r.1 in
      kept_wire p no_take no_give r.0 fs t h.1 r.2 ∙ st.gives p
      ∙ ap (λ z. st.between p ++ z) (given_none f.node h.0 st.given p no_give (c.feeder p) refl) ∙ append-nil (st.between p)
      ∙ sym (st.takes p ∙ ap (λ z. z ++ st.between p) (share_other f.node st.taken p (λ is. no_take (subst P (sym is) h.0))))

  -- the slots of another node
  pub kept_slots : (n : Name) → (P n → ⊥) → (s : CircuitState) (fs : List Firing) (t : CircuitState) → AllByRecursion (λ f. P f.node) fs → Firings c s fs t → t.slots n ≡ s.slots n
  kept_slots n other s [] t h r = ap (λ (z : CircuitState). z.slots n) (sym r)
  kept_slots n other s (f ∷ fs) t h r =
      kept_slots n other r.0 fs t h.1 r.2 ∙ r.1.others n (λ is. other (subst P (sym is) h.0))

  -- tokens at the ends of wires to which they do not give stay there
  module _ (framed : Port → Bool) (extra : Port → List Token) (unfed : (p q : Port) → framed p ≡ true → P q.node → c.feeder p ≡ Some q → ⊥) where
    thick_takes : (xs ys zs : List Token) → xs ≡ ys ++ zs → (es : List Token) (b : Bool) → (if b then xs ++ es else xs) ≡ ys ++ (if b then zs ++ es else zs)
    thick_takes xs ys zs e es true = ap (λ z. z ++ es) e ∙ append_assoc ys zs es
    thick_takes xs ys zs e es false = e

    thick_gives : (p : Port) (n : Name) → P n → (side : List (List Token)) (xs zs : List Token) → xs ≡ zs ++ share_from n side (c.feeder p) → (b : Bool) → framed p ≡ b → (if b then xs ++ extra p else xs) ≡ (if b then zs ++ extra p else zs) ++ share_from n side (c.feeder p)
    thick_gives p n h side xs zs e true f =
        let none : share_from n side (c.feeder p) ≡ [] = given_none n h side p (λ q g k. unfed p q f k g) (c.feeder p) refl in
        ap (λ z. z ++ extra p) (e ∙ ap (λ z. zs ++ z) none ∙ append-nil zs) ∙ sym (append-nil (zs ++ extra p)) ∙ ap (λ z. (zs ++ extra p) ++ z) (sym none)
    thick_gives p n h side xs zs e false f = e

    pub thick_step : (s : CircuitState) (n : Name) (l : Label) (t : CircuitState) → P n → Step c s n l t → Step c (thick framed extra s) n l (thick framed extra t)
    thick_step s n l t h st =
        record {
          kind = st.kind;
          is_kind = st.is_kind;
          taken = st.taken;
          given = st.given;
          acts = st.acts;
          between = λ p. if framed p then st.between p ++ extra p else st.between p;
          takes = λ p. thick_takes (s.wires p) (share n st.taken p) (st.between p) (st.takes p) (extra p) (framed p);
          gives = λ p. thick_gives p n h st.given (t.wires p) (st.between p) (st.gives p) (framed p) refl;
          others = st.others;
        }

    pub thick_firings : (s : CircuitState) (fs : List Firing) (t : CircuitState) → AllByRecursion (λ f. P f.node) fs → Firings c s fs t → Firings c (thick framed extra s) fs (thick framed extra t)
    thick_firings s [] t h r = ap (thick framed extra) r
    thick_firings s (f ∷ fs) t h r =
        (thick framed extra r.0, thick_step s f.node (Fire f.choice) r.0 h.0 r.1, thick_firings r.0 fs t h.1 r.2)

  -- tokens at the heads of wires from which they do not take stay there
  module _ (front : Port → List Token) (untaken : (p : Port) → P p.node → front p ≡ []) where
    ahead_takes : (s : CircuitState) (n : Name) (l : Label) (t : CircuitState) → P n → (st : Step c s n l t) → (p : Port) → front p ++ s.wires p ≡ share n st.taken p ++ (front p ++ st.between p)
    ahead_takes s n l t h st p =
        elim (name_cases p.node n) [
          | inl is ↦
              let none : front p ≡ [] = untaken p (subst P (sym is.is) h) in
              ap (λ z. z ++ s.wires p) none ∙ st.takes p ∙ ap (λ z. share n st.taken p ++ (z ++ st.between p)) (sym none)
          | inr ne ↦
              let none : share n st.taken p ≡ [] = share_other n st.taken p ne.is_not in
              ap (λ z. front p ++ z) (st.takes p ∙ ap (λ z. z ++ st.between p) none) ∙ ap (λ z. z ++ (front p ++ st.between p)) (sym none)
        ]

    pub ahead_step : (s : CircuitState) (n : Name) (l : Label) (t : CircuitState) → P n → Step c s n l t → Step c (ahead front s) n l (ahead front t)
    ahead_step s n l t h st =
        record {
          kind = st.kind;
          is_kind = st.is_kind;
          taken = st.taken;
          given = st.given;
          acts = st.acts;
          between = λ p. front p ++ st.between p;
          takes = ahead_takes s n l t h st;
          gives = λ p. ap (λ z. front p ++ z) (st.gives p) ∙ sym (append_assoc (front p) (st.between p) (share_from n st.given (c.feeder p)));
          others = st.others;
        }

    pub ahead_firings : (s : CircuitState) (fs : List Firing) (t : CircuitState) → AllByRecursion (λ f. P f.node) fs → Firings c s fs t → Firings c (ahead front s) fs (ahead front t)
    ahead_firings s [] t h r = ap (ahead front) r
    ahead_firings s (f ∷ fs) t h r =
        (ahead front r.0, ahead_step s f.node (Fire f.choice) r.0 h.0 r.1, ahead_firings r.0 fs t h.1 r.2)

    -- and can be left out
    module _ (s : CircuitState) (n : Name) (l : Label) (t : CircuitState) (h : P n) (st : Step c (ahead front s) n l t) where
      bare_between : Port → List Token
      bare_between p = if bytes_eq p.node n then st.between p else s.wires p

      bare : CircuitState
      bare = record { wires = λ p. bare_between p ++ share_from n st.given (c.feeder p); slots = t.slots }

      bare_takes : (p : Port) → s.wires p ≡ share n st.taken p ++ bare_between p
      unfolding bare_between
      bare_takes p =
          elim (name_cases p.node n) [
            | inl is ↦
                ap (λ z. z ++ s.wires p) (sym (untaken p (subst P (sym is.is) h))) ∙ st.takes p
                ∙ ap (λ b. share n st.taken p ++ (if b then st.between p else s.wires p)) (sym is.test)
            | inr ne ↦ λ i. sym (share_other n st.taken p ne.is_not) i ++ (if sym ne.test i then st.between p else s.wires p)
          ]

      bare_step : Step c s n l bare
      unfolding bare
      bare_step =
          record {
            kind = st.kind;
            is_kind = st.is_kind;
            taken = st.taken;
            given = st.given;
            acts = st.acts;
            between = bare_between;
            takes = bare_takes;
            gives = λ p. refl;
            others = st.others;
          }

      bare_wires : (p : Port) → t.wires p ≡ front p ++ bare.wires p
      unfolding bare bare_between
      bare_wires p =
          elim (name_cases p.node n) [
            | inl is ↦
                st.gives p ∙ ap (λ z. z ++ (st.between p ++ share_from n st.given (c.feeder p))) (sym (untaken p (subst P (sym is.is) h)))
                ∙ ap (λ b. front p ++ ((if b then st.between p else s.wires p) ++ share_from n st.given (c.feeder p))) (sym is.test)
            | inr ne ↦
                st.gives p
                ∙ ap (λ z. z ++ share_from n st.given (c.feeder p)) (sym (st.takes p ∙ ap (λ z. z ++ st.between p) (share_other n st.taken p ne.is_not)))
                ∙ append_assoc (front p) (s.wires p) (share_from n st.given (c.feeder p))
                ∙ ap (λ b. front p ++ ((if b then st.between p else s.wires p) ++ share_from n st.given (c.feeder p))) (sym ne.test)
          ]

      bare_is : t ≡ ahead front bare
      unfolding bare
      bare_is = λ i. record { wires = λ p. bare_wires p i; slots = t.slots }

    pub bare_firings : (s : CircuitState) (fs : List Firing) (t : CircuitState) → AllByRecursion (λ f. P f.node) fs → Firings c (ahead front s) fs t → (w : CircuitState) × (t ≡ ahead front w) × Firings c s fs w
    bare_firings s [] t h r = (s, sym r, refl)
    bare_firings s (f ∷ fs) t h r =
        let x : CircuitState = bare s f.node (Fire f.choice) r.0 h.0 r.1 in
        let (w, is, more) = bare_firings x fs t h.1 (subst (λ z. Firings c z fs t) (bare_is s f.node (Fire f.choice) r.0 h.0 r.1) r.2) in
        (w, is, (x, bare_step s f.node (Fire f.choice) r.0 h.0 r.1, more))

  -- where no wire leads from a late one of them to an early one, the early ones can fire first
  pub record Ordered (late : Name → Bool) (s t : CircuitState) : Type 0 where
    pub early : List Firing
    pub middle : CircuitState
    pub later : List Firing
    pub first : Firings c s early middle
    pub then_late : Firings c middle later t
    pub are_early : AllByRecursion (λ f. (late f.node ≡ false) × P f.node) early
    pub are_late : AllByRecursion (λ f. (late f.node ≡ true) × P f.node) later

  module _ (late : Name → Bool) (on : (p q : Port) → c.feeder p ≡ Some q → P q.node → P p.node → late q.node ≡ true → late p.node ≡ true) where
    differ : (m n : Name) → late m ≡ true → late n ≡ false → m ≢ n
    differ m n e f is = let k : true ≡ false = sym e ∙ ap late is ∙ f in let z : ⊥ = cc in z

    behind : (s : CircuitState) (g : Firing) (u : CircuitState) (fs : List Firing) (t : CircuitState) → late g.node ≡ true → P g.node → AllByRecursion (λ f. (late f.node ≡ false) × P f.node) fs → Step c s g.node (Fire g.choice) u → Firings c u fs t → (w : CircuitState) × Firings c s fs w × Step c w g.node (Fire g.choice) t
    behind s g u [] t e pg h st r = (s, refl, subst (Step c s g.node (Fire g.choice)) r st)
    behind s g u (f ∷ fs) t e pg h st r =
        let (w, one, two) = swapped c s u r.0 g.node f.node (Fire g.choice) (Fire f.choice) st r.1 (differ g.node f.node e h.0.0)
        (λ p q fed is at. differ p.node f.node (on p q fed (subst P (sym is) pg) (subst P (sym at) h.0.1) (ap late is ∙ e)) h.0.0 at) in
        let (v, rest, last) = behind w g r.0 fs t e pg h.1 two r.2 in
        (v, (w, one, rest), last)

    order_one : (s : CircuitState) (g : Firing) (u t : CircuitState) → P g.node → Step c s g.node (Fire g.choice) u → Ordered late u t → (b : Bool) → late g.node ≡ b → Ordered late s t
    order_one s g u t pg st h false e =
        record {
          early = g ∷ h.early;
          middle = h.middle;
          later = h.later;
          first = (u, st, h.first);
          then_late = h.then_late;
          are_early = ((e, pg), h.are_early);
          are_late = h.are_late;
        }
    order_one s g u t pg st h true e =
        let (w, rest, last) = behind s g u h.early h.middle e pg h.are_early st h.first in
        record {
          early = h.early;
          middle = w;
          later = g ∷ h.later;
          first = rest;
          then_late = (h.middle, last, h.then_late);
          are_early = h.are_early;
          are_late = ((e, pg), h.are_late);
        }

    pub ordered : (s : CircuitState) (fs : List Firing) (t : CircuitState) → AllByRecursion (λ f. P f.node) fs → Firings c s fs t → Ordered late s t
    ordered s [] t h r =
        record { early = []; middle = s; later = []; first = refl; then_late = r; are_early = tt; are_late = tt }
    ordered s (g ∷ fs) t h r = order_one s g r.0 t h.0 r.1 (ordered r.0 fs t h.1 r.2) (late g.node) refl

-- Forks and Buffers fire exactly where a token waits before them
rest_at : List Token → (ℕ → List Token) → ℕ → List Token
rest_at vs f zero = f zero
rest_at vs f (suc zero) = vs
rest_at vs f (suc (suc i)) = f (suc (suc i))

rest_taken : (v : Token) (vs : List Token) (f : ℕ → List Token) → f 1 ≡ v ∷ vs → (i : ℕ) → f i ≡ at_port (one v ∷ []) i ++ rest_at vs f i
unfolding rest_at
rest_taken v vs f e zero = refl
rest_taken v vs f e (suc zero) = e
rest_taken v vs f e (suc (suc i)) = refl

gives_of : Kind → Token → List (List Token)
gives_of (Fork a k) v = replicate k (one v)
gives_of _ v = one v ∷ []

tree_fires : (k : Kind) → PassesThrough k → (v : Token) (old : List Slot) → Fires k 0 old (one v ∷ []) (gives_of k v) old
unfolding gives_of
tree_fires (Buffer a) h v old = (v, refl, refl, refl, refl)
tree_fires (Fork a k) h v old = (v, refl, refl, refl, refl)
tree_fires _ h v old = absurd h

tree_takes : (k : Kind) → PassesThrough k → (c : ℕ) (old : List Slot) (taken given : List (List Token)) (new : List Slot) → Fires k c old taken given new → (v : Token) × (taken ≡ one v ∷ [])
tree_takes (Buffer a) h c old taken given new (v, z, et, eg, en) = (v, et)
tree_takes (Fork a k) h c old taken given new (v, z, et, eg, en) = (v, et)
tree_takes _ h c old taken given new f = absurd h

module _ (c : Circuit) (s : CircuitState) (n : Name) (kind : Kind) (is_kind : c.kind_at n ≡ Some kind) (tree : PassesThrough kind) where
  module _ (v : Token) (vs : List Token) (e : s.wires (record { node = n; port = 1 }) ≡ v ∷ vs) where
    left_at : Port → List Token
    left_at p = if bytes_eq p.node n then rest_at vs (λ i. s.wires (record { node = n; port = i })) p.port else s.wires p

    after : CircuitState
    after = record { wires = λ p. left_at p ++ share_from n (gives_of kind v) (c.feeder p); slots = s.slots }

    takes_it : (p : Port) → s.wires p ≡ share n (one v ∷ []) p ++ left_at p
    unfolding left_at
    takes_it p =
        elim (name_cases p.node n) [
          | inl is ↦
              ap (λ z. s.wires (record { node = z; port = p.port })) is.is ∙ rest_taken v vs (λ i. s.wires (record { node = n; port = i })) e p.port
              ∙ (λ i. sym (share_same n (one v ∷ []) p is.is) i ++ (if sym is.test i then rest_at vs (λ j. s.wires (record { node = n; port = j })) p.port else s.wires p))
          | inr ne ↦ λ i. sym (share_other n (one v ∷ []) p ne.is_not) i ++ (if sym ne.test i then rest_at vs (λ j. s.wires (record { node = n; port = j })) p.port else s.wires p)
        ]

    fires_it : Step c s n (Fire 0) after
    unfolding after
    fires_it =
        record {
          kind = kind;
          is_kind = is_kind;
          taken = one v ∷ [];
          given = gives_of kind v;
          acts = tree_fires kind tree v (s.slots n);
          between = left_at;
          takes = takes_it;
          gives = λ p. refl;
          others = λ m h. refl;
        }

  -- at rest nothing waits before a led node
  dry_at : ((t : CircuitState) → Step c s n (Fire 0) t → ⊥) → (xs : List Token) → s.wires (record { node = n; port = 1 }) ≡ xs → s.wires (record { node = n; port = 1 }) ≡ []
  dry_at stuck [] e = e
  dry_at stuck (v ∷ vs) e = absurd (stuck (after v vs e) (fires_it v vs e))

  pub dry : ((t : CircuitState) → Step c s n (Fire 0) t → ⊥) → s.wires (record { node = n; port = 1 }) ≡ []
  dry stuck = dry_at stuck (s.wires (record { node = n; port = 1 })) refl

  -- and with nothing before it such a node does not fire
  pub waits : s.wires (record { node = n; port = 1 }) ≡ [] → (k : ℕ) (t : CircuitState) → Step c s n (Fire k) t → ⊥
  waits none k t st =
      let (v, et) = tree_takes kind tree k (s.slots n) st.taken st.given (t.slots n) (acts_at c s n (Fire k) t st kind is_kind) in
      let before : Port = record { node = n; port = 1 } in
      let holds : [] ≡ v ∷ st.between before =
      sym none ∙ st.takes before ∙ ap (λ z. share n z before ++ st.between before) et ∙ ap (λ z. z ++ st.between before) (share_same n (one v ∷ []) before refl) in
      let z : ⊥ = cc in z

pub led_dry : (c : Circuit) (r : CircuitState) → RestsAt c r → (n : Name) → LedBy c n → r.wires (record { node = n; port = 1 }) ≡ []
led_dry c r is n led = dry c r n led.kind led.is_kind led.tree (λ t st. is.ends n 0 t led st)
