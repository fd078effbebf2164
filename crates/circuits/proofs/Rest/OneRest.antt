-- The rest state is one, in whatever order the led nodes fire.
use Rattle.std.proofs.Common.{◌≡◌, ◌≢◌, ◌⊎◌, ℕ, inl, inr, refl, sym, ap, subst, ◌∙◌, bytes_eq, if◌then◌else◌, List, [], ◌∷◌, ◌++◌, Option, Some, None, replicate, append-nil, append_assoc}
use Rattle.std.proofs.lemmas.List.{append_cancel_left}
use Rattle.std.specs.List.{AllByRecursion}
use Rattle.components.specs.declared.kind.Kind.{Kind}
use Rattle.components.specs.declared.kind.Kind.TheVariants.{Buffer, Fork}
use Rattle.components.specs.Name.{Name, Port}
use Rattle.components.specs.Orders.{same_bytes, other_bytes}
use Rattle.circuits.specs.PortTokens.{Token, one, share, share_from}
use Rattle.circuits.specs.Circuit.{Circuit}
use Rattle.circuits.specs.CircuitState.{Slot, CircuitState, start}
use Rattle.circuits.specs.Firing.{Label, Label.Fire, Acts, Fires}
use Rattle.circuits.specs.Run.{Step, Firing, Firings}
use Rattle.circuits.specs.Buffers.{first_port}
use Rattle.circuits.specs.Root.{PassesThrough}
use Rattle.circuits.specs.Drains.{IsInit, Led, IsRest}
use Rattle.circuits.proofs.Names.{name_cases}
use Rattle.circuits.proofs.Steps.{acts_at, share_other, share_same, state_same}

-- what a Buffer or a Fork gives for a token
abbrev pub given_for : Kind → Token → List (List Token)
given_for (Fork shape count) v = replicate count (one v)
given_for _ v = one v ∷ []

pub record Passed (k : Kind) (old : List Slot) (taken given : List (List Token)) (new : List Slot) : Type 0 where
  pub token : Token
  pub is_taken : taken ≡ one token ∷ []
  pub is_given : given ≡ given_for k token
  pub same : new ≡ old

pub passes_one : (k : Kind) → PassesThrough k → (choice : ℕ) (old : List Slot) (taken given : List (List Token)) (new : List Slot) → Fires k choice old taken given new → Passed k old taken given new
passes_one (Buffer shape) h choice old taken given new (v, z, et, eg, en) = record { token = v; is_taken = et; is_given = eg; same = en }
passes_one (Fork shape count) h choice old taken given new (v, z, et, eg, en) = record { token = v; is_taken = et; is_given = eg; same = en }
passes_one _ h choice old taken given new fires = absurd h

-- a Buffer or a Fork can fire in one way
module _ (c : Circuit) (s u w : CircuitState) (n : Name) (j k : ℕ) (kind : Kind) (is_kind : c.kind_at n ≡ Some kind) (passes : PassesThrough kind) (a : Step c s n (Fire j) u) (b : Step c s n (Fire k) w) where
  by_a : Passed kind (s.slots n) a.taken a.given (u.slots n)
  by_a = passes_one kind passes j (s.slots n) a.taken a.given (u.slots n) (acts_at c s n (Fire j) u a kind is_kind)

  by_b : Passed kind (s.slots n) b.taken b.given (w.slots n)
  by_b = passes_one kind passes k (s.slots n) b.taken b.given (w.slots n) (acts_at c s n (Fire k) w b kind is_kind)

  first_of : (side : List (List Token)) (v : Token) (between : List Token) → side ≡ one v ∷ [] → s.wires (first_port n) ≡ share n side (first_port n) ++ between → s.wires (first_port n) ≡ v ∷ between
  first_of side v between e takes =
      takes ∙ ap (λ x. share n x (first_port n) ++ between) e ∙ ap (λ x. x ++ between) (share_same n (one v ∷ []) (first_port n) refl)

  one_token : by_a.token ≡ by_b.token
  one_token =
      let ha = first_of a.taken by_a.token (a.between (first_port n)) by_a.is_taken (a.takes (first_port n)) in
      let hb = first_of b.taken by_b.token (b.between (first_port n)) by_b.is_taken (b.takes (first_port n)) in
      let heads : by_a.token ∷ a.between (first_port n) ≡ by_b.token ∷ b.between (first_port n) = sym ha ∙ hb in
      cc

  one_taken : a.taken ≡ b.taken
  one_taken = by_a.is_taken ∙ ap (λ v. one v ∷ []) one_token ∙ sym by_b.is_taken

  one_given : a.given ≡ b.given
  one_given = by_a.is_given ∙ ap (given_for kind) one_token ∙ sym by_b.is_given

  one_between : (p : Port) → a.between p ≡ b.between p
  one_between p =
      append_cancel_left (share n a.taken p) (a.between p) (b.between p) (sym (a.takes p) ∙ b.takes p ∙ ap (λ x. share n x p ++ b.between p) (sym one_taken))

  pub fires_alike : u ≡ w
  fires_alike =
      state_same u w (λ p. a.gives p ∙ (λ i. one_between p i ++ share_from n (one_given i) (c.feeder p)) ∙ sym (b.gives p))
      (λ m. elim (name_cases m n) [
        | inl is ↦ ap u.slots is.is ∙ by_a.same ∙ sym by_b.same ∙ ap w.slots (sym is.is)
        | inr ne ↦ a.others m ne.is_not ∙ sym (b.others m ne.is_not)
      ])

-- two nodes that can fire can fire one after the other, in either order
module _ (c : Circuit) (s u w : CircuitState) (m n : Name) (j k : Label) (a : Step c s m j u) (b : Step c s n k w) (ne : m ≢ n) where
  m_gives : Port → List Token
  m_gives p = share_from m a.given (c.feeder p)

  n_gives : Port → List Token
  n_gives p = share_from n b.given (c.feeder p)

  -- no wire has two feeders
  one_feeds : (o : Option Port) → (share_from m a.given o ≡ []) ⊎ (share_from n b.given o ≡ [])
  one_feeds None = inl refl
  one_feeds (Some q) =
      elim (name_cases q.node m) [ inl is ↦ inr (share_other n b.given q (λ e. ne (sym is.is ∙ e))) | inr no_m ↦ inl (share_other m a.given q no_m.is_not) ]

  swap_ends : (x y z : List Token) → (y ≡ []) ⊎ (z ≡ []) → (x ++ y) ++ z ≡ (x ++ z) ++ y
  swap_ends x y z (inl e) = (λ i. (x ++ e i) ++ z) ∙ ap (λ v. v ++ z) (append-nil x) ∙ sym (append-nil (x ++ z)) ∙ (λ i. (x ++ z) ++ sym e i)
  swap_ends x y z (inr e) = (λ i. (x ++ y) ++ e i) ∙ append-nil (x ++ y) ∙ ap (λ v. v ++ y) (sym (append-nil x)) ∙ (λ i. (x ++ sym e i) ++ y)

  both_give : (x : List Token) (p : Port) → (x ++ m_gives p) ++ n_gives p ≡ (x ++ n_gives p) ++ m_gives p
  unfolding m_gives n_gives
  both_give x p = swap_ends x (share_from m a.given (c.feeder p)) (share_from n b.given (c.feeder p)) (one_feeds (c.feeder p))

  kept_m : (p : Port) → p.node ≢ m → s.wires p ≡ a.between p
  kept_m p no_m = a.takes p ∙ ap (λ z. z ++ a.between p) (share_other m a.taken p no_m)

  kept_n : (p : Port) → p.node ≢ n → s.wires p ≡ b.between p
  kept_n p no_n = b.takes p ∙ ap (λ z. z ++ b.between p) (share_other n b.taken p no_n)

  n_between : Port → List Token
  n_between p = if bytes_eq p.node n then b.between p ++ m_gives p else u.wires p

  m_between : Port → List Token
  m_between p = if bytes_eq p.node m then a.between p ++ n_gives p else w.wires p

  both : CircuitState
  both = record { wires = λ p. n_between p ++ n_gives p; slots = λ q. if bytes_eq q n then w.slots n else u.slots q }

  n_takes : (p : Port) → u.wires p ≡ share n b.taken p ++ n_between p
  unfolding n_between m_gives
  n_takes p =
      elim (name_cases p.node n) [
        | inl is ↦
            a.gives p ∙ ap (λ z. z ++ m_gives p) (sym (kept_m p (λ e. ne (sym e ∙ is.is))) ∙ b.takes p) ∙ append_assoc (share n b.taken p) (b.between p) (m_gives p)
            ∙ ap (λ z. share n b.taken p ++ (if z then b.between p ++ m_gives p else u.wires p)) (sym is.test)
        | inr no_n ↦ λ i. sym (share_other n b.taken p no_n.is_not) i ++ (if sym no_n.test i then b.between p ++ m_gives p else u.wires p)
      ]

  m_takes : (p : Port) → w.wires p ≡ share m a.taken p ++ m_between p
  unfolding m_between n_gives
  m_takes p =
      elim (name_cases p.node m) [
        | inl is ↦
            b.gives p ∙ ap (λ z. z ++ n_gives p) (sym (kept_n p (λ e. ne (sym is.is ∙ e))) ∙ a.takes p) ∙ append_assoc (share m a.taken p) (a.between p) (n_gives p)
            ∙ ap (λ z. share m a.taken p ++ (if z then a.between p ++ n_gives p else w.wires p)) (sym is.test)
        | inr no_m ↦ λ i. sym (share_other m a.taken p no_m.is_not) i ++ (if sym no_m.test i then a.between p ++ n_gives p else w.wires p)
      ]

  at_m : (p : Port) → p.node ≢ n → n_between p ≡ a.between p ++ m_gives p
  unfolding n_between m_gives
  at_m p no_n = ap (λ z. if z then b.between p ++ m_gives p else u.wires p) (other_bytes p.node n no_n) ∙ a.gives p

  both_gives : (p : Port) → n_between p ++ n_gives p ≡ m_between p ++ m_gives p
  unfolding n_between m_between m_gives n_gives
  both_gives p =
      elim (name_cases p.node m) [
        | inl is ↦
            ap (λ z. z ++ n_gives p) (at_m p (λ e. ne (sym is.is ∙ e))) ∙ both_give (a.between p) p
            ∙ ap (λ z. (if z then a.between p ++ n_gives p else w.wires p) ++ m_gives p) (sym is.test)
        | inr no_m ↦
            ap (λ z. z ++ n_gives p) (as_n p no_m.is_not) ∙ both_give (b.between p) p ∙ ap (λ z. z ++ m_gives p) (sym (b.gives p))
            ∙ ap (λ z. (if z then a.between p ++ n_gives p else w.wires p) ++ m_gives p) (sym no_m.test)
      ]
    where
      as_n : (q : Port) → q.node ≢ m → n_between q ≡ b.between q ++ m_gives q
      as_n q away =
          elim (name_cases q.node n) [
            | inl is ↦ ap (λ z. if z then b.between q ++ m_gives q else u.wires q) is.test
            | inr no_n ↦ at_m q no_n.is_not ∙ ap (λ z. z ++ m_gives q) (sym (kept_m q away) ∙ kept_n q no_n.is_not)
          ]

  n_second : Step c u n k both
  unfolding both n_gives
  n_second =
      record {
        kind = b.kind;
        is_kind = b.is_kind;
        taken = b.taken;
        given = b.given;
        acts = subst (λ z. Acts b.kind k z b.taken b.given (if bytes_eq n n then w.slots n else u.slots n)) (sym (a.others n (λ e. ne (sym e))))
            (subst (λ z. Acts b.kind k (s.slots n) b.taken b.given (if z then w.slots n else u.slots n)) (sym (same_bytes n n refl)) b.acts);
        between = n_between;
        takes = n_takes;
        gives = λ p. refl;
        others = λ q no_n. ap (λ z. if z then w.slots n else u.slots q) (other_bytes q n no_n);
      }

  m_second : Step c w m j both
  unfolding both m_gives
  m_second =
      record {
        kind = a.kind;
        is_kind = a.is_kind;
        taken = a.taken;
        given = a.given;
        acts = subst (λ z. Acts a.kind j z a.taken a.given (if bytes_eq m n then w.slots n else u.slots m)) (sym (b.others m ne))
            (subst (λ z. Acts a.kind j (s.slots m) a.taken a.given (if z then w.slots n else u.slots m)) (sym (other_bytes m n ne)) a.acts);
        between = m_between;
        takes = m_takes;
        gives = both_gives;
        others = λ q no_m.
            elim (name_cases q n) [
              | inl is ↦ ap (λ z. if z then w.slots n else u.slots q) is.test ∙ ap w.slots (sym is.is)
              | inr no_n ↦ ap (λ z. if z then w.slots n else u.slots q) no_n.test ∙ a.others q no_m ∙ sym (b.others q no_n.is_not)
            ];
      }

  pub either_first : (t : CircuitState) × Step c u n k t × Step c w m j t
  either_first = (both, n_second, m_second)

-- no led node can fire
abbrev Ends : Circuit → CircuitState → Type 0
Ends c t = (n : Name) (choice : ℕ) (w : CircuitState) → Led c n → Step c t n (Fire choice) w → ⊥

-- a led node that can fire can do so first
record Without (c : Circuit) (t u : CircuitState) : Type 0 where
  firings : List Firing
  led : AllByRecursion (λ f. Led c f.node) firings
  leads : Firings c t firings u

module _ (c : Circuit) (u : CircuitState) (ends : Ends c u) where
  first : (s t : CircuitState) (f : Firing) (gs : List Firing) → Led c f.node → Step c s f.node (Fire f.choice) t → AllByRecursion (λ g. Led c g.node) gs → Firings c s gs u → Without c t u
  first s t f [] led st all run = absurd (ends f.node f.choice t led (subst (λ x. Step c x f.node (Fire f.choice) t) run st))
  first s t f (g ∷ gs) led st all run =
      elim (name_cases f.node g.node) [
        | inl is ↦
            let same : run.0 ≡ t = fires_alike c s run.0 t f.node g.choice f.choice led.kind led.is_kind led.passes
            (subst (λ x. Step c s x (Fire g.choice) run.0) (sym is.is) run.1) st in
            record { firings = gs; led = all.1; leads = subst (λ x. Firings c x gs u) same run.2 }
        | inr ne ↦
            let (x, later, rest) = either_first c s t run.0 f.node g.node (Fire f.choice) (Fire g.choice) st run.1 ne.is_not in
            let go = first run.0 x f gs led rest all.1 run.2 in
            record { firings = g ∷ go.firings; led = (all.0, go.led); leads = (x, later, go.leads) }
      ]

  stays : (s : CircuitState) (gs : List Firing) → AllByRecursion (λ g. Led c g.node) gs → Firings c s gs u → Ends c s → s ≡ u
  stays s [] all run none = run
  stays s (g ∷ gs) all run none = absurd (none g.node g.choice run.0 all.0 run.1)

  same_end : (s r : CircuitState) (fs gs : List Firing) → AllByRecursion (λ f. Led c f.node) fs → Firings c s fs r → Ends c r → AllByRecursion (λ g. Led c g.node) gs → Firings c s gs u → r ≡ u
  same_end s r [] gs led run none all other = sym run ∙ stays s gs all other (subst (Ends c) (sym run) none)
  same_end s r (f ∷ fs) gs led run none all other =
      let go = first s run.0 f gs led.0 run.1 all other in
      same_end run.0 r fs go.firings led.1 run.2 none go.led go.leads

pub rest_is_one : (c : Circuit) (r s : CircuitState) → IsRest c r → IsRest c s → r ≡ s
rest_is_one c r s is also = same_end c s also.ends (start c) r is.firings also.firings is.led is.leads is.ends also.led also.leads

-- where no node is led, the start is at rest
pub start_rests_unled : (c : Circuit) → ((n : Name) → Led c n → ⊥) → IsRest c (start c)
start_rests_unled c none = record { firings = []; led = tt; leads = refl; ends = λ n choice t led st. none n led }

pub rests_without_init : (c : Circuit) → ((n : Name) (k : Kind) → c.kind_at n ≡ Some k → IsInit k → ⊥) → IsRest c (start c)
rests_without_init c none =
    start_rests_unled c (λ n led. none led.comes.root.node led.comes.source led.comes.is_source led.comes.is_init)
