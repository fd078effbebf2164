-- Firings in an order that the wires allow.
use Rattle.std.proofs.Common.{◌≡◌, ◌≢◌, ◌⊎◌, inl, inr, refl, sym, ap, subst, ◌∙◌, true, false, Bool, bytes_eq, if◌then◌else◌, List, [], ◌∷◌, ◌++◌, Option, Some, None, append-nil, append_assoc}
use Rattle.components.specs.Name.{Name, Port}
use Rattle.circuits.specs.PortTokens.{Token, share, share_from}
use Rattle.std.specs.List.{AllByRecursion}
use Rattle.circuits.specs.Firing.{Label, Acts, Label.Fire}
use Rattle.circuits.specs.CircuitState.{CircuitState}
use Rattle.circuits.specs.Circuit.{Circuit}
use Rattle.circuits.specs.Run.{Step, Firing, Firings}
use Rattle.circuits.proofs.Names.{name_cases}
use Rattle.components.specs.Orders.{same_bytes, other_bytes}
use Rattle.circuits.proofs.Steps.{share_other}
use Rattle.part_drains.specs.Order.{GoesOn, InOrder}

-- two steps of different nodes, where no wire leads from the first to the second
module _ (c : Circuit) (s u t : CircuitState) (m n : Name) (j k : Label) (a : Step c s m j u) (b : Step c u n k t) (ne : m ≢ n) (apart : (p q : Port) → c.feeder p ≡ Some q → q.node ≡ m → p.node ≢ n) where
  m_gives : Port → List Token
  m_gives p = share_from m a.given (c.feeder p)

  n_gives : Port → List Token
  n_gives p = share_from n b.given (c.feeder p)

  -- no wire has two feeders
  one_feeds_at : (p : Port) (o : Option Port) → (share_from m a.given o ≡ []) ⊎ (share_from n b.given o ≡ [])
  one_feeds_at p None = inl refl
  one_feeds_at p (Some q) =
      elim (name_cases q.node m) [ inl is ↦ inr (share_other n b.given q (λ e. ne (sym is.is ∙ e))) | inr no_m ↦ inl (share_other m a.given q no_m.is_not) ]

  swap_ends : (x y z : List Token) → (y ≡ []) ⊎ (z ≡ []) → (x ++ y) ++ z ≡ (x ++ z) ++ y
  swap_ends x y z (inl e) = (λ i. (x ++ e i) ++ z) ∙ ap (λ w. w ++ z) (append-nil x) ∙ sym (append-nil (x ++ z)) ∙ (λ i. (x ++ z) ++ sym e i)
  swap_ends x y z (inr e) = (λ i. (x ++ y) ++ e i) ∙ append-nil (x ++ y) ∙ ap (λ w. w ++ y) (sym (append-nil x)) ∙ (λ i. (x ++ sym e i) ++ y)

  both_give : (x : List Token) (p : Port) → (x ++ m_gives p) ++ n_gives p ≡ (x ++ n_gives p) ++ m_gives p
  unfolding m_gives n_gives
  both_give x p = swap_ends x (share_from m a.given (c.feeder p)) (share_from n b.given (c.feeder p)) (one_feeds_at p (c.feeder p))

  none_to_at : (p : Port) → p.node ≡ n → (o : Option Port) → c.feeder p ≡ o → share_from m a.given o ≡ []
  none_to_at p is None e = refl
  none_to_at p is (Some q) e = share_other m a.given q (λ f. apart p q e f is)

  none_to : (p : Port) → p.node ≡ n → m_gives p ≡ []
  unfolding m_gives
  none_to p is = none_to_at p is (c.feeder p) refl

  first_between : Port → List Token
  first_between p = if bytes_eq p.node n then b.between p else s.wires p

  between : CircuitState
  between = record { wires = λ p. first_between p ++ n_gives p; slots = λ q. if bytes_eq q n then t.slots n else s.slots q }

  second_between : Port → List Token
  second_between p = if bytes_eq p.node m then a.between p ++ n_gives p else first_between p ++ n_gives p

  at_n : (p : Port) → p.node ≡ n → s.wires p ≡ share n b.taken p ++ b.between p
  unfolding m_gives
  at_n p is =
      a.takes p ∙ ap (λ z. z ++ a.between p) (share_other m a.taken p (λ e. ne (sym e ∙ is))) ∙ sym (append-nil (a.between p))
      ∙ ap (λ z. a.between p ++ z) (sym (none_to p is)) ∙ sym (a.gives p) ∙ b.takes p

  first_takes : (p : Port) → s.wires p ≡ share n b.taken p ++ first_between p
  unfolding first_between
  first_takes p =
      elim (name_cases p.node n) [
        | inl is ↦ at_n p is.is ∙ ap (λ z. share n b.taken p ++ (if z then b.between p else s.wires p)) (sym is.test)
        | inr no_n ↦ λ i. sym (share_other n b.taken p no_n.is_not) i ++ (if sym no_n.test i then b.between p else s.wires p)
      ]

  first_step : Step c s n k between
  unfolding between n_gives
  first_step =
      record {
        kind = b.kind;
        is_kind = b.is_kind;
        taken = b.taken;
        given = b.given;
        acts = subst (λ z. Acts b.kind k z b.taken b.given (if bytes_eq n n then t.slots n else s.slots n)) (a.others n (λ e. ne (sym e)))
            (subst (λ z. Acts b.kind k (u.slots n) b.taken b.given (if z then t.slots n else s.slots n)) (sym (same_bytes n n refl)) b.acts);
        between = first_between;
        takes = first_takes;
        gives = λ p. refl;
        others = λ q no_n. ap (λ z. if z then t.slots n else s.slots q) (other_bytes q n no_n);
      }

  second_takes : (p : Port) → between.wires p ≡ share m a.taken p ++ second_between p
  unfolding between second_between first_between
  second_takes p =
      elim (name_cases p.node m) [
        | inl is ↦
            ap (λ z. (if z then b.between p else s.wires p) ++ n_gives p) (other_bytes p.node n (λ e. ne (sym is.is ∙ e)))
            ∙ ap (λ z. z ++ n_gives p) (a.takes p) ∙ append_assoc (share m a.taken p) (a.between p) (n_gives p)
            ∙ ap (λ z. share m a.taken p ++ (if z then a.between p ++ n_gives p else first_between p ++ n_gives p)) (sym is.test)
        | inr no_m ↦ λ i. sym (share_other m a.taken p no_m.is_not) i ++ (if sym no_m.test i then a.between p ++ n_gives p else first_between p ++ n_gives p)
      ]

  kept_n : (p : Port) → p.node ≢ n → u.wires p ≡ b.between p
  kept_n p no_n = b.takes p ∙ ap (λ z. z ++ b.between p) (share_other n b.taken p no_n)

  kept_m : (p : Port) → p.node ≢ m → s.wires p ≡ a.between p
  kept_m p no_m = a.takes p ∙ ap (λ z. z ++ a.between p) (share_other m a.taken p no_m)

  -- what a wire that n does not take from holds at the end
  plain_end : (p : Port) → p.node ≢ n → t.wires p ≡ (a.between p ++ n_gives p) ++ m_gives p
  unfolding m_gives n_gives both_give
  plain_end p no_n =
      b.gives p ∙ ap (λ z. z ++ share_from n b.given (c.feeder p)) (sym (kept_n p no_n) ∙ a.gives p) ∙ both_give (a.between p) p

  second_gives : (p : Port) → t.wires p ≡ second_between p ++ m_gives p
  unfolding second_between first_between n_gives m_gives
  second_gives p =
      elim (name_cases p.node m) [
        | inl is ↦
            plain_end p (λ e. ne (sym is.is ∙ e)) ∙ ap (λ z. (if z then a.between p ++ n_gives p else first_between p ++ n_gives p) ++ m_gives p) (sym is.test)
        | inr no_m ↦ elim (name_cases p.node n) [
          | inl is ↦
              b.gives p ∙ ap (λ z. (if z then b.between p else s.wires p) ++ n_gives p) (sym is.test)
              ∙ ap (λ z. if z then a.between p ++ n_gives p else first_between p ++ n_gives p) (sym no_m.test)
              ∙ sym (append-nil _) ∙ ap (λ z. second_between p ++ z) (sym (none_to p is.is))
          | inr no_n ↦
              plain_end p no_n.is_not ∙ ap (λ z. (z ++ n_gives p) ++ m_gives p) (sym (kept_m p no_m.is_not) ∙ ap (λ z. if z then b.between p else s.wires p) (sym no_n.test))
              ∙ ap (λ z. (if z then a.between p ++ n_gives p else first_between p ++ n_gives p) ++ m_gives p) (sym no_m.test)
        ]
      ]

  second_step : Step c between m j t
  unfolding between m_gives
  second_step =
      record {
        kind = a.kind;
        is_kind = a.is_kind;
        taken = a.taken;
        given = a.given;
        acts = subst (λ z. Acts a.kind j z a.taken a.given (t.slots m)) (sym (ap (λ z. if z then t.slots n else s.slots m) (other_bytes m n ne)))
            (subst (λ z. Acts a.kind j (s.slots m) a.taken a.given z) (sym (b.others m ne)) a.acts);
        between = second_between;
        takes = second_takes;
        gives = second_gives;
        others = λ q no_m.
            elim (name_cases q n) [
              | inl is ↦ ap t.slots is.is ∙ ap (λ z. if z then t.slots n else s.slots q) (sym is.test)
              | inr no_n ↦ b.others q no_n.is_not ∙ a.others q no_m ∙ ap (λ z. if z then t.slots n else s.slots q) (sym no_n.test)
            ];
      }

  -- the second node can go first, and the end is the same
  pub swapped : (w : CircuitState) × Step c s n k w × Step c w m j t
  swapped = (between, first_step, second_step)

module _ (c : Circuit) (late : Name → Bool) (on : GoesOn c late) where
  differ : (m n : Name) → late m ≡ true → late n ≡ false → m ≢ n
  differ m n e f is = let k : true ≡ false = sym e ∙ ap late is ∙ f in let z : ⊥ = cc in z

  -- a late firing goes behind early ones
  behind : (s : CircuitState) (g : Firing) (u : CircuitState) (fs : List Firing) (t : CircuitState) → late g.node ≡ true → AllByRecursion (λ f. late f.node ≡ false) fs → Step c s g.node (Fire g.choice) u → Firings c u fs t → (w : CircuitState) × Firings c s fs w × Step c w g.node (Fire g.choice) t
  behind s g u [] t e h st r = (s, refl, subst (Step c s g.node (Fire g.choice)) r st)
  behind s g u (f ∷ fs) t e h st r =
      let (w, one, two) = swapped c s u r.0 g.node f.node (Fire g.choice) (Fire f.choice) st r.1 (differ g.node f.node e h.0)
      (λ p q fed is at. differ p.node f.node (on p q fed (ap late is ∙ e)) h.0 at) in
      let (v, rest, last) = behind w g r.0 fs t e h.1 two r.2 in
      (v, (w, one, rest), last)

  order_one : (s : CircuitState) (g : Firing) (u t : CircuitState) → Step c s g.node (Fire g.choice) u → InOrder c late u t → (b : Bool) → late g.node ≡ b → InOrder c late s t
  order_one s g u t st h false e =
      record {
        early = g ∷ h.early;
        middle = h.middle;
        later = h.later;
        first = (u, st, h.first);
        then_late = h.then_late;
        are_early = (e, h.are_early);
        are_late = h.are_late;
      }
  order_one s g u t st h true e =
      let (w, rest, last) = behind s g u h.early h.middle e h.are_early st h.first in
      record {
        early = h.early;
        middle = w;
        later = g ∷ h.later;
        first = rest;
        then_late = (h.middle, last, h.then_late);
        are_early = h.are_early;
        are_late = (e, h.are_late);
      }

  -- where no wire leads from a late node to an early one, the early nodes can fire first
  pub in_order : (s : CircuitState) (fs : List Firing) (t : CircuitState) → Firings c s fs t → InOrder c late s t
  in_order s [] t r =
      record { early = []; middle = s; later = []; first = refl; then_late = r; are_early = tt; are_late = tt }
  in_order s (g ∷ fs) t r = order_one s g r.0 t r.1 (in_order r.0 fs t r.2) (late g.node) refl
