-- A Buffer more or less: the steps that are matched.
use Rattle.std.proofs.Common.{◌≡◌, ◌≢◌, ℕ, zero, suc, inl, inr, refl, sym, ap, subst, ◌∙◌, true, false, bytes_eq, if◌then◌else◌, List, [], ◌∷◌, ◌++◌, Option, Some, None, append-nil, append_assoc}
use Rattle.std.proofs.lemmas.List.{append_cancel_left}
use Rattle.std.proofs.lemmas.Option.{same_Some}
use Rattle.components.specs.declared.kind.Kind.{Kind}
use Rattle.components.specs.declared.kind.Kind.TheVariants.{Entry, Buffer, Fork}
use Rattle.components.specs.Name.{Name, Port, port_get}
use Rattle.components.specs.Kind.{Shape, ins, outs}
use Rattle.components.specs.Orders.{same_bytes, other_bytes}
use Rattle.components.specs.Numbered.{single_port}
use Rattle.circuits.specs.PortTokens.{Token, share, share_from, at_port, one}
use Rattle.circuits.specs.Circuit.{Circuit, kind_of, Typed}
use Rattle.circuits.specs.CircuitState.{Slot, CircuitState, start, initial}
use Rattle.circuits.specs.Firing.{Label, Label.Feed, Label.Take, Label.Fire, Acts, Fires}
use Rattle.circuits.specs.Run.{Step}
use Rattle.circuits.specs.Buffers.{first_port, bypass, drop_node}
use Rattle.circuits.proofs.Names.{name_cases}
use Rattle.circuits.proofs.Steps.{acts_at, share_none, share_other, share_same, append_none}
use Rattle.circuits.proofs.Simulation.{Inner, inner_then, inner_one, inner_none}
use Rattle.circuits.proofs.Matching.{Matches}

-- a kind that passes its one input to its one output
pub record IsPlain (k : Kind) (a : Shape) : Type 0 where
  pub does : (c : ℕ) (old : List Slot) (taken given : List (List Token)) (new : List Slot) → Fires k c old taken given new → (v : Token) × (taken ≡ one v ∷ []) × (given ≡ one v ∷ []) × (new ≡ old)
  pub can : (v : Token) (old : List Slot) → Fires k 0 old (one v ∷ []) (one v ∷ []) old
  pub no_feed : (v : Token) (old : List Slot) (taken given : List (List Token)) (new : List Slot) → Acts k (Feed v) old taken given new → ⊥
  pub no_take : (v : Token) (old : List Slot) (taken given : List (List Token)) (new : List Slot) → Acts k (Take v) old taken given new → ⊥
  pub input : ins k ≡ a ∷ []
  pub output : outs k ≡ a ∷ []
  pub empty : initial (Some k) ≡ []

pub buffer_plain : (a : Shape) → IsPlain (Buffer a) a
buffer_plain a =
    record {
      does = λ c old taken given new (v, z, et, eg, en). (v, et, eg, en);
      can = λ v old. (v, refl, refl, refl, refl);
      no_feed = λ v old taken given new h. h;
      no_take = λ v old taken given new h. h;
      input = refl;
      output = refl;
      empty = refl;
    }

pub fork_plain : (a : Shape) → IsPlain (Fork a 1) a
fork_plain a =
    record {
      does = λ c old taken given new (v, z, et, eg, en). (v, et, eg, en);
      can = λ v old. (v, refl, refl, refl, refl);
      no_feed = λ v old taken given new h. h;
      no_take = λ v old taken given new h. h;
      input = refl;
      output = refl;
      empty = refl;
    }

-- b is a Buffer of c, fed by a port of another node
pub record CanDrop (c : Circuit) (b : Name) : Type 0 where
  pub kind : Kind
  pub shape : Shape
  pub is_kind : c.kind_at b ≡ Some kind
  pub plain : IsPlain kind shape
  pub before : Port
  pub is_before : c.feeder (first_port b) ≡ Some before
  pub other : before.node ≢ b

abbrev pub held : Name → CircuitState → Option Port → List Token
held b t None = []
held b t (Some q) = if bytes_eq q.node b then t.wires (first_port b) else []

-- s has on each wire what stood behind b in t followed by what stands before it
pub record Ahead (c : Circuit) (b : Name) (s t : CircuitState) : Type 0 where
  pub wires : (p : Port) → p.node ≢ b → s.wires p ≡ t.wires p ++ held b t (c.feeder p)
  pub slots : (n : Name) → n ≢ b → s.slots n ≡ t.slots n

-- one step of another node, in both
glued : (b : Name) (t w : CircuitState) (n : Name) (given : List (List Token)) (before : Option Port) → n ≢ b → w.wires (first_port b) ≡ t.wires (first_port b) ++ share_from n given before → (rest : List Token) (o : Option Port) → (rest ++ held b t o) ++ share_from n given (bypass b before o) ≡ (rest ++ share_from n given o) ++ held b w o
glued b t w n given before ne e rest None = refl
glued b t w n given before ne e rest (Some q) =
    elim (name_cases q.node b) [
      | inl is ↦
          let at : Name = b in
          rw (is.test, share_other n given q (λ x. ne (sym x ∙ is.is)), append-nil rest, e) (append_assoc rest (t.wires (first_port b)) (share_from n given before))
      | inr no_one ↦ rw (no_one.test) (ap (λ z. z ++ share n given q) (append-nil rest) ∙ sym (append-nil (rest ++ share n given q)))
    ]

module _ (c : Circuit) (b : Name) (can : CanDrop c b) where
  pub kind_dropped : (n : Name) → n ≢ b → (drop_node b c).kind_at n ≡ c.kind_at n
  kind_dropped n ne = ap (λ z. if z then None else c.kind_at n) (other_bytes n b ne)

  pub kind_gone : (n : Name) → n ≡ b → (drop_node b c).kind_at n ≡ None
  kind_gone n is = ap (λ z. if z then None else c.kind_at n) (same_bytes n b is)

  pub no_step : (s : CircuitState) (n : Name) (l : Label) (t : CircuitState) → Step (drop_node b c) s n l t → n ≢ b
  no_step s n l t st is = let k : None ≡ Some st.kind = sym (kind_gone n is) ∙ st.is_kind in cc

  pub feeder_dropped : (p : Port) → p.node ≢ b → (drop_node b c).feeder p ≡ bypass b (c.feeder (first_port b)) (c.feeder p)
  feeder_dropped p ne = ap (λ z. if z then None else bypass b (c.feeder (first_port b)) (c.feeder p)) (other_bytes p.node b ne)

  pub feeder_gone : (p : Port) → p.node ≡ b → (drop_node b c).feeder p ≡ None
  feeder_gone p is = ap (λ z. if z then None else bypass b (c.feeder (first_port b)) (c.feeder p)) (same_bytes p.node b is)

  -- a step of another node of c is a step without b
  module _ (s t : CircuitState) (ahead : Ahead c b s t) (n : Name) (l : Label) (w : CircuitState) (ne : n ≢ b) (st : Step c t n l w) where
    down_between : Port → List Token
    down_between p = if bytes_eq p.node b then s.wires p else st.between p ++ held b t (c.feeder p)

    pub down_to : CircuitState
    unfolding down_between
    down_to =
        record {
          wires = λ p. down_between p ++ share_from n st.given ((drop_node b c).feeder p);
          slots = λ m. if bytes_eq m b then s.slots m else w.slots m;
        }

    down_takes : (p : Port) → s.wires p ≡ share n st.taken p ++ down_between p
    unfolding down_between
    down_takes p =
        elim (name_cases p.node b) [
          | inl is ↦ rw (is.test, share_other n st.taken p (λ e. ne (sym e ∙ is.is)))
          | inr away ↦ rw (away.test) (ahead.wires p away.is_not ∙ ap (λ z. z ++ held b t (c.feeder p)) (st.takes p) ∙ append_assoc (share n st.taken p) (st.between p) (held b t (c.feeder p)))
        ]

    pub down_step : Step (drop_node b c) s n l down_to
    unfolding down_to
    down_step =
        record {
          kind = st.kind;
          is_kind = kind_dropped n ne ∙ st.is_kind;
          taken = st.taken;
          given = st.given;
          acts = subst (λ z. Acts st.kind l z st.taken st.given (if bytes_eq n b then s.slots n else w.slots n)) (sym (ahead.slots n ne))
              (subst (λ z. Acts st.kind l (t.slots n) st.taken st.given (if z then s.slots n else w.slots n)) (sym (other_bytes n b ne)) st.acts);
          between = down_between;
          takes = down_takes;
          gives = λ p. refl;
          others = λ m mn.
              elim (name_cases m b) [
                | inl is ↦ rw is.test
                | inr away ↦ rw (away.test) (st.others m mn ∙ sym (ahead.slots m away.is_not))
              ];
        }

    before_moves : w.wires (first_port b) ≡ t.wires (first_port b) ++ share_from n st.given (c.feeder (first_port b))
    before_moves =
        st.gives (first_port b)
        ∙ ap (λ z. z ++ share_from n st.given (c.feeder (first_port b)))
        (sym (st.takes (first_port b) ∙ ap (λ z. z ++ st.between (first_port b)) (share_other n st.taken (first_port b) (λ e. ne (sym e)))))

    pub down_ahead : Ahead c b down_to w
    unfolding down_to down_between
    down_ahead =
        record {
          wires = λ p away.
              ap (λ z. (if z then s.wires p else st.between p ++ held b t (c.feeder p)) ++ share_from n st.given ((drop_node b c).feeder p)) (other_bytes p.node b away)
              ∙ ap (λ z. (st.between p ++ held b t (c.feeder p)) ++ share_from n st.given z) (feeder_dropped p away)
              ∙ glued b t w n st.given (c.feeder (first_port b)) ne before_moves (st.between p) (c.feeder p)
              ∙ ap (λ z. z ++ held b w (c.feeder p)) (sym (st.gives p));
          slots = λ m away. ap (λ z. if z then s.slots m else w.slots m) (other_bytes m b away);
        }

  -- a step without b is a step of c, where c's wires have at their heads what is taken
  module _ (s t : CircuitState) (ahead : Ahead c b s t) (n : Name) (l : Label) (u : CircuitState) (st : Step (drop_node b c) s n l u)
      (rest : Port → List Token) (able : (p : Port) → p.node ≢ b → t.wires p ≡ share n st.taken p ++ rest p) where
    up_between : Port → List Token
    up_between p = if bytes_eq p.node b then t.wires p else rest p

    pub up_to : CircuitState
    up_to =
        record {
          wires = λ p. up_between p ++ share_from n st.given (c.feeder p);
          slots = λ m. if bytes_eq m b then t.slots m else u.slots m;
        }

    up_takes : (p : Port) → t.wires p ≡ share n st.taken p ++ up_between p
    unfolding up_between
    up_takes p =
        elim (name_cases p.node b) [
          | inl is ↦ rw (is.test, share_other n st.taken p (λ e. no_step s n l u st (sym e ∙ is.is)))
          | inr away ↦ rw (away.test) (able p away.is_not)
        ]

    pub up_step : Step c t n l up_to
    unfolding up_to
    up_step =
        let ne : n ≢ b = no_step s n l u st in
        record {
          kind = st.kind;
          is_kind = sym (kind_dropped n ne) ∙ st.is_kind;
          taken = st.taken;
          given = st.given;
          acts = subst (λ z. Acts st.kind l z st.taken st.given (if bytes_eq n b then t.slots n else u.slots n)) (ahead.slots n ne)
              (subst (λ z. Acts st.kind l (s.slots n) st.taken st.given (if z then t.slots n else u.slots n)) (sym (other_bytes n b ne)) st.acts);
          between = up_between;
          takes = up_takes;
          gives = λ p. refl;
          others = λ m mn.
              elim (name_cases m b) [
                | inl is ↦ rw is.test
                | inr away ↦ rw (away.test) (st.others m mn ∙ ahead.slots m away.is_not)
              ];
        }

    up_before : up_to.wires (first_port b) ≡ t.wires (first_port b) ++ share_from n st.given (c.feeder (first_port b))
    unfolding up_to up_between
    up_before = rw (same_bytes b b refl)

    between_rest : (p : Port) → p.node ≢ b → st.between p ≡ rest p ++ held b t (c.feeder p)
    between_rest p away =
        append_cancel_left (share n st.taken p) (st.between p) (rest p ++ held b t (c.feeder p))
        (sym (st.takes p) ∙ ahead.wires p away ∙ ap (λ z. z ++ held b t (c.feeder p)) (able p away) ∙ append_assoc (share n st.taken p) (rest p) (held b t (c.feeder p)))

    up_wires : (p : Port) → p.node ≢ b → rest p ++ share_from n st.given (c.feeder p) ≡ up_to.wires p
    unfolding up_to up_between
    up_wires p away = rw (other_bytes p.node b away)

    up_slots : (m : Name) → m ≢ b → u.slots m ≡ up_to.slots m
    unfolding up_to
    up_slots m away = rw (other_bytes m b away)

    pub up_ahead : Ahead c b u up_to
    up_ahead =
        record {
          wires = λ p away.
              st.gives p ∙ ap (λ z. st.between p ++ share_from n st.given z) (feeder_dropped p away)
              ∙ ap (λ z. z ++ share_from n st.given (bypass b (c.feeder (first_port b)) (c.feeder p))) (between_rest p away)
              ∙ glued b t up_to n st.given (c.feeder (first_port b)) (no_step s n l u st) up_before (rest p) (c.feeder p)
              ∙ ap (λ z. z ++ held b up_to (c.feeder p)) (up_wires p away);
          slots = λ m away. up_slots m away;
        }

feed_takes_none : (k : Kind) (v : Token) (old : List Slot) (taken given : List (List Token)) (new : List Slot) → Acts k (Feed v) old taken given new → taken ≡ []
feed_takes_none (Entry a) v old taken given new h = h.1
feed_takes_none _ v old taken given new h = absurd h

rest_at : List Token → (ℕ → List Token) → ℕ → List Token
rest_at vs f zero = f zero
rest_at vs f (suc zero) = vs
rest_at vs f (suc (suc i)) = f (suc (suc i))

rest_taken : (v : Token) (vs : List Token) (f : ℕ → List Token) → f 1 ≡ v ∷ vs → (i : ℕ) → f i ≡ at_port (one v ∷ []) i ++ rest_at vs f i
unfolding rest_at
rest_taken v vs f e zero = refl
rest_taken v vs f e (suc zero) = e
rest_taken v vs f e (suc (suc i)) = refl

rest_one : (vs : List Token) (f : ℕ → List Token) → rest_at vs f 1 ≡ vs
unfolding rest_at
rest_one vs f = refl

module _ (c : Circuit) (b : Name) (can : CanDrop c b) (ty : Typed c) where
  -- b's one output
  pub out_port : (p q : Port) → c.feeder p ≡ Some q → q.node ≡ b → q.port ≡ 1
  out_port p q f is =
      let w = ty.wires p q f in
      let same : w.from ≡ can.kind = same_Some w.from can.kind (sym w.is_from ∙ ap c.kind_at is ∙ can.is_kind) in
      single_port can.shape w.shape q.port (ap (λ z. port_get z q.port) (sym (ap outs same ∙ can.plain.output)) ∙ w.leaves)

  -- when b fires, nothing is seen of it
  module _ (t : CircuitState) (k : ℕ) (w : CircuitState) (st : Step c t b (Fire k) w) where
    pass_at : (s : CircuitState) (v : Token) → st.taken ≡ one v ∷ [] → st.given ≡ one v ∷ [] → (p : Port) → p.node ≢ b → (o : Option Port) → c.feeder p ≡ o → s.wires p ≡ t.wires p ++ held b t o → s.wires p ≡ w.wires p ++ held b w o
    pass_at s v et eg p away o f e =
        let kept : t.wires p ≡ st.between p = st.takes p ∙ ap (λ z. z ++ st.between p) (share_other b st.taken p away) in
        let goes : w.wires p ≡ st.between p ++ share_from b (one v ∷ []) o = st.gives p ∙ (λ i. st.between p ++ share_from b (eg i) (f i)) in
        e ∙ ap (λ z. z ++ held b t o) kept ∙ pass_rest o f ∙ ap (λ z. z ++ held b w o) (sym goes)
      where
        before : Port
        before = first_port b

        was : t.wires before ≡ one v ++ st.between before
        was = st.takes before ∙ ap (λ z. share b z before ++ st.between before) et ∙ ap (λ z. z ++ st.between before) (share_same b (one v ∷ []) before refl)

        is_now : w.wires before ≡ st.between before
        is_now =
            st.gives before ∙ ap (λ z. st.between before ++ share_from b st.given z) can.is_before
            ∙ ap (λ z. st.between before ++ z) (share_other b st.given can.before can.other) ∙ append-nil (st.between before)

        pass_rest : (o' : Option Port) → c.feeder p ≡ o' → st.between p ++ held b t o' ≡ (st.between p ++ share_from b (one v ∷ []) o') ++ held b w o'
        pass_rest None f' = sym (append-nil (st.between p ++ []))
        pass_rest (Some q) f' =
            elim (name_cases q.node b) [
              | inl is ↦
                  rw (is.test, out_port p q f' is.is)
                  (ap (λ z. st.between p ++ z) was ∙ sym (append_assoc (st.between p) (one v) (st.between before)) ∙ ap (λ z. (st.between p ++ one v) ++ z) (sym is_now))
              | inr no_one ↦ rw (no_one.test) (sym (append-nil (st.between p ++ [])))
            ]

    pub pass_ahead : (s : CircuitState) → Ahead c b s t → Ahead c b s w
    pass_ahead s ahead =
        let (v, et, eg, en) = can.plain.does k (t.slots b) st.taken st.given (w.slots b) (acts_at c t b (Fire k) w st can.kind can.is_kind) in
        record {
          wires = λ p away. pass_at s v et eg p away (c.feeder p) refl (ahead.wires p away);
          slots = λ n away. ahead.slots n away ∙ sym (st.others n away);
        }

  -- b can fire where a token stands before it
  pub passing : (t : CircuitState) (v : Token) (vs : List Token) → CircuitState
  passing t v vs =
      record {
        wires = λ p. (if bytes_eq p.node b then rest_at vs (λ i. t.wires (record { node = b; port = i })) p.port else t.wires p) ++ share_from b (one v ∷ []) (c.feeder p);
        slots = t.slots;
      }

  pass_takes : (t : CircuitState) (v : Token) (vs : List Token) → t.wires (first_port b) ≡ v ∷ vs → (p : Port) → t.wires p ≡ share b (one v ∷ []) p ++ (if bytes_eq p.node b then rest_at vs (λ i. t.wires (record { node = b; port = i })) p.port else t.wires p)
  pass_takes t v vs e p =
      elim (name_cases p.node b) [
        | inl is ↦ rw (is.test) (ap (λ z. t.wires (record { node = z; port = p.port })) is.is ∙ rest_taken v vs (λ i. t.wires (record { node = b; port = i })) e p.port)
        | inr away ↦ rw (away.test)
      ]

  pub pass : (t : CircuitState) (v : Token) (vs : List Token) → t.wires (first_port b) ≡ v ∷ vs → Step c t b (Fire 0) (passing t v vs)
  unfolding passing
  pass t v vs e =
      record {
        kind = can.kind;
        is_kind = can.is_kind;
        taken = one v ∷ [];
        given = one v ∷ [];
        acts = can.plain.can v (t.slots b);
        between = λ p. if bytes_eq p.node b then rest_at vs (λ i. t.wires (record { node = b; port = i })) p.port else t.wires p;
        takes = pass_takes t v vs e;
        gives = λ p. refl;
        others = λ m h. refl;
      }

  pub passed : (t : CircuitState) (v : Token) (vs : List Token) → (passing t v vs).wires (first_port b) ≡ vs
  unfolding passing
  passed t v vs =
      ap (λ z. (if z then rest_at vs (λ i. t.wires (record { node = b; port = i })) 1 else t.wires (first_port b)) ++ share_from b (one v ∷ []) (c.feeder (first_port b))) (same_bytes b b refl)
      ∙ ap (λ z. rest_at vs (λ i. t.wires (record { node = b; port = i })) 1 ++ share_from b (one v ∷ []) z) can.is_before
      ∙ ap (λ z. rest_at vs (λ i. t.wires (record { node = b; port = i })) 1 ++ z) (share_other b (one v ∷ []) can.before can.other)
      ∙ append-nil (rest_at vs (λ i. t.wires (record { node = b; port = i })) 1) ∙ rest_one vs (λ i. t.wires (record { node = b; port = i }))

  -- b fires until nothing stands before it
  pub record Drained (s t : CircuitState) : Type 0 where
    pub to : CircuitState
    pub inner : Inner c t to
    pub ahead : Ahead c b s to
    pub empty : to.wires (first_port b) ≡ []

  pub drain : (s : CircuitState) (xs : List Token) (t : CircuitState) → t.wires (first_port b) ≡ xs → Ahead c b s t → Drained s t
  drain s [] t e a = record { to = t; inner = inner_none c t; ahead = a; empty = e }
  drain s (v ∷ vs) t e a =
      let st : Step c t b (Fire 0) (passing t v vs) = pass t v vs e in
      let d = drain s vs (passing t v vs) (passed t v vs) (pass_ahead t 0 (passing t v vs) st s a) in
      record { to = d.to; inner = inner_then c t (passing t v vs) d.to (inner_one c t (passing t v vs) b 0 st) d.inner; ahead = d.ahead; empty = d.empty }

  pub held_none : (w : CircuitState) → w.wires (first_port b) ≡ [] → (o : Option Port) → held b w o ≡ []
  held_none w e None = refl
  held_none w e (Some q) =
      elim (bytes_eq q.node b) as (λ z. (if z then w.wires (first_port b) else []) ≡ []) [ true ↦ e | false ↦ refl ]

  pub level : (s w : CircuitState) → Ahead c b s w → w.wires (first_port b) ≡ [] → (p : Port) → p.node ≢ b → w.wires p ≡ s.wires p
  level s w a e p away = append_none (w.wires p) (held b w (c.feeder p)) (held_none w e (c.feeder p)) ∙ sym (a.wires p away)

  initial_ahead : (p : Port) → p.node ≢ b → (o : Option Port) → c.feeder p ≡ o → initial (kind_of (drop_node b c) (bypass b (c.feeder (first_port b)) o)) ≡ initial (kind_of c o) ++ held b (start c) o
  initial_ahead p away None f = refl
  initial_ahead p away (Some q) f =
      elim (name_cases q.node b) [
        | inl is ↦
            rw (is.test)
            (ap (λ z. initial (kind_of (drop_node b c) z)) can.is_before ∙ ap initial (kind_dropped c b can can.before.node can.other)
            ∙ sym (ap (λ z. initial z ++ initial (kind_of c (c.feeder (first_port b)))) (ap c.kind_at is.is ∙ can.is_kind)
            ∙ ap (λ z. z ++ initial (kind_of c (c.feeder (first_port b)))) can.plain.empty
            ∙ ap (λ z. initial (kind_of c z)) can.is_before))
        | inr no_one ↦ rw (no_one.test) (ap initial (kind_dropped c b can q.node no_one.is_not) ∙ sym (append-nil (initial (c.kind_at q.node))))
      ]

  pub start_ahead : Ahead c b (start (drop_node b c)) (start c)
  start_ahead =
      record {
        wires = λ p away. ap (λ z. initial (kind_of (drop_node b c) z)) (feeder_dropped c b can p away) ∙ initial_ahead p away (c.feeder p) refl;
        slots = λ n away. refl;
      }

  -- without b nothing new is shown
  pub drop_matches : Matches (drop_node b c) c
  drop_matches =
      record {
        R = Ahead c b;
        begins = start_ahead;
        feeds = λ s t u n v is is2 a st.
            let none : st.taken ≡ [] = feed_takes_none st.kind v (s.slots n) st.taken st.given (u.slots n) st.acts in
            let able : (p : Port) → p.node ≢ b → t.wires p ≡ share n st.taken p ++ t.wires p =
            λ p away. ap (λ z. z ++ t.wires p) (sym (ap (λ z. share n z p) none ∙ share_none n p)) in
            (up_to c b can s t a n (Feed v) u st t.wires able, up_step c b can s t a n (Feed v) u st t.wires able, up_ahead c b can s t a n (Feed v) u st t.wires able);
        takes = λ s t u n v is is2 a st.
            let d = drain s (t.wires (first_port b)) t refl a in
            let able : (p : Port) → p.node ≢ b → d.to.wires p ≡ share n st.taken p ++ st.between p = λ p away. level s d.to d.ahead d.empty p away ∙ st.takes p in
            (d.to, up_to c b can s d.to d.ahead n (Take v) u st st.between able, d.inner, up_step c b can s d.to d.ahead n (Take v) u st st.between able, up_ahead c b can s d.to d.ahead n (Take v) u st st.between able);
        fires = λ s t u n k is is2 a st.
            let d = drain s (t.wires (first_port b)) t refl a in
            let able : (p : Port) → p.node ≢ b → d.to.wires p ≡ share n st.taken p ++ st.between p = λ p away. level s d.to d.ahead d.empty p away ∙ st.takes p in
            let w = up_to c b can s d.to d.ahead n (Fire k) u st st.between able in
            (w, inner_then c t d.to w d.inner (inner_one c d.to w n k (up_step c b can s d.to d.ahead n (Fire k) u st st.between able)), up_ahead c b can s d.to d.ahead n (Fire k) u st st.between able);
      }

  -- and with b nothing new is shown either
  pub undrop_matches : Matches c (drop_node b c)
  undrop_matches =
      record {
        R = λ t s. Ahead c b s t;
        begins = start_ahead;
        feeds = λ t s w n v is is2 a st.
            let ne : n ≢ b = λ e. can.plain.no_feed v (t.slots n) st.taken st.given (w.slots n) (acts_at c t n (Feed v) w st can.kind (ap c.kind_at e ∙ can.is_kind)) in
            (down_to c b can s t a n (Feed v) w ne st, down_step c b can s t a n (Feed v) w ne st, down_ahead c b can s t a n (Feed v) w ne st);
        takes = λ t s w n v is is2 a st.
            let ne : n ≢ b = λ e. can.plain.no_take v (t.slots n) st.taken st.given (w.slots n) (acts_at c t n (Take v) w st can.kind (ap c.kind_at e ∙ can.is_kind)) in
            (s, down_to c b can s t a n (Take v) w ne st, inner_none (drop_node b c) s, down_step c b can s t a n (Take v) w ne st, down_ahead c b can s t a n (Take v) w ne st);
        fires = λ t s w n k is is2 a st.
            elim (name_cases n b) [
              | inl same ↦ (s, inner_none (drop_node b c) s, pass_ahead t k w (subst (λ z. Step c t z (Fire k) w) same.is st) s a)
              | inr ne ↦ (
                down_to c b can s t a n (Fire k) w ne.is_not st,
                inner_one (drop_node b c) s (down_to c b can s t a n (Fire k) w ne.is_not st) n k (down_step c b can s t a n (Fire k) w ne.is_not st),
                down_ahead c b can s t a n (Fire k) w ne.is_not st,
              )
            ];
      }
