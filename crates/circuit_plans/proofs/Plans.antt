-- Plans: what a step of one is, and that plans that match are circuits that match.
use Rattle.std.proofs.Common.{◌≡◌, ◌≢◌, ℕ, refl, sym, ap, subst, ◌∙◌, true, false, Bool, bytes_eq, if◌then◌else◌, List, [], ◌∷◌, ◌++◌, Option, Some, None}
use Rattle.std.specs.List.{AllByRecursion}
use Rattle.std.proofs.lemmas.Option.{same_Some}
use Rattle.port_types.specs.Token.{Fits}
use Rattle.components.specs.Name.{Name, Port, port_get}
use Rattle.components.specs.Kind.{Shape, ins}
use Rattle.components.specs.Orders.{other_bytes, same_bytes}
use Rattle.circuits.specs.PortTokens.{Token, at_port, share, share_from}
use Rattle.circuits.specs.Firing.{Label, Label.Feed, Label.Take, Label.Fire, Acts}
use Rattle.circuits.specs.CircuitState.{Slot, CircuitState, IsStateOf, start, initial}
use Rattle.circuits.specs.Run.{Step}
use Rattle.circuits.specs.Circuit.{kind_of}
use Rattle.circuits.proofs.Steps.{share_other}
use Rattle.circuits.proofs.Beside.{none_some}
use Rattle.circuits.proofs.Simulation.{Inner, inner_none, inner_one, inner_then}
use Rattle.circuits.proofs.Matching.{Matches}
pub use Rattle.circuit_plans.specs.Plans.{Out, Plan, Naming, kind_by, out_by, feeder_by, built}

pub record Held (N : Type 0) : Type 0 where
  pub wires : N → ℕ → List Token
  pub slots : N → List Slot

abbrev pub part : {N : Type 0} → Plan N → N → List (List Token) → N → ℕ → List Token
part c n side m i = if c.same m n then at_port side i else []

abbrev pub part_from : {N : Type 0} → Plan N → N → List (List Token) → Option (Out N) → List Token
part_from c n side None = []
part_from c n side (Some q) = part c n side q.at q.port

-- one step, as in a circuit
pub record PlanStep {N : Type 0} (c : Plan N) (s : Held N) (n : N) (l : Label) (t : Held N) : Type 0 where
  pub taken : List (List Token)
  pub given : List (List Token)
  pub acts : Acts (c.kind n) l (s.slots n) taken given (t.slots n)
  pub between : N → ℕ → List Token
  pub takes : (m : N) (i : ℕ) → s.wires m i ≡ part c n taken m i ++ between m i
  pub gives : (m : N) (i : ℕ) → t.wires m i ≡ between m i ++ part_from c n given (c.source m i)
  pub others : (m : N) → c.same m n ≡ false → t.slots m ≡ s.slots m

pub data PlanInner {N : Type 0} (c : Plan N) (t : Held N) : Held N → Type 0 where
  rest : PlanInner c t t
  fires : {s : Held N} (n : N) (k : ℕ) (m : Held N) → PlanStep c s n (Fire k) m → PlanInner c t m → PlanInner c t s

abbrev pub held_of : {N : Type 0} → Naming N → CircuitState → Held N
held_of x s = record { wires = λ n i. s.wires (record { node = x.name n; port = i }); slots = λ n. s.slots (x.name n) }

module _ {N : Type 0} (c : Plan N) (x : Naming N) where
  pub name_inj : (a b : N) → x.name a ≡ x.name b → a ≡ b
  name_inj a b e = same_Some a b (sym (x.known a) ∙ ap x.which e ∙ x.known b)

  same_at : (a b : N) (r : Bool) → c.same a b ≡ r → bytes_eq (x.name a) (x.name b) ≡ r
  same_at a b true e = same_bytes (x.name a) (x.name b) (ap x.name (c.same_is a b e))
  same_at a b false e =
      other_bytes (x.name a) (x.name b) (λ is. let y : true ≡ false = sym (c.same_self a) ∙ ap (c.same a) (name_inj a b is) ∙ e in cc)

  pub same_names : (a b : N) → bytes_eq (x.name a) (x.name b) ≡ c.same a b
  same_names a b = same_at a b (c.same a b) refl

  share_part : (n : N) (side : List (List Token)) (m : N) (i : ℕ) → share (x.name n) side (record { node = x.name m; port = i }) ≡ part c n side m i
  share_part n side m i = ap (λ b. if b then at_port side i else []) (same_names m n)

  share_out : (n : N) (side : List (List Token)) (o : Option (Out N)) → share_from (x.name n) side (out_by x o) ≡ part_from c n side o
  share_out n side None = refl
  share_out n side (Some q) = share_part n side q.at q.port

  pub feeder_named : (m : N) (i : ℕ) → (built c x).feeder (record { node = x.name m; port = i }) ≡ out_by x (c.source m i)
  feeder_named m i = ap (λ o. feeder_by c x o i) (x.known m)

  pub kind_named : (n : N) → (built c x).kind_at (x.name n) ≡ Some (c.kind n)
  kind_named n = ap (kind_by c) (x.known n)

  -- a step of the circuit is a step of the plan
  pub plan_step : (s : CircuitState) (n : N) (l : Label) (t : CircuitState) → Step (built c x) s (x.name n) l t → PlanStep c (held_of x s) n l (held_of x t)
  plan_step s n l t st =
      record {
        taken = st.taken;
        given = st.given;
        acts = subst (λ k. Acts k l (s.slots (x.name n)) st.taken st.given (t.slots (x.name n))) (same_Some st.kind (c.kind n) (sym st.is_kind ∙ kind_named n)) st.acts;
        between = λ m i. st.between (record { node = x.name m; port = i });
        takes = λ m i. st.takes (record { node = x.name m; port = i }) ∙ ap (λ z. z ++ st.between (record { node = x.name m; port = i })) (share_part n st.taken m i);
        gives = λ m i.
            st.gives (record { node = x.name m; port = i })
            ∙ ap (λ z. st.between (record { node = x.name m; port = i }) ++ z) (ap (share_from (x.name n) st.given) (feeder_named m i) ∙ share_out n st.given (c.source m i));
        others = λ m e. st.others (x.name m) (λ is. let y : true ≡ false = sym (c.same_self m) ∙ ap (c.same m) (name_inj m n is) ∙ e in cc);
      }

  which_step_at : (s : CircuitState) (m : Name) (l : Label) (t : CircuitState) → Step (built c x) s m l t → (o : Option N) → x.which m ≡ o → (n : N) × (m ≡ x.name n)
  which_step_at s m l t st None e = absurd (none_some ((built c x).kind_at m) st.kind (ap (kind_by c) e) st.is_kind)
  which_step_at s m l t st (Some n) e = (n, x.named m n e)

  pub which_step : (s : CircuitState) (m : Name) (l : Label) (t : CircuitState) → Step (built c x) s m l t → (n : N) × (m ≡ x.name n)
  which_step s m l t st = which_step_at s m l t st (x.which m) refl

  -- and the other way round
  abbrev put_wire : Option N → (N → ℕ → List Token) → ℕ → List Token → List Token
  put_wire None f i old = old
  put_wire (Some n) f i old = f n i

  abbrev put_slots : Option N → (N → List Slot) → List Slot → List Slot
  put_slots None f old = old
  put_slots (Some n) f old = f n

  put : CircuitState → Held N → CircuitState
  put s w = record { wires = λ p. put_wire (x.which p.node) w.wires p.port (s.wires p); slots = λ n. put_slots (x.which n) w.slots (s.slots n) }

  put_held : (s : CircuitState) (w : Held N) → held_of x (put s w) ≡ w
  unfolding put
  put_held s w =
      λ j. record {
        wires = λ n i. put_wire (x.known n j) w.wires i (s.wires (record { node = x.name n; port = i }));
        slots = λ n. put_slots (x.known n j) w.slots (s.slots (x.name n));
      }

  module _ (s : CircuitState) (n : N) (l : Label) (w : Held N) (st : PlanStep c (held_of x s) n l w) where
    put_takes : (p : Port) (o : Option N) → x.which p.node ≡ o → s.wires p ≡ share (x.name n) st.taken p ++ put_wire o st.between p.port (s.wires p)
    put_takes p None e =
        ap (λ z. z ++ s.wires p) (sym (share_other (x.name n) st.taken p (λ is. none_some (x.which p.node) n e (ap x.which is ∙ x.known n))))
    put_takes p (Some m) e =
        let is : p.node ≡ x.name m = x.named p.node m e in
        ap (λ z. s.wires (record { node = z; port = p.port })) is ∙ st.takes m p.port
        ∙ ap (λ z. z ++ st.between m p.port) (sym (share_part n st.taken m p.port) ∙ ap (λ z. share (x.name n) st.taken (record { node = z; port = p.port })) (sym is))

    put_gives : (p : Port) (o : Option N) → x.which p.node ≡ o → put_wire o w.wires p.port (s.wires p) ≡ put_wire o st.between p.port (s.wires p) ++ share_from (x.name n) st.given (feeder_by c x o p.port)
    put_gives p None e = sym (append-none (s.wires p))
      where
        append-none : (xs : List Token) → xs ++ [] ≡ xs
        append-none [] = refl
        append-none (y ∷ ys) = ap (λ z. y ∷ z) (append-none ys)
    put_gives p (Some m) e = st.gives m p.port ∙ ap (λ z. st.between m p.port ++ z) (sym (share_out n st.given (c.source m p.port)))

    put_others : (m : Name) → m ≢ x.name n → (o : Option N) → x.which m ≡ o → put_slots o w.slots (s.slots m) ≡ s.slots m
    put_others m ne None e = refl
    put_others m ne (Some k) e =
        let is : m ≡ x.name k = x.named m k e in
        st.others k (other_at (c.same k n) refl (λ t. ne (is ∙ ap x.name (c.same_is k n t)))) ∙ ap s.slots (sym is)
      where
        other_at : (b : Bool) → c.same k n ≡ b → (c.same k n ≡ true → ⊥) → c.same k n ≡ false
        other_at true f h = absurd (h f)
        other_at false f h = f

    circuit_step : Step (built c x) s (x.name n) l (put s w)
    unfolding put
    circuit_step =
        record {
          kind = c.kind n;
          is_kind = kind_named n;
          taken = st.taken;
          given = st.given;
          acts = subst (λ o. Acts (c.kind n) l (s.slots (x.name n)) st.taken st.given (put_slots o w.slots (s.slots (x.name n)))) (sym (x.known n)) st.acts;
          between = λ p. put_wire (x.which p.node) st.between p.port (s.wires p);
          takes = λ p. put_takes p (x.which p.node) refl;
          gives = λ p. put_gives p (x.which p.node) refl;
          others = λ m ne. put_others m ne (x.which m) refl;
        }

  pub circuit_inner : (w : Held N) (s : CircuitState) (h : Held N) → held_of x s ≡ h → PlanInner c w h → (t : CircuitState) × Inner (built c x) s t × (held_of x t ≡ w)
  circuit_inner w s h e rest = (s, inner_none (built c x) s, e)
  circuit_inner w s h e (fires n k m st go) =
      let st2 : PlanStep c (held_of x s) n (Fire k) m = subst (λ z. PlanStep c z n (Fire k) m) (sym e) st in
      let (t, inn, g) = circuit_inner w (put s m) m (put_held s m) go in
      (t, inner_then (built c x) s (put s m) t (inner_one (built c x) s (put s m) (x.name n) k (circuit_step s n (Fire k) m st2)) inn, g)

pub plan_then : {N : Type 0} (c : Plan N) (u t s : Held N) → PlanInner c t s → PlanInner c u t → PlanInner c u s
plan_then c u t s rest k = k
plan_then c u t s (fires n j m st go) k = fires n j m st (plan_then c u t m go k)

abbrev pub plan_initial : {N : Type 0} → Plan N → Option (Out N) → List Token
plan_initial c None = []
plan_initial c (Some q) = initial (Some (c.kind q.at))

abbrev pub plan_start : {N : Type 0} → Plan N → Held N
plan_start c = record { wires = λ n i. plan_initial c (c.source n i); slots = λ n. [] }

pub start_out : {N : Type 0} (c : Plan N) (x : Naming N) (o : Option (Out N)) → initial (kind_of (built c x) (out_by x o)) ≡ plan_initial c o
start_out c x None = refl
start_out c x (Some q) = ap initial (kind_named c x q.at)

pub held_start : {N : Type 0} (c : Plan N) (x : Naming N) → held_of x (start (built c x)) ≡ plan_start c
held_start c x =
    λ j. record {
      wires = λ n i. (ap (λ o. initial (kind_of (built c x) o)) (feeder_named c x n i) ∙ start_out c x (c.source n i)) j;
      slots = λ n. [];
    }

-- the tokens of each input fit
abbrev pub PlanFits : {N : Type 0} → Plan N → Held N → Type 0
PlanFits {N = N} c s = (n : N) (i : ℕ) (a : Shape) → port_get (ins (c.kind n)) i ≡ Some a → AllByRecursion (Fits a) (s.wires n i)

plan_fits : {N : Type 0} (c : Plan N) (x : Naming N) (s : CircuitState) → IsStateOf (built c x) s → PlanFits c (held_of x s)
plan_fits c x s h n i a e = h.wires (record { node = x.name n; port = i }) (c.kind n) a (kind_named c x n) e

-- what the author of a rule shows of two plans
pub record PlanMatches {N M : Type 0} (h : Plan N) (g : Plan M) (hx : Naming N) (gx : Naming M) : Type 1 where
  pub R : Held N → Held M → Type 0
  pub begins : R (plan_start h) (plan_start g)
  pub feeds : (s : Held N) (t : Held M) (u : Held N) (n : N) (v : Token) → R s t → PlanStep h s n (Feed v) u → (m : M) × (hx.name n ≡ gx.name m) × (w : Held M) × PlanStep g t m (Feed v) w × R u w
  pub takes : (s : Held N) (t : Held M) (u : Held N) (n : N) (v : Token) → PlanFits g t → R s t → PlanStep h s n (Take v) u → (m : M) × (hx.name n ≡ gx.name m) × (y w : Held M) × PlanInner g y t × PlanStep g y m (Take v) w × R u w
  pub fires : (s : Held N) (t : Held M) (u : Held N) (n : N) (c : ℕ) → PlanFits g t → R s t → PlanStep h s n (Fire c) u → (w : Held M) × PlanInner g w t × R u w

module _ {N M : Type 0} (h : Plan N) (g : Plan M) (hx : Naming N) (gx : Naming M) (p : PlanMatches h g hx gx) where
  abbrev Rel : CircuitState → CircuitState → Type 0
  Rel s t = p.R (held_of hx s) (held_of gx t)

  go_feeds : (s t u : CircuitState) (n : N) (v : Token) → Rel s t → Step (built h hx) s (hx.name n) (Feed v) u → (w : CircuitState) × Step (built g gx) t (hx.name n) (Feed v) w × Rel u w
  go_feeds s t u n v r st =
      let (m, e, w, st2, r2) = p.feeds (held_of hx s) (held_of gx t) (held_of hx u) n v r (plan_step h hx s n (Feed v) u st) in (
        put g gx t w,
        subst (λ z. Step (built g gx) t z (Feed v) (put g gx t w)) (sym e) (circuit_step g gx t m (Feed v) w st2),
        subst (p.R (held_of hx u)) (sym (put_held g gx t w)) r2,
      )

  go_takes : (s t u : CircuitState) (n : N) (v : Token) → IsStateOf (built g gx) t → Rel s t → Step (built h hx) s (hx.name n) (Take v) u → (y w : CircuitState) × Inner (built g gx) t y × Step (built g gx) y (hx.name n) (Take v) w × Rel u w
  go_takes s t u n v ft r st =
      let (m, e, y, w, inn, st2, r2) = p.takes (held_of hx s) (held_of gx t) (held_of hx u) n v (plan_fits g gx t ft) r (plan_step h hx s n (Take v) u st) in
      let (y2, inn2, ey) = circuit_inner g gx y t (held_of gx t) refl inn in
      let st3 : PlanStep g (held_of gx y2) m (Take v) w = subst (λ z. PlanStep g z m (Take v) w) (sym ey) st2 in (
        y2,
        put g gx y2 w,
        inn2,
        subst (λ z. Step (built g gx) y2 z (Take v) (put g gx y2 w)) (sym e) (circuit_step g gx y2 m (Take v) w st3),
        subst (p.R (held_of hx u)) (sym (put_held g gx y2 w)) r2,
      )

  go_fires : (s t u : CircuitState) (n : N) (c : ℕ) → IsStateOf (built g gx) t → Rel s t → Step (built h hx) s (hx.name n) (Fire c) u → (w : CircuitState) × Inner (built g gx) t w × Rel u w
  go_fires s t u n c ft r st =
      let (w, inn, r2) = p.fires (held_of hx s) (held_of gx t) (held_of hx u) n c (plan_fits g gx t ft) r (plan_step h hx s n (Fire c) u st) in
      let (y, inn2, ey) = circuit_inner g gx w t (held_of gx t) refl inn in
      (y, inn2, subst (p.R (held_of hx u)) (sym ey) r2)

  -- plans that match are circuits that match
  pub matches_of : Matches (built h hx) (built g gx)
  matches_of =
      record {
        R = Rel;
        begins = subst (λ z. p.R z (held_of gx (start (built g gx)))) (sym (held_start h hx)) (subst (p.R (plan_start h)) (sym (held_start g gx)) p.begins);
        feeds = λ s t u n v fs ft r st.
            let (k, e) = which_step h hx s n (Feed v) u st in
            let (w, st2, r2) = go_feeds s t u k v r (subst (λ z. Step (built h hx) s z (Feed v) u) e st) in
            (w, subst (λ z. Step (built g gx) t z (Feed v) w) (sym e) st2, r2);
        takes = λ s t u n v fs ft r st.
            let (k, e) = which_step h hx s n (Take v) u st in
            let (y, w, inn, st2, r2) = go_takes s t u k v ft r (subst (λ z. Step (built h hx) s z (Take v) u) e st) in
            (y, w, inn, subst (λ z. Step (built g gx) y z (Take v) w) (sym e) st2, r2);
        fires = λ s t u n c fs ft r st.
            let (k, e) = which_step h hx s n (Fire c) u st in
            go_fires s t u k c ft r (subst (λ z. Step (built h hx) s z (Fire c) u) e st);
      }
