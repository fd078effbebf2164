-- What is linked alike is simulated alike.
use Rattle.std.proofs.Common.{◌≡◌, ◌≢◌, ℕ, inl, inr, refl, sym, ap, subst, ◌∙◌, if◌then◌else◌, List, [], ◌∷◌, ◌++◌, Option, Some, None}
use Rattle.port_types.specs.Token.{Fits}
use Rattle.components.specs.declared.kind.Kind.{Kind}
use Rattle.components.specs.declared.kind.Kind.TheVariants.{Entry, Exit, Buffer}
use Rattle.components.specs.Name.{Name, Port}
use Rattle.components.specs.Kind.{Shape}
use Rattle.components.specs.Orders.{same_bytes, other_bytes}
use Rattle.circuits.specs.PortTokens.{Token, share, share_from, one}
use Rattle.circuits.specs.Circuit.{Circuit, kind_of}
use Rattle.circuits.specs.CircuitState.{CircuitState, start, initial}
use Rattle.circuits.specs.Firing.{Label, Label.Feed, Label.Take, Label.Fire, Acts}
use Rattle.circuits.specs.Run.{Step, Firing, Firings}
use Rattle.circuits.specs.Plug.{PlugLink, link, redirect, as_buffer}
use Rattle.circuits.proofs.Names.{name_cases}
use Rattle.circuits.proofs.Steps.{acts_at, share_none, share_from_none, share_other, share_same, append_none}
use Rattle.circuits.proofs.Simulation.{Inner, Sim, inner_then, inner_one}

-- what link asks of a circuit: an Exit and an Entry of one shape, and nothing is fed by the Exit
pub record CanLink (l : PlugLink) (c : Circuit) (a : Shape) : Type 0 where
  pub exit : c.kind_at l.exit ≡ Some (Exit a)
  pub entry : c.kind_at l.entry ≡ Some (Entry a)
  pub nothing : (p q : Port) → c.feeder p ≡ Some q → q.node ≢ l.exit

pub apart : (l : PlugLink) (c : Circuit) (a : Shape) → CanLink l c a → l.entry ≢ l.exit
apart l c a h e = let k : Some (Entry a) ≡ Some (Exit a) = sym h.entry ∙ ap c.kind_at e ∙ h.exit in cc

-- a step of another node is the same step
pub kind_other : (l : PlugLink) (c : Circuit) (n : Name) → n ≢ l.exit → n ≢ l.entry → (link l c).kind_at n ≡ c.kind_at n
kind_other l c n hx he = rw (other_bytes n l.entry he, other_bytes n l.exit hx)

redirect_other : (l : PlugLink) (n : Name) (side : List (List Token)) (o : Option Port) → n ≢ l.exit → n ≢ l.entry → share_from n side (redirect l o) ≡ share_from n side o
redirect_other l n side None hx he = refl
redirect_other l n side (Some q) hx he =
    elim (name_cases q.node l.entry) [
      | inl same ↦ rw same.test (share_other n side (record { node = l.exit; port = q.port }) (λ e. hx (sym e)) ∙ sym (share_other n side q (λ e. he (sym e ∙ same.is))))
      | inr other ↦ rw other.test
    ]

pub step_linked : (l : PlugLink) (c : Circuit) (s : CircuitState) (n : Name) (lab : Label) (t : CircuitState) → n ≢ l.exit → n ≢ l.entry → Step c s n lab t → Step (link l c) s n lab t
step_linked l c s n lab t hx he st =
    record {
      kind = st.kind;
      is_kind = kind_other l c n hx he ∙ st.is_kind;
      taken = st.taken;
      given = st.given;
      acts = st.acts;
      between = st.between;
      takes = st.takes;
      gives = λ p. st.gives p ∙ ap (λ z. st.between p ++ z) (sym (redirect_other l n st.given (c.feeder p) hx he));
      others = st.others;
    }

pub step_unlinked : (l : PlugLink) (c : Circuit) (s : CircuitState) (n : Name) (lab : Label) (t : CircuitState) → n ≢ l.exit → n ≢ l.entry → Step (link l c) s n lab t → Step c s n lab t
step_unlinked l c s n lab t hx he st =
    record {
      kind = st.kind;
      is_kind = sym (kind_other l c n hx he) ∙ st.is_kind;
      taken = st.taken;
      given = st.given;
      acts = st.acts;
      between = st.between;
      takes = st.takes;
      gives = λ p. st.gives p ∙ ap (λ z. st.between p ++ z) (redirect_other l n st.given (c.feeder p) hx he);
      others = st.others;
    }

-- the node of the link is a Buffer, and the Entry is gone
pub kind_exit : (l : PlugLink) (c : Circuit) (a : Shape) → CanLink l c a → (link l c).kind_at l.exit ≡ Some (Buffer a)
kind_exit l c a h =
    rw (other_bytes l.exit l.entry (λ e. apart l c a h (sym e)), same_bytes l.exit l.exit refl, h.exit)

pub kind_entry : (l : PlugLink) (c : Circuit) → (link l c).kind_at l.entry ≡ None
kind_entry l c = rw (same_bytes l.entry l.entry refl)

-- what the Buffer gives, the Entry fed
redirect_link : (l : PlugLink) (side : List (List Token)) (o : Option Port) → ((q : Port) → o ≡ Some q → q.node ≢ l.exit) → share_from l.exit side (redirect l o) ≡ share_from l.entry side o
redirect_link l side None h = refl
redirect_link l side (Some q) h =
    elim (name_cases q.node l.entry) [
      | inl same ↦ rw same.test (share_same l.exit side (record { node = l.exit; port = q.port }) refl)
      | inr other ↦ rw other.test (share_other l.exit side q (h q refl))
    ]

pub record Passes (l : PlugLink) (c : Circuit) (s t : CircuitState) : Type 0 where
  pub token : Token
  pub mid : CircuitState
  pub takes : Step c s l.exit (Take token) mid
  pub feeds : Step c mid l.entry (Feed token) t

taken_part : (l : PlugLink) (c : Circuit) (a : Shape) (can : CanLink l c a) (s : CircuitState) (v : Token) (k : ℕ) (t : CircuitState) (st : Step (link l c) s l.exit (Fire k) t) → st.taken ≡ one v ∷ [] → Step c s l.exit (Take v) (record { wires = st.between; slots = s.slots })
taken_part l c a can s v k t st e =
    record {
      kind = Exit a;
      is_kind = can.exit;
      taken = one v ∷ [];
      given = [];
      acts = (refl, refl, refl);
      between = st.between;
      takes = λ p. st.takes p ∙ ap (λ z. share l.exit z p ++ st.between p) e;
      gives = λ p. append_none (st.between p) _ (share_from_none l.exit (c.feeder p));
      others = λ m h. refl;
    }

fed_part : (l : PlugLink) (c : Circuit) (a : Shape) (can : CanLink l c a) (s : CircuitState) (v : Token) (k : ℕ) (t : CircuitState) (st : Step (link l c) s l.exit (Fire k) t) → Fits a v → st.given ≡ one v ∷ [] → t.slots l.exit ≡ s.slots l.exit → Step c (record { wires = st.between; slots = s.slots }) l.entry (Feed v) t
fed_part l c a can s v k t st fit e same =
    record {
      kind = Entry a;
      is_kind = can.entry;
      taken = [];
      given = one v ∷ [];
      acts = (fit, refl, refl, st.others l.entry (apart l c a can));
      between = st.between;
      takes = λ p. ap (λ z. z ++ st.between p) (sym (share_none l.entry p));
      gives = λ p. st.gives p ∙ ap (λ z. st.between p ++ z) (redirect_link l st.given (c.feeder p) (can.nothing p) ∙ ap (λ z. share_from l.entry z (c.feeder p)) e);
      others = λ m h.
          elim (name_cases m l.exit) [
            | inl is ↦ ap t.slots is.is ∙ same ∙ ap s.slots (sym is.is)
            | inr ne ↦ st.others m ne.is_not
          ];
    }

-- a firing of the Buffer takes at the Exit and feeds the Entry
pub passes_of : (l : PlugLink) (c : Circuit) (a : Shape) → CanLink l c a → (s : CircuitState) (k : ℕ) (t : CircuitState) → ((v : Token) (m : CircuitState) → Step c s l.exit (Take v) m → Fits a v) → Step (link l c) s l.exit (Fire k) t → Passes l c s t
passes_of l c a can s k t fits st =
    let (v, zero_choice, taken, given, same) = acts_at (link l c) s l.exit (Fire k) t st (Buffer a) (kind_exit l c a can) in
    let first : Step c s l.exit (Take v) (record { wires = st.between; slots = s.slots }) = taken_part l c a can s v k t st taken in
    record {
      token = v;
      mid = record { wires = st.between; slots = s.slots };
      takes = first;
      feeds = fed_part l c a can s v k t st (fits v _ first) given same;
    }

-- to take at the Exit and to feed the Entry is a firing of the Buffer
pub fires_of : (l : PlugLink) (c : Circuit) (a : Shape) → CanLink l c a → (s : CircuitState) (v : Token) (m t : CircuitState) → Step c s l.exit (Take v) m → Step c m l.entry (Feed v) t → Step (link l c) s l.exit (Fire 0) t
fires_of l c a can s v m t st st2 =
    let (taken, given, same) = acts_at c s l.exit (Take v) m st (Exit a) can.exit in
    let (fit, taken2, given2, same2) = acts_at c m l.entry (Feed v) t st2 (Entry a) can.entry in
    let held : (p : Port) → st.between p ≡ st2.between p =
    λ p. append_none (st.between p) (share_from l.exit st.given (c.feeder p)) (ap (λ z. share_from l.exit z (c.feeder p)) given ∙ share_from_none l.exit (c.feeder p))
    ∙ sym (st.gives p) ∙ st2.takes p ∙ ap (λ z. share l.entry z p ++ st2.between p) taken2 ∙ ap (λ z. z ++ st2.between p) (share_none l.entry p) in
    record {
      kind = Buffer a;
      is_kind = kind_exit l c a can;
      taken = one v ∷ [];
      given = one v ∷ [];
      acts = (v, refl, refl, refl, st2.others l.exit (λ e. apart l c a can (sym e)) ∙ same);
      between = st.between;
      takes = λ p. st.takes p ∙ ap (λ z. share l.exit z p ++ st.between p) taken;
      gives = λ p. st2.gives p ∙ ap (λ z. z ++ share_from l.entry st2.given (c.feeder p)) (sym (held p))
          ∙ ap (λ z. st.between p ++ z) (ap (λ z. share_from l.entry z (c.feeder p)) given2 ∙ sym (redirect_link l (one v ∷ []) (c.feeder p) (can.nothing p)));
      others = λ n h.
          elim (name_cases n l.entry) [
            | inl is ↦ ap t.slots is.is ∙ same2 ∙ ap m.slots (sym is.is) ∙ st.others n h
            | inr ne ↦ st2.others n ne.is_not ∙ st.others n h
          ];
    }

-- no other step is made by the two nodes
no_entry_step : (l : PlugLink) (c : Circuit) (s : CircuitState) (n : Name) (lab : Label) (t : CircuitState) → n ≡ l.entry → Step (link l c) s n lab t → ⊥
no_entry_step l c s n lab t is st = let e : None ≡ Some st.kind = sym (kind_entry l c) ∙ ap (link l c).kind_at (sym is) ∙ st.is_kind in cc

exit_acts : (l : PlugLink) (c : Circuit) (a : Shape) → CanLink l c a → (s : CircuitState) (n : Name) (lab : Label) (t : CircuitState) (st : Step (link l c) s n lab t) → n ≡ l.exit → Acts (Buffer a) lab (s.slots n) st.taken st.given (t.slots n)
exit_acts l c a can s n lab t st is = acts_at (link l c) s n lab t st (Buffer a) (ap (link l c).kind_at is ∙ kind_exit l c a can)

-- an Exit and an Entry do not fire
pub no_exit_fire : (c : Circuit) (n : Name) (a : Shape) → c.kind_at n ≡ Some (Exit a) → (s : CircuitState) (k : ℕ) (t : CircuitState) → Step c s n (Fire k) t → ⊥
no_exit_fire c n a e s k t st = acts_at c s n (Fire k) t st (Exit a) e

pub no_entry_fire : (c : Circuit) (n : Name) (a : Shape) → c.kind_at n ≡ Some (Entry a) → (s : CircuitState) (k : ℕ) (t : CircuitState) → Step c s n (Fire k) t → ⊥
no_entry_fire c n a e s k t st = acts_at c s n (Fire k) t st (Entry a) e

firings_linked : (l : PlugLink) (c : Circuit) (a : Shape) → CanLink l c a → (s : CircuitState) (fs : List Firing) (t : CircuitState) → Firings c s fs t → Firings (link l c) s fs t
firings_linked l c a can s [] t h = h
firings_linked l c a can s (f ∷ fs) t h = (
  h.0,
  step_linked l c s f.node (Fire f.choice) h.0
      (λ e. no_exit_fire c f.node a (ap c.kind_at e ∙ can.exit) s f.choice h.0 h.1)
      (λ e. no_entry_fire c f.node a (ap c.kind_at e ∙ can.entry) s f.choice h.0 h.1) h.1,
  firings_linked l c a can h.0 fs t h.2,
)

inner_linked : (l : PlugLink) (c : Circuit) (a : Shape) → CanLink l c a → (s t : CircuitState) → Inner c s t → Inner (link l c) s t
inner_linked l c a can s t h = record { firings = h.firings; leads = firings_linked l c a can s h.firings t h.leads }

-- a link changes nothing at the start
initial_as_buffer : (k : Option Kind) → initial (as_buffer k) ≡ initial k
initial_as_buffer None = refl
initial_as_buffer (Some (Exit a)) = refl
initial_as_buffer (Some _) = refl

initial_linked : (l : PlugLink) (c : Circuit) (n : Name) → n ≢ l.entry → initial ((link l c).kind_at n) ≡ initial (c.kind_at n)
initial_linked l c n he =
    elim (name_cases n l.exit) [
      | inl is ↦ rw (other_bytes n l.entry he, is.test) (initial_as_buffer (c.kind_at n))
      | inr ne ↦ ap initial (kind_other l c n ne.is_not he)
    ]

kind_redirected : (l : PlugLink) (c : Circuit) (a : Shape) → CanLink l c a → (o : Option Port) → initial (kind_of (link l c) (redirect l o)) ≡ initial (kind_of c o)
kind_redirected l c a can None = refl
kind_redirected l c a can (Some q) =
    elim (name_cases q.node l.entry) [
      | inl is ↦ ap (λ b. initial ((link l c).kind_at (if b then record { node = l.exit; port = q.port } else q).node)) is.test
          ∙ ap initial (kind_exit l c a can) ∙ sym (ap initial (ap c.kind_at is.is ∙ can.entry))
      | inr ne ↦ ap (λ b. initial ((link l c).kind_at (if b then record { node = l.exit; port = q.port } else q).node)) ne.test
          ∙ initial_linked l c q.node ne.is_not
    ]

start_linked : (l : PlugLink) (c : Circuit) (a : Shape) → CanLink l c a → start (link l c) ≡ start c
start_linked l c a can = λ i. record { wires = λ p. kind_redirected l c a can (c.feeder p) i; slots = λ n. [] }

-- what is linked alike is refined alike
pub link_sim : (l : PlugLink) (h g : Circuit) (a : Shape) → CanLink l h a → CanLink l g a → Sim h g → Sim (link l h) (link l g)
link_sim l h g a hc gc sim =
    record {
      R = sim.R;
      begins = subst (λ x. sim.R x (start (link l g))) (sym (start_linked l h a hc)) (subst (sim.R (start h)) (sym (start_linked l g a gc)) sim.begins);
      feeds = λ s t u n v r st.
          elim (name_cases n l.entry) [
            | inl is ↦ absurd (no_entry_step l h s n (Feed v) u is.is st)
            | inr ne ↦ elim (name_cases n l.exit) [
              | inl is ↦ absurd (exit_acts l h a hc s n (Feed v) u st is.is)
              | inr nx ↦
                  let (w, st2, r2) = sim.feeds s t u n v r (step_unlinked l h s n (Feed v) u nx.is_not ne.is_not st) in
                  (w, step_linked l g t n (Feed v) w nx.is_not ne.is_not st2, r2)
            ]
          ];
      takes = λ s t u n v r st.
          elim (name_cases n l.entry) [
            | inl is ↦ absurd (no_entry_step l h s n (Take v) u is.is st)
            | inr ne ↦ elim (name_cases n l.exit) [
              | inl is ↦ absurd (exit_acts l h a hc s n (Take v) u st is.is)
              | inr nx ↦
                  let (m, w, inn, st2, r2) = sim.takes s t u n v r (step_unlinked l h s n (Take v) u nx.is_not ne.is_not st) in
                  (m, w, inner_linked l g a gc t m inn, step_linked l g m n (Take v) w nx.is_not ne.is_not st2, r2)
            ]
          ];
      fires = λ s t u n k r st.
          elim (name_cases n l.entry) [
            | inl is ↦ absurd (no_entry_step l h s n (Fire k) u is.is st)
            | inr ne ↦ elim (name_cases n l.exit) [
              | inl is ↦
                  let st2 : Step (link l h) s l.exit (Fire k) u = subst (λ x. Step (link l h) s x (Fire k) u) is.is st in
                  let p = passes_of l h a hc s k u (λ v m tk. sim.fits s t m l.exit v a r hc.exit tk) st2 in
                  let (m, w, inn, tk, r2) = sim.takes s t p.mid l.exit p.token r p.takes in
                  let (x, fd, r3) = sim.feeds p.mid w u l.entry p.token r2 p.feeds in
                  (x, inner_then (link l g) t m x (inner_linked l g a gc t m inn) (inner_one (link l g) m x l.exit 0 (fires_of l g a gc m p.token w x tk fd)), r3)
              | inr nx ↦
                  let (w, inn, r2) = sim.fires s t u n k r (step_unlinked l h s n (Fire k) u nx.is_not ne.is_not st) in
                  (w, inner_linked l g a gc t w inn, r2)
            ]
          ];
      fits = λ s t u n v b r e st.
          elim (name_cases n l.entry) [
            | inl is ↦ absurd (no_entry_step l h s n (Take v) u is.is st)
            | inr ne ↦ elim (name_cases n l.exit) [
              | inl is ↦ absurd (exit_acts l h a hc s n (Take v) u st is.is)
              | inr nx ↦ sim.fits s t u n v b r (sym (kind_other l h n nx.is_not ne.is_not) ∙ e) (step_unlinked l h s n (Take v) u nx.is_not ne.is_not st)
            ]
          ];
    }
