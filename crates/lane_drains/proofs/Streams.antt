-- What passes through the ports of a node in a run, and what a wire holds between.
use Rattle.std.proofs.Common.{◌≡◌, ◌≢◌, ℕ, zero, suc, inl, inr, refl, sym, ap, subst, ◌∙◌, true, false, Bool, bytes_eq, if◌then◌else◌, List, [], ◌∷◌, ◌++◌, replicate, Some, None, append-nil, append_assoc}
use Rattle.std.proofs.lemmas.Option.{same_Some}
use Rattle.std.specs.List.{AllByRecursion}
use Rattle.circuits.proofs.Fitting.{step_fits}
use Rattle.circuits.proofs.Lists.{each_append, each_left}
use Rattle.circuits.proofs.Names.{name_cases}
use Rattle.circuits.specs.Circuit.{Circuit, Typed}
use Rattle.circuits.specs.CircuitState.{Slot, CircuitState, IsStateOf, initial}
use Rattle.circuits.specs.Drains.{put_by}
use Rattle.circuits.specs.Firing.{Fires, Label.Fire}
use Rattle.circuits.specs.PortTokens.{Token, at_port, share, share_from, one}
use Rattle.circuits.specs.Values.{ValuesFit}
use Rattle.circuits.specs.Root.{PassesThrough}
use Rattle.circuits.specs.Run.{Step, Firing, Firings}
use Rattle.components.specs.Kind.{Shape, ins, outs}
use Rattle.components.specs.Name.{Name, Port, port_get}
use Rattle.components.specs.declared.kind.Kind.{Kind}
use Rattle.components.specs.declared.kind.Kind.TheVariants.{Buffer, Fork, Init, Entry, Exit}
use Rattle.lane_drains.proofs.Walks.{ComesBackTo, ComesBackTo.fed, ComesBackTo.through}
use Rattle.loop_laws.specs.Reached.{port_at}
use Rattle.port_types.specs.Token.{Fits}

other_test : (a b : Name) → a ≢ b → bytes_eq a b ≡ false
other_test a b h = elim (name_cases a b) [ inl is ↦ absurd (h is.is) | inr ne ↦ ne.test ]

-- one firing of a node
pub record Act : Type 0 where
  pub choice : ℕ
  pub taken : List (List Token)
  pub given : List (List Token)

-- the firings of a node in a run
pub acts_of : (c : Circuit) (n : Name) (s : CircuitState) (fs : List Firing) (t : CircuitState) → Firings c s fs t → List Act
acts_of c n s [] t r = []
acts_of c n s (f ∷ fs) t r =
    if bytes_eq n f.node then record { choice = f.choice; taken = r.1.taken; given = r.1.given } ∷ acts_of c n r.0 fs t r.2
    else acts_of c n r.0 fs t r.2

-- what firings take at an input, and give at an output
abbrev pub takes_at : ℕ → List Act → List Token
takes_at i [] = []
takes_at i (a ∷ acts) = at_port a.taken i ++ takes_at i acts

abbrev pub gives_at : ℕ → List Act → List Token
gives_at i [] = []
gives_at i (a ∷ acts) = at_port a.given i ++ gives_at i acts

pub record Does (kind : Kind) (a : Act) : Type 0 where
  pub old : List Slot
  pub new : List Slot
  pub fires : Fires kind a.choice old a.taken a.given new

module _ (c : Circuit) where
  acts_do_at : (n : Name) (k : Kind) → c.kind_at n ≡ Some k → (s : CircuitState) (f : Firing) (m : CircuitState) (st : Step c s f.node (Fire f.choice) m) (b : Bool) → bytes_eq n f.node ≡ b → (acts : List Act) → AllByRecursion (Does k) acts → AllByRecursion (Does k) (if b then record { choice = f.choice; taken = st.taken; given = st.given } ∷ acts else acts)
  acts_do_at n k e s f m st true test acts h =
      elim (name_cases n f.node) [
        | inl is ↦ (
          record {
            old = s.slots f.node;
            new = m.slots f.node;
            fires = subst (λ z. Fires z f.choice (s.slots f.node) st.taken st.given (m.slots f.node)) (same_Some st.kind k (sym st.is_kind ∙ ap c.kind_at (sym is.is) ∙ e)) st.acts;
          },
          h,
        )
        | inr ne ↦ let z : true ≡ false = sym test ∙ ne.test in let y : ⊥ = cc in absurd y
      ]
  acts_do_at n k e s f m st false test acts h = h

  -- each of them is a firing of the node's kind
  pub acts_do : (n : Name) (k : Kind) → c.kind_at n ≡ Some k → (s : CircuitState) (fs : List Firing) (t : CircuitState) (r : Firings c s fs t) → AllByRecursion (Does k) (acts_of c n s fs t r)
  unfolding acts_of
  acts_do n k e s [] t r = tt
  acts_do n k e s (f ∷ fs) t r = acts_do_at n k e s f r.0 r.1 (bytes_eq n f.node) refl (acts_of c n r.0 fs t r.2) (acts_do n k e r.0 fs t r.2)

  -- a node that does not fire
  pub no_acts : (n : Name) (s : CircuitState) (fs : List Firing) (t : CircuitState) (r : Firings c s fs t) → AllByRecursion (λ f. f.node ≢ n) fs → acts_of c n s fs t r ≡ []
  unfolding acts_of
  no_acts n s [] t r h = refl
  no_acts n s (f ∷ fs) t r h =
      ap (λ b. if b then record { choice = f.choice; taken = r.1.taken; given = r.1.given } ∷ acts_of c n r.0 fs t r.2 else acts_of c n r.0 fs t r.2) (other_test n f.node (λ e. h.0 (sym e)))
      ∙ no_acts n r.0 fs t r.2 h.1

  takes_more : (p : Port) (f : Firing) (s m : CircuitState) (st : Step c s f.node (Fire f.choice) m) (acts : List Act) (b : Bool) → takes_at p.port (if b then record { choice = f.choice; taken = st.taken; given = st.given } ∷ acts else acts) ≡ (if b then at_port st.taken p.port else []) ++ takes_at p.port acts
  takes_more p f s m st acts true = refl
  takes_more p f s m st acts false = refl

  gives_more : (q : Port) (f : Firing) (s m : CircuitState) (st : Step c s f.node (Fire f.choice) m) (acts : List Act) (b : Bool) → gives_at q.port (if b then record { choice = f.choice; taken = st.taken; given = st.given } ∷ acts else acts) ≡ (if b then at_port st.given q.port else []) ++ gives_at q.port acts
  gives_more q f s m st acts true = refl
  gives_more q f s m st acts false = refl

  -- what is on a wire and what comes onto it are what leaves it and what is left
  pub wire_flow : (p q : Port) → c.feeder p ≡ Some q → (s : CircuitState) (fs : List Firing) (t : CircuitState) (r : Firings c s fs t) → s.wires p ++ gives_at q.port (acts_of c q.node s fs t r) ≡ takes_at p.port (acts_of c p.node s fs t r) ++ t.wires p
  unfolding acts_of
  wire_flow p q e s [] t r = append-nil (s.wires p) ∙ ap (λ (z : CircuitState). z.wires p) r
  wire_flow p q e s (f ∷ fs) t r =
      let st : Step c s f.node (Fire f.choice) r.0 = r.1 in
      let more : List Token = gives_at q.port (acts_of c q.node r.0 fs t r.2) in
      let rest : List Token = takes_at p.port (acts_of c p.node r.0 fs t r.2) in
      (λ i. st.takes p i ++ gives_more q f s r.0 st (acts_of c q.node r.0 fs t r.2) (bytes_eq q.node f.node) i)
      ∙ append_assoc (share f.node st.taken p) (st.between p) (share f.node st.given q ++ more)
      ∙ ap (λ z. share f.node st.taken p ++ z)
      (sym (append_assoc (st.between p) (share f.node st.given q) more)
      ∙ ap (λ z. z ++ more) (ap (λ o. st.between p ++ share_from f.node st.given o) (sym e) ∙ sym (st.gives p))
      ∙ wire_flow p q e r.0 fs t r.2)
      ∙ sym (append_assoc (share f.node st.taken p) rest (t.wires p))
      ∙ ap (λ z. z ++ t.wires p) (sym (takes_more p f s r.0 st (acts_of c p.node r.0 fs t r.2) (bytes_eq p.node f.node)))

-- what is taken from a wire fits it
taken_fits_at : (a : Shape) (p : Port) (c : Circuit) (f : Firing) (s m : CircuitState) (st : Step c s f.node (Fire f.choice) m) → AllByRecursion (Fits a) (s.wires p) → (acts : List Act) → AllByRecursion (Fits a) (takes_at p.port acts) → (b : Bool) → bytes_eq p.node f.node ≡ b → AllByRecursion (Fits a) (takes_at p.port (if b then record { choice = f.choice; taken = st.taken; given = st.given } ∷ acts else acts))
taken_fits_at a p c f s m st h acts more true e =
    each_append (Fits a) (at_port st.taken p.port) (takes_at p.port acts)
    (subst (AllByRecursion (Fits a)) (ap (λ b. if b then at_port st.taken p.port else []) e) (each_left (Fits a) (share f.node st.taken p) (st.between p) (subst (AllByRecursion (Fits a)) (st.takes p) h))) more
taken_fits_at a p c f s m st h acts more false e = more

pub taken_fits : ValuesFit → (c : Circuit) → Typed c → (p : Port) (k : Kind) (a : Shape) → c.kind_at p.node ≡ Some k → port_get (ins k) p.port ≡ Some a → (s : CircuitState) (fs : List Firing) (t : CircuitState) (r : Firings c s fs t) → IsStateOf c s → AllByRecursion (Fits a) (takes_at p.port (acts_of c p.node s fs t r))
unfolding acts_of
taken_fits values c ty p k a ek ea s [] t r h = tt
taken_fits values c ty p k a ek ea s (f ∷ fs) t r h =
    taken_fits_at a p c f s r.0 r.1 (h.wires p k a ek ea) (acts_of c p.node r.0 fs t r.2)
    (taken_fits values c ty p k a ek ea r.0 fs t r.2 (step_fits values c ty s f.node (Fire f.choice) r.0 r.1 h)) (bytes_eq p.node f.node) refl

-- Forks and Buffers give at each output what they take
pub fork_port : (k : ℕ) (a b : Shape) (v : Token) (i : ℕ) → port_get (replicate k a) i ≡ Some b → at_port (replicate k (one v)) i ≡ one v
fork_port zero a b v i e = let z : None ≡ Some b = e in cc
fork_port (suc k) a b v zero e = let z : None ≡ Some b = e in cc
fork_port (suc k) a b v (suc zero) e = refl
fork_port (suc k) a b v (suc (suc i)) e = fork_port k a b v (suc i) e

pub single_at : (a b : Shape) (v : Token) (i : ℕ) → port_get (a ∷ []) i ≡ Some b → at_port (one v ∷ []) i ≡ one v
single_at a b v zero e = let z : None ≡ Some b = e in cc
single_at a b v (suc zero) e = refl
single_at a b v (suc (suc i)) e = let z : None ≡ Some b = e in cc

tree_act : (k : Kind) → PassesThrough k → (i : ℕ) (b : Shape) → port_get (outs k) i ≡ Some b → (a : Act) → Does k a → at_port a.taken 1 ≡ at_port a.given i
tree_act (Buffer s) h i b e a d =
    let (v, z, et, eg, en) = d.fires in (λ j. at_port (et j) 1) ∙ sym ((λ j. at_port (eg j) i) ∙ single_at s b v i e)
tree_act (Fork s k) h i b e a d =
    let (v, z, et, eg, en) = d.fires in (λ j. at_port (et j) 1) ∙ sym ((λ j. at_port (eg j) i) ∙ fork_port k s b v i e)
tree_act _ h i b e a d = absurd h

pub tree_flow : (k : Kind) → PassesThrough k → (i : ℕ) (b : Shape) → port_get (outs k) i ≡ Some b → (acts : List Act) → AllByRecursion (Does k) acts → takes_at 1 acts ≡ gives_at i acts
tree_flow k h i b e [] d = refl
tree_flow k h i b e (a ∷ acts) d = λ j. tree_act k h i b e a d.0 j ++ tree_flow k h i b e acts d.1 j

init_act : (v m : ℕ) (a : Act) → Does (Init v m) a → at_port a.taken 1 ≡ at_port a.given 1
init_act v m a d = let (x, z, et, eg, en) = d.fires in (λ j. at_port (et j) 1) ∙ sym (λ j. at_port (eg j) 1)

pub init_flow : (v m : ℕ) (acts : List Act) → AllByRecursion (Does (Init v m)) acts → takes_at 1 acts ≡ gives_at 1 acts
init_flow v m [] d = refl
init_flow v m (a ∷ acts) d = λ j. init_act v m a d.0 j ++ init_flow v m acts d.1 j

-- a stream goes through Forks and Buffers unchanged, where nothing is left in them
module _ (c : Circuit) (ty : Typed c) (s : CircuitState) (fs : List Firing) (t : CircuitState) (r : Firings c s fs t) (content : Port → List Token)
    (begins : (p q : Port) → c.feeder p ≡ Some q → s.wires p ≡ content q)
    (no_tree : (q : Port) (k : Kind) → c.kind_at q.node ≡ Some k → PassesThrough k → content q ≡ []) where
  -- all that an output gives, with what its wire holds at the start
  abbrev pub stream : Port → List Token
  stream q = content q ++ gives_at q.port (acts_of c q.node s fs t r)

  abbrev pub taken : Port → List Token
  taken p = takes_at p.port (acts_of c p.node s fs t r)

  pub flow : (p q : Port) → c.feeder p ≡ Some q → stream q ≡ taken p ++ t.wires p
  flow p q f = ap (λ z. z ++ gives_at q.port (acts_of c q.node s fs t r)) (sym (begins p q f)) ∙ wire_flow c p q f s fs t r

  pub emptied : (p q : Port) → c.feeder p ≡ Some q → t.wires p ≡ [] → taken p ≡ stream q
  emptied p q f e = sym (append-nil (taken p)) ∙ ap (λ z. taken p ++ z) (sym e) ∙ sym (flow p q f)

  -- what passes on the way from q to p
  pub along : (q p : Port) → ((n : Name) (k : Kind) → c.kind_at n ≡ Some k → PassesThrough k → ComesBackTo c q (port_at n 1) → t.wires (port_at n 1) ≡ []) → ComesBackTo c q p → (x : Port) → c.feeder p ≡ Some x → stream x ≡ stream q
  along q p dry (fed f) x e = ap stream (same_Some x q (sym e ∙ f))
  along q p dry (through u k f kk tree w) x e =
      let is : x ≡ u = same_Some x u (sym e ∙ f) in
      let v = ty.wires p u f in
      let leaves : port_get (outs k) u.port ≡ Some v.shape = ap (λ z. port_get (outs z) u.port) (same_Some k v.from (sym kk ∙ v.is_from)) ∙ v.leaves in
      let (y, g) = ty.inputs (port_at u.node 1) k (input_of k) kk (has_input k tree) in
      ap stream is ∙ ap (λ z. z ++ gives_at u.port (acts_of c u.node s fs t r)) (no_tree u k kk tree)
      ∙ sym (tree_flow k tree u.port v.shape leaves (acts_of c u.node s fs t r) (acts_do c u.node k kk s fs t r))
      ∙ emptied (port_at u.node 1) y g (dry u.node k kk tree w)
      ∙ along q (port_at u.node 1) dry w y g
    where
      input_of : Kind → Shape
      input_of (Buffer a) = a
      input_of (Fork a n) = a
      input_of _ = []

      has_input : (j : Kind) → PassesThrough j → port_get (ins j) 1 ≡ Some (input_of j)
      has_input (Buffer a) h = refl
      has_input (Fork a n) h = refl
      has_input _ h = absurd h

pub no_entry_acts : (s : Shape) (acts : List Act) → AllByRecursion (Does (Entry s)) acts → acts ≡ []
no_entry_acts s [] h = refl
no_entry_acts s (a ∷ acts) h = absurd (h.0.fires)

pub no_exit_acts : (s : Shape) (acts : List Act) → AllByRecursion (Does (Exit s)) acts → acts ≡ []
no_exit_acts s [] h = refl
no_exit_acts s (a ∷ acts) h = absurd (h.0.fires)

pub tree_content : (ins : Name → List Token) (n : Name) (k : Kind) → PassesThrough k → initial (Some k) ++ put_by ins (Some k) n ≡ []
tree_content ins n (Buffer a) h = refl
tree_content ins n (Fork a j) h = refl
tree_content ins n _ h = absurd h
