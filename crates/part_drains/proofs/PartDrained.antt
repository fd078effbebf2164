-- Where a circuit drains, a part of it that lies off cycles drains what reaches it.
use Rattle.std.proofs.Common.{◌≡◌, ◌⊎◌, inl, inr, refl, sym, ap, subst, ◌∙◌, true, false, Bool, if◌then◌else◌, List, [], ◌++◌, Option, Some, None, append-nil}
use Rattle.port_types.specs.Token.{Fits}
use Rattle.components.specs.Kind.{Shape, outs}
use Rattle.components.specs.Name.{Name, Port, port_get}
use Rattle.components.specs.declared.kind.Kind.{Kind}
use Rattle.components.specs.declared.kind.Kind.TheVariants.{Entry, Exit}
use Rattle.circuits.specs.PortTokens.{Token}
use Rattle.std.specs.List.{AllByRecursion}
use Rattle.circuits.specs.Values.{ValuesFit}
use Rattle.circuits.specs.CircuitState.{CircuitState, start, initial}
use Rattle.circuits.specs.Circuit.{Circuit, kind_of}
use Rattle.circuits.specs.Run.{Firings}
use Rattle.circuits.specs.Drains.{put_by, put_on, loaded, IsNoExit}
use Rattle.circuits.specs.Replacing.{is_inner, is_entry, IsPart}
use Rattle.circuits.proofs.Beside.{none_some}
use Rattle.circuits.proofs.Lists.{each_map, each_left}
use Rattle.std.proofs.lemmas.Option.{same_Some}
use Rattle.part_drains.proofs.Carries.{on_wire, carried, thick}
use Rattle.part_drains.specs.Part.{inside, FiresLast}
use Rattle.part_drains.proofs.Draining.{InitBehind, LedBy, RestsAt, DrainsTo, HoldsRestBy, InputsFit}
use Rattle.part_drains.proofs.Sorts.{bool_cases, inner_some_at}
use Rattle.part_drains.proofs.Carrying.{carried_firings, thin_firings}
use Rattle.part_drains.proofs.Untouched.{FiresIn, all_fire, firings_fit, kept_wire, kept_slots, Ordered, ordered, waits, led_dry}
use Rattle.part_drains.proofs.PartInside.{tree_listed, listed_no_entry, listed, enters, source_of, tree_port, Stands, kind_inside, walk_exit, led_inside, led_outside, led_stays}
use Rattle.part_drains.proofs.PartPlace.{clash, left_stands, left_enters, entry_feeds, entry_from, left_leaves, part_wire, PartWire, own, out, dead, part_wire_is, part_carries}
use Rattle.part_drains.proofs.PartStates.{read_some, read_slot, read_other, thick_in, thick_out, cut, thick_cut, by_entry, entry_source, is_by_entry, no_more, out_start, out_loaded, exit_start, exit_loaded, fed_listed, loaded_fits}
use Rattle.part_drains.proofs.PartPasses.{inner_no_exit}

entry_shape : (k : Kind) (a b : Shape) → k ≡ Entry a → port_get (outs k) 1 ≡ Some b → b ≡ a
entry_shape k a b e f = same_Some b a (sym f ∙ ap (λ z. port_get (outs z) 1) e)

module _ (g left : Circuit) (target : Port → Option Port) (pt : IsPart g left target) (hl : HoldsRestBy left) (ins outs : Name → List Token) (fit : InputsFit g ins) (d : DrainsTo g ins outs) (late : Name → Bool) (fl : FiresLast g left late) where
  abbrev st : Stands g left
  st = left_stands g left target pt

  -- at rest
  leads_on : (p q : Port) → g.feeder p ≡ Some q → LedBy g q.node → inside left q.node ≡ true → inside left p.node ≡ true
  leads_on p q f led iq =
      elim (bool_cases (inside left p.node)) [
        | inl ip ↦ ip
        | inr o ↦
            let l = left_leaves g left target pt p q o iq f in
            absurd (led_stays g left st hl q.node (led_inside g left st hl q.node iq led) l.at q l.shape l.feeds refl l.is_exit l.first)
      ]

  pub rest_order : Ordered g (LedBy g) (inside left) (start g) d.rest
  rest_order = ordered g (LedBy g) (inside left) (λ p q f lq lp i. leads_on p q f lq i) (start g) d.is_rest.firings d.rest d.is_rest.led d.is_rest.leads

  abbrev pub mid : CircuitState
  mid = rest_order.middle

  abbrev LedOutside : Name → Type 0
  LedOutside n = (inside left n ≡ false) × LedBy g n

  abbrev LedInside : Name → Type 0
  LedInside n = (inside left n ≡ true) × LedBy g n

  mid_inside : (p : Port) → inside left p.node ≡ true → ((q : Port) → g.feeder p ≡ Some q → inside left q.node ≡ true) → mid.wires p ≡ (start g).wires p
  mid_inside p i from =
      kept_wire g LedOutside p (λ h. clash (inside left p.node) i h.0) (λ q f h. clash (inside left q.node) (from q f) h.0)
      (start g) rest_order.early mid rest_order.are_early rest_order.first

  -- a wire out of the part leads to no led node
  pub exit_not_led : (p q : Port) → inside left p.node ≡ false → g.feeder p ≡ Some q → inside left q.node ≡ true → LedBy g p.node → ⊥
  exit_not_led p q o f iq led =
      let l = left_leaves g left target pt p q o iq f in
      walk_exit g left st hl p q l.at l.shape f iq l.feeds l.is_exit l.first
      (subst (InitBehind g) (sym (tree_port g pt.whole p q led.kind f led.is_kind led.tree)) led.comes)

  pub mid_exit : (p q : Port) → inside left p.node ≡ false → g.feeder p ≡ Some q → inside left q.node ≡ true → mid.wires p ≡ (start g).wires p
  mid_exit p q o f iq =
      kept_wire g LedOutside p (λ h. exit_not_led p q o f iq h.1)
      (λ r e h. clash (inside left q.node) iq (ap (λ (z : Port). inside left z.node) (same_Some q r (sym f ∙ e)) ∙ h.0))
      (start g) rest_order.early mid rest_order.are_early rest_order.first

  pub rest_outside : (p : Port) → inside left p.node ≡ false → d.rest.wires p ≡ mid.wires p
  rest_outside p o =
      kept_wire g LedInside p (λ h. clash (inside left p.node) h.0 o) (λ q f h. clash (inside left p.node) (leads_on p q f h.1 h.0) o)
      mid rest_order.later d.rest rest_order.are_late rest_order.then_late

  pub rest_entering : (p r : Port) (a : Shape) → left.feeder p ≡ Some r → left.kind_at r.node ≡ Some (Entry a) → d.rest.wires p ≡ mid.wires p
  rest_entering p r a lf e =
      kept_wire g LedInside p
      (λ h. (hl.inputs p r a h.1.kind lf e (kind_inside g left st hl p.node h.1.kind h.0 h.1.is_kind)).0 h.1.tree)
      (λ q f h. clash (inside left q.node) h.0 (entry_from g left target pt p r q a lf e f))
      mid rest_order.later d.rest rest_order.are_late rest_order.then_late

  -- in the part
  abbrev lw : Port → Option Port
  lw = part_wire g left target pt

  abbrev cl : CircuitState → CircuitState
  cl s = carried (inside left) lw (start left) s

  abbrev framed : Port → Bool
  framed p = by_entry left (left.feeder p)

  abbrev extra : Port → List Token
  extra = d.rest.wires

  lw_own : (p : Port) → inside left p.node ≡ true → lw p ≡ Some p
  lw_own p i = (part_carries g left target pt).own p i

  cl_own : (s : CircuitState) (p : Port) → inside left p.node ≡ true → (cl s).wires p ≡ s.wires p
  cl_own s p i = read_some (inside left) lw (start left) s p p (lw_own p i)

  framed_inside : (p : Port) → framed p ≡ true → inside left p.node ≡ true
  framed_inside p e = let (r, a, f, k) = entry_source left p e in entry_feeds g left target pt p r a f k

  unfed : (p q : Port) → framed p ≡ true → inside left q.node ≡ true → left.feeder p ≡ Some q → ⊥
  unfed p q e i f =
      let (r, a, lf, k) = entry_source left p e in
      clash (inside left q.node) i (ap (λ (z : Port). inside left z.node) (same_Some q r (sym f ∙ lf)) ∙ ap is_inner k)

  -- away from its inputs the part's wires are fed as in g
  pub feeder_same_at : (p : Port) → inside left p.node ≡ true → (o : Option Port) → left.feeder p ≡ o → by_entry left o ≡ false → (b : Option Port) → g.feeder p ≡ b → b ≡ o
  feeder_same_at p i None f n None e = refl
  feeder_same_at p i None f n (Some q) e =
      elim (bool_cases (inside left q.node)) [
        | inl iq ↦ absurd (none_some (left.feeder p) q f ((pt.wires p q i iq).0 e))
        | inr oq ↦ let (r, a, lf, k) = left_enters g left target pt p q i oq e in absurd (none_some (left.feeder p) r f lf)
      ]
  feeder_same_at p i (Some r) f n b e =
      elim (source_of left pt.part p r f) [
        | listed ir ↦ sym e ∙ (pt.wires p r i ir).1 f
        | enters a k port ↦ clash (by_entry left (Some r)) (ap is_entry k) n
      ]

  feeder_same : (p : Port) → inside left p.node ≡ true → framed p ≡ false → g.feeder p ≡ left.feeder p
  feeder_same p i n = feeder_same_at p i (left.feeder p) refl n (g.feeder p) refl

  source_inside : (p q : Port) → inside left p.node ≡ true → framed p ≡ false → g.feeder p ≡ Some q → inside left q.node ≡ true
  source_inside p q i n f =
      let lf : left.feeder p ≡ Some q = sym (feeder_same p i n) ∙ f in
      elim (source_of left pt.part p q lf) [
        | listed iq ↦ iq
        | enters a k port ↦ clash (framed p) (is_by_entry left p q a lf k) n
      ]

  kind_same : (p : Port) → inside left p.node ≡ true → framed p ≡ false → (o : Option Port) → left.feeder p ≡ o → kind_of g o ≡ kind_of left o
  kind_same p i n None f = refl
  kind_same p i n (Some q) f =
      let (k, e, ik) = inner_some_at (left.kind_at q.node) (source_inside p q i n (feeder_same p i n ∙ f)) in pt.nodes q.node k e ik ∙ sym e

  start_inside : (p : Port) → inside left p.node ≡ true → framed p ≡ false → (start g).wires p ≡ (start left).wires p
  start_inside p i n = ap (λ o. initial (kind_of g o)) (feeder_same p i n) ∙ ap initial (kind_same p i n (left.feeder p) refl)

  none_fed : (c : Circuit) (given : Name → List Token) (o : Option Port) → ((q : Port) → o ≡ Some q → is_inner (c.kind_at q.node) ≡ true) → put_on c given o ≡ []
  none_fed c given None h = refl
  none_fed c given (Some q) h = fed_listed given (c.kind_at q.node) q.node (h q refl)

  inner_in_g : (q : Port) → inside left q.node ≡ true → is_inner (g.kind_at q.node) ≡ true
  inner_in_g q i = let (k, e, ik) = inner_some_at (left.kind_at q.node) i in ap is_inner (pt.nodes q.node k e ik) ∙ ik

  loaded_inside : (given : Name → List Token) (p : Port) → inside left p.node ≡ true → framed p ≡ false → (loaded g ins).wires p ≡ (loaded left given).wires p
  loaded_inside given p i n =
      (λ j. start_inside p i n j
      ++ (none_fed g ins (g.feeder p) (λ q f. inner_in_g q (source_inside p q i n f))
      ∙ sym (none_fed left given (left.feeder p) (λ q f. source_inside p q i n (feeder_same p i n ∙ f)))) j)

  -- two states of g that agree with the start where the part's wires are fed in it
  starts_at : (s : CircuitState) → ((p : Port) → inside left p.node ≡ true → framed p ≡ false → s.wires p ≡ (start left).wires p) → ((p q : Port) → inside left p.node ≡ false → g.feeder p ≡ Some q → inside left q.node ≡ true → s.wires p ≡ []) → (p : Port) (o : Option Port) → PartWire g left target pt p o → framed p ≡ false → on_wire o s.wires ((start left).wires p) ≡ (start left).wires p
  starts_at s in_it out_of p _ (own i) n = in_it p i n
  starts_at s in_it out_of p _ (out q o lf iq a e port) n = out_of o.to q o.away o.feeds iq ∙ sym (exit_start left hl (λ z. []) q p a lf iq e port)
  starts_at s in_it out_of p _ (dead o lf) n = refl

  -- the part at rest
  abbrev pub rest_left : CircuitState
  rest_left = cut framed extra (cl d.rest)

  rest_thick : cl d.rest ≡ thick framed extra rest_left
  rest_thick = thick_cut framed extra (cl d.rest) (λ p e. cl_own d.rest p (framed_inside p e))

  rest_run : (z : CircuitState) × (cl mid ≡ thick framed extra z) × Firings left z rest_order.later rest_left
  rest_run =
      thin_firings left (inside left) framed extra unfed (cl mid) rest_order.later rest_left
      (each_map (λ f. LedInside f.node) (λ f. inside left f.node ≡ true) (λ f h. h.0) rest_order.later rest_order.are_late)
      (subst (Firings left (cl mid) rest_order.later) rest_thick
      (carried_firings g left (inside left) lw (part_carries g left target pt) (start left) mid rest_order.later d.rest
      (each_map (λ f. LedInside f.node) (λ f. inside left f.node ≡ true) (λ f h. h.0) rest_order.later rest_order.are_late) rest_order.then_late))

  -- what is left of a state without its frame
  thin_framed : (s z : CircuitState) → s ≡ thick framed extra z → (p : Port) → framed p ≡ true → s.wires p ≡ z.wires p ++ extra p
  thin_framed s z is p e = ap (λ (x : CircuitState). x.wires p) is ∙ thick_in framed extra z p e

  thin_plain : (s z : CircuitState) → s ≡ thick framed extra z → (p : Port) → framed p ≡ false → z.wires p ≡ s.wires p
  thin_plain s z is p e = sym (ap (λ (x : CircuitState). x.wires p) is ∙ thick_out framed extra z p e)

  thin_slots : (s z : CircuitState) → s ≡ thick framed extra z → (n : Name) → z.slots n ≡ s.slots n
  thin_slots s z is n = sym (ap (λ (x : CircuitState). x.slots n) is)

  entry_start : (p : Port) → framed p ≡ true → (start left).wires p ≡ []
  entry_start p e =
      let (r, a, f, k) = entry_source left p e in ap (λ o. initial (kind_of left o)) f ∙ ap initial k

  rest_begin_wires : (z : CircuitState) → cl mid ≡ thick framed extra z → (p : Port) (b : Bool) → framed p ≡ b → z.wires p ≡ (start left).wires p
  rest_begin_wires z is p true e =
      let (r, a, f, k) = entry_source left p e in
      let same : z.wires p ++ extra p ≡ extra p =
      sym (thin_framed (cl mid) z is p e) ∙ cl_own mid p (framed_inside p e) ∙ sym (rest_entering p r a f k) in
      no_more (z.wires p) (extra p) same ∙ sym (entry_start p e)
  rest_begin_wires z is p false e =
      thin_plain (cl mid) z is p e
      ∙ starts_at mid (λ x i n. mid_inside x i (λ q f. source_inside x q i n f) ∙ start_inside x i n)
      (λ x q o f iq. mid_exit x q o f iq
      ∙ (let l = left_leaves g left target pt x q o iq f in out_start g left st hl ins x q l.at l.shape f iq l.feeds l.is_exit l.first))
      p (lw p) (part_wire_is g left target pt p) e

  empty_slots : (s : CircuitState) → ((n : Name) → inside left n ≡ true → s.slots n ≡ []) → (n : Name) (b : Bool) → inside left n ≡ b → (cl s).slots n ≡ []
  empty_slots s h n true i = read_slot (inside left) lw (start left) s n i ∙ h n i
  empty_slots s h n false i = read_other (inside left) lw (start left) s n i

  mid_slots : (n : Name) → inside left n ≡ true → mid.slots n ≡ []
  mid_slots n i = kept_slots g LedOutside n (λ h. clash (inside left n) i h.0) (start g) rest_order.early mid rest_order.are_early rest_order.first

  rest_begins : (z : CircuitState) → cl mid ≡ thick framed extra z → z ≡ start left
  rest_begins z is =
      λ i. record {
        wires = λ p. rest_begin_wires z is p (framed p) refl i;
        slots = λ n. (thin_slots (cl mid) z is n ∙ empty_slots mid mid_slots n (inside left n) refl) i;
      }

  rest_dry : (n : Name) → LedBy left n → (b : Bool) → framed (record { node = n; port = 1 }) ≡ b → rest_left.wires (record { node = n; port = 1 }) ≡ []
  rest_dry n led true e = ap (λ b. if b then [] else (cl d.rest).wires (record { node = n; port = 1 })) e
  rest_dry n led false e =
      ap (λ b. if b then [] else (cl d.rest).wires (record { node = n; port = 1 })) e
      ∙ cl_own d.rest (record { node = n; port = 1 }) (ap is_inner led.is_kind ∙ tree_listed led.kind led.tree)
      ∙ led_dry g d.rest d.is_rest n (led_outside g left st hl n led)

  pub left_rests : RestsAt left rest_left
  left_rests =
      let (z, is, run) = rest_run in
      record {
        firings = rest_order.later;
        led = each_map (λ f. LedInside f.node) (λ f. LedBy left f.node) (λ f h. led_inside g left st hl f.node h.0 h.1) rest_order.later rest_order.are_late;
        leads = subst (λ w. Firings left w rest_order.later rest_left) (rest_begins z is) run;
        ends = λ n k t led s.
            waits left rest_left n led.kind led.is_kind led.tree (rest_dry n led (framed (record { node = n; port = 1 })) refl) k t s;
      }

  -- the firings of the drain, in order
  abbrev reached : Name → Bool
  reached n = if inside left n then true else late n

  reached_cases : (n : Name) (b : Bool) → inside left n ≡ b → reached n ≡ true → (inside left n ≡ true) ⊎ (late n ≡ true)
  reached_cases n true i e = inl i
  reached_cases n false i e = inr (sym (ap (λ b. if b then true else late n) i) ∙ e)

  pub reached_inside : (n : Name) → inside left n ≡ true → reached n ≡ true
  reached_inside n i = ap (λ b. if b then true else late n) i

  reached_late_at : (n : Name) (b : Bool) → inside left n ≡ b → late n ≡ true → reached n ≡ true
  reached_late_at n true i e = reached_inside n i
  reached_late_at n false i e = ap (λ b. if b then true else late n) i ∙ e

  reached_late : (n : Name) → late n ≡ true → reached n ≡ true
  reached_late n e = reached_late_at n (inside left n) refl e

  reached_on_at : (p q : Port) → g.feeder p ≡ Some q → (inside left q.node ≡ true) ⊎ (late q.node ≡ true) → (b : Bool) → inside left p.node ≡ b → reached p.node ≡ true
  reached_on_at p q f h true ip = reached_inside p.node ip
  reached_on_at p q f (inl i) false o = reached_late p.node (fl.leaves p q f i o)
  reached_on_at p q f (inr l) false o = reached_late p.node (fl.goes_on p q f l)

  pub first_order : Ordered g (FiresIn g) reached (loaded g ins) d.end
  first_order =
      ordered g (FiresIn g) reached
      (λ p q f h k e. reached_on_at p q f (reached_cases q.node (inside left q.node) refl e) (inside left p.node) refl)
      (loaded g ins) d.firings d.end (all_fire g (loaded g ins) d.firings d.end d.leads) d.leads

  abbrev pub before : CircuitState
  before = first_order.middle

  abbrev FiresReached : Name → Type 0
  FiresReached n = (reached n ≡ true) × FiresIn g n

  pub second_order : Ordered g FiresReached late before d.end
  second_order =
      ordered g FiresReached late (λ p q f h k e. fl.goes_on p q f e) before first_order.later d.end first_order.are_late first_order.then_late

  abbrev pub after : CircuitState
  after = second_order.middle

  abbrev FiresEarly : Name → Type 0
  FiresEarly n = (reached n ≡ false) × FiresIn g n

  abbrev FiresPart : Name → Type 0
  FiresPart n = (late n ≡ false) × FiresReached n

  abbrev FiresLate : Name → Type 0
  FiresLate n = (late n ≡ true) × FiresReached n

  part_inside : (n : Name) → FiresPart n → inside left n ≡ true
  part_inside n h =
      elim (reached_cases n (inside left n) refl h.1.0) [
        | inl i ↦ i
        | inr l ↦ clash (late n) l h.0
      ]

  -- what the early nodes leave
  before_wire : (p : Port) → reached p.node ≡ true → ((q : Port) → g.feeder p ≡ Some q → reached q.node ≡ true) → before.wires p ≡ (loaded g ins).wires p
  before_wire p e from =
      kept_wire g FiresEarly p (λ h. clash (reached p.node) e h.0) (λ q f h. clash (reached q.node) (from q f) h.0)
      (loaded g ins) first_order.early before first_order.are_early first_order.first

  pub before_exit : (p q : Port) → inside left p.node ≡ false → g.feeder p ≡ Some q → inside left q.node ≡ true → before.wires p ≡ []
  before_exit p q o f iq =
      let l = left_leaves g left target pt p q o iq f in
      before_wire p (reached_late p.node (fl.leaves p q f iq o))
      (λ r e. reached_inside r.node (ap (λ (z : Port). inside left z.node) (same_Some r q (sym e ∙ f)) ∙ iq))
      ∙ out_loaded g left st hl ins p q l.at l.shape f iq l.feeds l.is_exit l.first

  before_slots : (n : Name) → inside left n ≡ true → before.slots n ≡ []
  before_slots n i =
      kept_slots g FiresEarly n (λ h. clash (reached n) (reached_inside n i) h.0) (loaded g ins) first_order.early before first_order.are_early first_order.first

  -- what the part leaves
  pub after_wire : (p : Port) → inside left p.node ≡ false → ((q : Port) → g.feeder p ≡ Some q → inside left q.node ≡ false) → after.wires p ≡ before.wires p
  after_wire p o from =
      kept_wire g FiresPart p (λ h. clash (inside left p.node) (part_inside p.node h) o) (λ q f h. clash (inside left q.node) (part_inside q.node h) (from q f))
      before second_order.early after second_order.are_early second_order.first

  pub after_slots : (n : Name) → inside left n ≡ false → after.slots n ≡ before.slots n
  after_slots n o =
      kept_slots g FiresPart n (λ h. clash (inside left n) (part_inside n h) o) before second_order.early after second_order.are_early second_order.first

  -- what the late nodes leave
  end_wire : (p : Port) → inside left p.node ≡ true → d.end.wires p ≡ after.wires p
  end_wire p i =
      kept_wire g FiresLate p (λ h. clash (late p.node) h.0 (fl.apart p.node i)) (λ q f h. clash (late p.node) (fl.goes_on p q f h.0) (fl.apart p.node i))
      after second_order.later d.end second_order.are_late second_order.then_late

  end_slots : (n : Name) → inside left n ≡ true → d.end.slots n ≡ after.slots n
  end_slots n i =
      kept_slots g FiresLate n (λ h. clash (late n) h.0 (fl.apart n i)) after second_order.later d.end second_order.are_late second_order.then_late

  pub after_rests : (p : Port) → inside left p.node ≡ true → after.wires p ≡ d.rest.wires p
  after_rests p i =
      let (k, e, ik) = inner_some_at (left.kind_at p.node) i in
      sym (end_wire p i) ∙ d.others p k (pt.nodes p.node k e ik) (inner_no_exit k ik)

  -- the part's own firings
  abbrev pub end_left : CircuitState
  end_left = cut framed extra (cl after)

  part_thick : cl after ≡ thick framed extra end_left
  part_thick =
      thick_cut framed extra (cl after) (λ p e. cl_own after p (framed_inside p e) ∙ after_rests p (framed_inside p e))

  pub part_run : (z : CircuitState) × (cl before ≡ thick framed extra z) × Firings left z second_order.early end_left
  part_run =
      thin_firings left (inside left) framed extra unfed (cl before) second_order.early end_left
      (each_map (λ f. FiresPart f.node) (λ f. inside left f.node ≡ true) (λ f h. part_inside f.node h) second_order.early second_order.are_early)
      (subst (Firings left (cl before) second_order.early) part_thick
      (carried_firings g left (inside left) lw (part_carries g left target pt) (start left) before second_order.early after
      (each_map (λ f. FiresPart f.node) (λ f. inside left f.node ≡ true) (λ f h. part_inside f.node h) second_order.early second_order.are_early) second_order.first))

  abbrev pub thin : CircuitState
  thin = part_run.0

  -- what reaches the part's inputs, and what it gives
  abbrev pub given : Name → List Token
  given n = on_wire (target (record { node = n; port = 1 })) thin.wires []

  abbrev pub taken : Name → List Token
  taken n = end_left.wires (record { node = n; port = 1 })

  given_is : (p r : Port) (a : Shape) → left.feeder p ≡ Some r → left.kind_at r.node ≡ Some (Entry a) → given r.node ≡ thin.wires p
  given_is p r a f k =
      elim (source_of left pt.part p r f) [
        | listed i ↦ clash (inside left r.node) i (ap is_inner k)
        | enters b e port ↦ ap (λ o. on_wire o thin.wires []) (ap target (sym port) ∙ (pt.target_is p r).0 f)
      ]

  -- what waits before the part is what it drains, and behind that what rests there
  pub before_entering : (p r : Port) (a : Shape) → left.feeder p ≡ Some r → left.kind_at r.node ≡ Some (Entry a) → before.wires p ≡ given r.node ++ d.rest.wires p
  before_entering p r a f k =
      sym (cl_own before p (entry_feeds g left target pt p r a f k))
      ∙ thin_framed (cl before) thin part_run.1 p (is_by_entry left p r a f k) ∙ ap (λ z. z ++ d.rest.wires p) (sym (given_is p r a f k))

  entry_loaded : (p : Port) → framed p ≡ true → (loaded left given).wires p ≡ thin.wires p
  entry_loaded p e =
      let (r, a, f, k) = entry_source left p e in
      (λ i. entry_start p e i ++ put_on left given (f i)) ∙ ap (λ o. put_by given o r.node) k ∙ given_is p r a f k

  thin_wires_at : (p : Port) (o : Option Port) → PartWire g left target pt p o → framed p ≡ false → on_wire o before.wires ((start left).wires p) ≡ (loaded left given).wires p
  thin_wires_at p _ (own i) n =
      before_wire p (reached_inside p.node i) (λ q f. reached_inside q.node (source_inside p q i n f)) ∙ loaded_inside given p i n
  thin_wires_at p _ (out q o lf iq a e port) n = before_exit o.to q o.away o.feeds iq ∙ sym (exit_loaded left hl given q p a lf iq e port)
  thin_wires_at p _ (dead o lf) n = sym (ap (λ z. (start left).wires p ++ put_on left given z) lf ∙ append-nil ((start left).wires p))

  thin_wires : (p : Port) (b : Bool) → framed p ≡ b → thin.wires p ≡ (loaded left given).wires p
  thin_wires p true e = sym (entry_loaded p e)
  thin_wires p false e =
      thin_plain (cl before) thin part_run.1 p e ∙ thin_wires_at p (lw p) (part_wire_is g left target pt p) e

  thin_is : thin ≡ loaded left given
  thin_is =
      λ i. record {
        wires = λ p. thin_wires p (framed p) refl i;
        slots = λ n. (thin_slots (cl before) thin part_run.1 n ∙ empty_slots before before_slots n (inside left n) refl) i;
      }

  no_exit_own : (p : Port) (o : Option Port) → PartWire g left target pt p o → (k : Kind) → left.kind_at p.node ≡ Some k → IsNoExit k → on_wire o after.wires ((start left).wires p) ≡ on_wire o d.rest.wires ((start left).wires p)
  no_exit_own p _ (own i) k e h = after_rests p i
  no_exit_own p _ (out q o lf iq a ex port) k e h = absurd (subst IsNoExit (same_Some k (Exit a) (sym e ∙ ex)) h)
  no_exit_own p _ (dead o lf) k e h = refl

  others_at : (p : Port) (k : Kind) → left.kind_at p.node ≡ Some k → IsNoExit k → end_left.wires p ≡ rest_left.wires p
  others_at p k e h = ap (λ z. if framed p then [] else z) (no_exit_own p (lw p) (part_wire_is g left target pt p) k e h)

  -- the part drains what reaches it
  pub left_drains : DrainsTo left given taken
  left_drains =
      record {
        rest = rest_left;
        is_rest = left_rests;
        firings = second_order.early;
        end = end_left;
        leads = subst (λ w. Firings left w second_order.early end_left) thin_is part_run.2;
        slots = λ n k e.
            empty_slots after (λ m i. sym (end_slots m i) ∙ (let (j, f, ij) = inner_some_at (left.kind_at m) i in d.slots m j (pt.nodes m j f ij))) n (inside left n) refl;
        exits = λ n a e. refl;
        others = others_at;
      }

  -- what reaches it fits
  pub given_fits : ValuesFit → InputsFit left given
  given_fits values n a e =
      let (p, f) = pt.part.outputs (record { node = n; port = 1 }) (Entry a) a e refl in
      let w = pt.part.wires p (record { node = n; port = 1 }) f in
      let i : inside left p.node ≡ true = entry_feeds g left target pt p (record { node = n; port = 1 }) a f e in
      let il : is_inner (Some w.to) ≡ true = ap is_inner (sym w.is_to) ∙ i in
      let shape : w.shape ≡ a = entry_shape w.from a w.shape (same_Some w.from (Entry a) (sym w.is_from ∙ e)) w.leaves in
      let all : AllByRecursion (Fits w.shape) (before.wires p) =
      (firings_fit values g pt.whole (loaded g ins) first_order.early before first_order.first (loaded_fits g pt.whole ins fit)).wires p w.to w.shape (pt.nodes p.node w.to w.is_to il) w.enters in
      each_left (Fits a) (given n) (d.rest.wires p)
      (subst (AllByRecursion (Fits a)) (before_entering p (record { node = n; port = 1 }) a f e) (subst (λ z. AllByRecursion (Fits z) (before.wires p)) shape all))

  -- what it gives stands behind it
  taken_at : (x r : Port) (q : Port) (o : Option Port) → PartWire g left target pt x o → inside left x.node ≡ false → left.feeder x ≡ Some q → g.feeder r ≡ Some q → on_wire o after.wires ((start left).wires x) ≡ after.wires r
  taken_at x r q _ (own i) away lf f = clash (inside left x.node) i away
  taken_at x r q _ (out s o lf2 iq a e port) away lf f =
      ap after.wires (pt.whole.once o.to r q (o.feeds ∙ ap Some (same_Some s q (sym lf2 ∙ lf))) f)
  taken_at x r q _ (dead o lf2) away lf f = absurd (none_some (left.feeder x) q lf2 lf)

  pub taken_is : (x r q : Port) (a : Shape) → left.kind_at x.node ≡ Some (Exit a) → x ≡ record { node = x.node; port = 1 } → left.feeder x ≡ Some q → inside left q.node ≡ true → g.feeder r ≡ Some q → taken x.node ≡ after.wires r
  taken_is x r q a e port lf iq f =
      ap end_left.wires (sym port) ∙ ap (λ b. if b then [] else (cl after).wires x) (ap (by_entry left) lf ∙ listed_no_entry (left.kind_at q.node) iq)
      ∙ taken_at x r q (lw x) (part_wire_is g left target pt x) (ap is_inner e) lf f

  -- who fires when
  pub early_outside : (n : Name) → FiresEarly n → inside left n ≡ false
  early_outside n h =
      elim (bool_cases (inside left n)) [
        | inl i ↦ clash (reached n) (reached_inside n i) h.0
        | inr o ↦ o
      ]

  pub late_outside : (n : Name) → FiresLate n → inside left n ≡ false
  late_outside n h =
      elim (bool_cases (inside left n)) [
        | inl i ↦ clash (late n) h.0 (fl.apart n i)
        | inr o ↦ o
      ]
