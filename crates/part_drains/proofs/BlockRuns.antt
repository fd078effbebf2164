-- Where a part fires from rest to rest, a part in its place that drains what it drains fires too.
use Rattle.std.proofs.Common.{◌≡◌, refl, sym, ap, subst, ◌∙◌, true, false, Bool, if◌then◌else◌, List, [], ◌++◌, Option, Some, None, append-nil}
use Rattle.port_types.specs.Token.{Fits}
use Rattle.components.specs.Kind.{Shape, outs}
use Rattle.components.specs.Name.{Name, Port, port_get}
use Rattle.components.specs.declared.kind.Kind.{Kind}
use Rattle.components.specs.declared.kind.Kind.TheVariants.{Entry, Exit}
use Rattle.circuits.specs.PortTokens.{Token}
use Rattle.std.specs.List.{AllByRecursion}
use Rattle.circuits.specs.CircuitState.{CircuitState, IsStateOf, start, initial}
use Rattle.circuits.specs.Circuit.{Circuit, Typed, kind_of}
use Rattle.circuits.specs.Refines.{SamePorts}
use Rattle.circuits.specs.Run.{Firing, Firings}
use Rattle.circuits.specs.Drains.{put_by, put_on, loaded, IsNoExit}
use Rattle.circuits.specs.Replacing.{is_inner, is_entry, IsPart, IsNew}
use Rattle.circuits.proofs.Beside.{none_some}
use Rattle.circuits.proofs.Lists.{each_map, each_left}
use Rattle.std.proofs.lemmas.Option.{same_Some}
use Rattle.part_drains.proofs.Carries.{on_wire, carried, thick}
use Rattle.part_drains.specs.Part.{inside, HasNoInit}
use Rattle.part_drains.proofs.Draining.{InitBehind, InitBehind.init, InitBehind.past, LedBy, RestsAt, DrainsTo, HoldsRestBy, InputsFit, KeepsDrainsTo}
use Rattle.part_drains.proofs.Sorts.{inner_some_at, no_right}
use Rattle.part_drains.proofs.Carrying.{carried_firings, thin_firings}
use Rattle.part_drains.proofs.Untouched.{FiresIn, all_fire, kept_wire, kept_slots, thick_firings, ahead, ahead_firings, bare_firings, waits, led_dry}
use Rattle.part_drains.proofs.PartInside.{tree_listed, listed, enters, source_of, led_inside}
use Rattle.part_drains.proofs.PartPlace.{clash, left_stands, entry_feeds, part_wire, PartWire, own, out, dead, part_wire_is, part_carries}
use Rattle.part_drains.proofs.NewPlace.{stays_is, stays_not_new, kind_new, kind_kept, kind_gone, new_own, old_carries, new_carries, new_stands, led_new, led_old, Enters, Within, Apart, Exits, entering, within, gone, apart, exiting}
use Rattle.part_drains.proofs.PartStates.{read_some, read_none, read_slot, read_other, thick_in, thick_out, cut, thick_cut, by_entry, entry_source, is_by_entry, not_by_entry, fed_listed, initial_none}
use Rattle.part_drains.proofs.PartDrains.{h, keeps, ow, nw, at, apart_old, fires_outside, within_start, begins, loads, framed, enters_framed, within_framed, exits_framed, unfed, right_fires, right_loaded}
use Rattle.part_drains.proofs.PartPasses.{inner_no_exit}

-- where there is no Init nothing is led
pub none_comes : (c : Circuit) → HasNoInit c → (p : Port) → InitBehind c p → ⊥
none_comes c none p (init q v m f e) = none q.node v m e
none_comes c none p (past q k f e tree ch) = none_comes c none (record { node = q.node; port = 1 }) ch

pub none_starts : (c : Circuit) → HasNoInit c → (p : Port) → (start c).wires p ≡ []
none_starts c none p = at_source (c.feeder p)
  where
    at_source : (o : Option Port) → initial (kind_of c o) ≡ []
    at_source None = refl
    at_source (Some q) = initial_none (c.kind_at q.node) (λ v m e. none q.node v m e)

pub rests_at_start : (c : Circuit) → HasNoInit c → RestsAt c (start c)
rests_at_start c none =
    record { firings = []; led = tt; leads = refl; ends = λ n k t led st. none_comes c none (record { node = n; port = 1 }) led.comes }

-- the part's wires but those from outside are empty, and so are its slots
pub record AtRest (part : Circuit) (s : CircuitState) : Type 0 where
  pub wires : (p : Port) → inside part p.node ≡ true → by_entry part (part.feeder p) ≡ false → s.wires p ≡ []
  pub slots : (n : Name) → inside part n ≡ true → s.slots n ≡ []

module _ (g left right : Circuit) (target : Port → Option Port) (pt : IsPart g left target) (tr : Typed right) (ports : SamePorts right left) (new : IsNew g left right) (hl : HoldsRestBy left) (hr : HoldsRestBy right) (nl : HasNoInit left) (nr : HasNoInit right) (keep : KeepsDrainsTo left right) where
  abbrev H : Circuit
  H = h g left right target pt tr ports new hl hr

  abbrev K : Name → Bool
  K = keeps g left right target pt tr ports new hl hr

  abbrev OW : Port → Option Port
  OW = ow g left right target pt tr ports new hl hr

  abbrev NW : Port → Option Port
  NW = nw g left right target pt tr ports new hl hr

  abbrev FR : Port → Bool
  FR = framed g left right target pt tr ports new hl hr

  -- a state of g with the part at rest, as one of the new circuit
  abbrev pub em : CircuitState → CircuitState
  em s = carried K OW (start H) s

  module _ (s t : CircuitState) (fs : List Firing) (here : AllByRecursion (λ f. inside left f.node ≡ true) fs) (run : Firings g s fs t) (rs : AtRest left s) (rt : AtRest left t) (fits : IsStateOf g s) where
    abbrev lw : Port → Option Port
    lw = part_wire g left target pt

    abbrev cl : CircuitState → CircuitState
    cl u = carried (inside left) lw (start left) u

    abbrev FL : Port → Bool
    FL p = by_entry left (left.feeder p)

    framed_in : (p : Port) → FL p ≡ true → inside left p.node ≡ true
    framed_in p e = let (r, a, f, k) = entry_source left p e in entry_feeds g left target pt p r a f k

    cl_own : (u : CircuitState) (p : Port) → inside left p.node ≡ true → (cl u).wires p ≡ u.wires p
    cl_own u p i = read_some (inside left) lw (start left) u p p ((part_carries g left target pt).own p i)

    unfed_left : (p q : Port) → FL p ≡ true → inside left q.node ≡ true → left.feeder p ≡ Some q → ⊥
    unfed_left p q e i f =
        let (r, a, lf, k) = entry_source left p e in
        clash (inside left q.node) i (ap (λ (z : Port). inside left z.node) (same_Some q r (sym f ∙ lf)) ∙ ap is_inner k)

    abbrev stop : CircuitState
    stop = cut FL t.wires (cl t)

    thinned : (z : CircuitState) × (cl s ≡ thick FL t.wires z) × Firings left z fs stop
    thinned =
        thin_firings left (inside left) FL t.wires unfed_left (cl s) fs stop here
        (subst (Firings left (cl s) fs) (thick_cut FL t.wires (cl t) (λ p e. cl_own t p (framed_in p e)))
        (carried_firings g left (inside left) lw (part_carries g left target pt) (start left) s fs t here run))

    abbrev z : CircuitState
    z = thinned.0

    z_framed : (p : Port) → FL p ≡ true → (cl s).wires p ≡ z.wires p ++ t.wires p
    z_framed p e = ap (λ (x : CircuitState). x.wires p) thinned.1 ∙ thick_in FL t.wires z p e

    z_plain : (p : Port) → FL p ≡ false → z.wires p ≡ (cl s).wires p
    z_plain p e = sym (ap (λ (x : CircuitState). x.wires p) thinned.1 ∙ thick_out FL t.wires z p e)

    -- what stands behind the part already
    abbrev frontL : Port → List Token
    frontL x = if inside left x.node then [] else z.wires x

    abbrev z0 : CircuitState
    z0 = record { wires = λ x. if inside left x.node then z.wires x else []; slots = z.slots }

    front_split : (x : Port) (b : Bool) → z.wires x ≡ (if b then [] else z.wires x) ++ (if b then z.wires x else [])
    front_split x true = refl
    front_split x false = sym (append-nil (z.wires x))

    z_ahead : z ≡ ahead frontL z0
    z_ahead = λ i. record { wires = λ x. front_split x (inside left x.node) i; slots = z.slots }

    bared : (w : CircuitState) × (stop ≡ ahead frontL w) × Firings left z0 fs w
    bared =
        bare_firings left (λ n. inside left n ≡ true) frontL (λ p i. ap (λ b. if b then [] else z.wires p) i) z0 fs stop here
        (subst (λ y. Firings left y fs stop) z_ahead thinned.2)

    abbrev w : CircuitState
    w = bared.0

    stop_is : (p : Port) → stop.wires p ≡ frontL p ++ w.wires p
    stop_is p = ap (λ (x : CircuitState). x.wires p) bared.1

    abbrev given : Name → List Token
    given n = on_wire (target (record { node = n; port = 1 })) z.wires []

    abbrev taken : Name → List Token
    taken n = w.wires (record { node = n; port = 1 })

    given_is : (p r : Port) (a : Shape) → left.feeder p ≡ Some r → left.kind_at r.node ≡ Some (Entry a) → given r.node ≡ z.wires p
    given_is p r a f k =
        elim (source_of left pt.part p r f) [
          | listed i ↦ clash (inside left r.node) i (ap is_inner k)
          | enters b e port ↦ ap (λ o. on_wire o z.wires []) (ap target (sym port) ∙ (pt.target_is p r).0 f)
        ]

    load_plain_at : (p : Port) (o : Option Port) → left.feeder p ≡ o → by_entry left o ≡ false → put_on left given o ≡ []
    load_plain_at p None f e = refl
    load_plain_at p (Some q) f e =
        elim (source_of left pt.part p q f) [
          | listed i ↦ fed_listed given (left.kind_at q.node) q.node i
          | enters a k port ↦ clash (by_entry left (Some q)) (ap is_entry k) e
        ]

    load_plain : (p : Port) → FL p ≡ false → (loaded left given).wires p ≡ []
    load_plain p e = λ i. none_starts left nl p i ++ load_plain_at p (left.feeder p) refl e i

    load_framed : (p : Port) → FL p ≡ true → (loaded left given).wires p ≡ z.wires p
    load_framed p e =
        let (r, a, f, k) = entry_source left p e in
        (λ i. none_starts left nl p i ++ put_on left given (f i)) ∙ ap (λ o. put_by given o r.node) k ∙ given_is p r a f k

    -- an Exit has no wire from an Entry
    away_plain_at : (p : Port) → inside left p.node ≡ false → (b : Bool) → FL p ≡ b → FL p ≡ false
    away_plain_at p o true e = clash (inside left p.node) (framed_in p e) o
    away_plain_at p o false e = e

    z0_wires : (p : Port) (a b : Bool) → inside left p.node ≡ a → FL p ≡ b → (if a then z.wires p else []) ≡ (loaded left given).wires p
    z0_wires p true true i e = sym (load_framed p e)
    z0_wires p true false i e = z_plain p e ∙ cl_own s p i ∙ rs.wires p i e ∙ sym (load_plain p e)
    z0_wires p false b i e = sym (load_plain p (away_plain_at p i (FL p) refl))

    z_slots : (n : Name) (b : Bool) → inside left n ≡ b → z.slots n ≡ []
    z_slots n true i = sym (ap (λ (x : CircuitState). x.slots n) thinned.1) ∙ read_slot (inside left) lw (start left) s n i ∙ rs.slots n i
    z_slots n false i = sym (ap (λ (x : CircuitState). x.slots n) thinned.1) ∙ read_other (inside left) lw (start left) s n i

    z0_is : z0 ≡ loaded left given
    z0_is = λ i. record { wires = λ p. z0_wires p (inside left p.node) (FL p) refl refl i; slots = λ n. z_slots n (inside left n) refl i }

    w_slots : (n : Name) (b : Bool) → inside left n ≡ b → w.slots n ≡ []
    w_slots n true i = sym (ap (λ (x : CircuitState). x.slots n) bared.1) ∙ read_slot (inside left) lw (start left) t n i ∙ rt.slots n i
    w_slots n false i = sym (ap (λ (x : CircuitState). x.slots n) bared.1) ∙ read_other (inside left) lw (start left) t n i

    stop_inside : (p : Port) → inside left p.node ≡ true → (b : Bool) → FL p ≡ b → stop.wires p ≡ []
    stop_inside p i true e = ap (λ b. if b then [] else (cl t).wires p) e
    stop_inside p i false e = ap (λ b. if b then [] else (cl t).wires p) e ∙ cl_own t p i ∙ rt.wires p i e

    stop_away : (p : Port) (o : Option Port) → PartWire g left target pt p o → inside left p.node ≡ false → (k : Kind) → left.kind_at p.node ≡ Some k → IsNoExit k → on_wire o t.wires ((start left).wires p) ≡ []
    stop_away p _ (own i) away k e no_exit = clash (inside left p.node) i away
    stop_away p _ (out q o lf iq a ex port) away k e no_exit = absurd (subst IsNoExit (same_Some k (Exit a) (sym e ∙ ex)) no_exit)
    stop_away p _ (dead o lf) away k e no_exit = none_starts left nl p

    w_none : (p : Port) (k : Kind) → left.kind_at p.node ≡ Some k → IsNoExit k → (b : Bool) → inside left p.node ≡ b → w.wires p ≡ []
    w_none p k e no_exit true i = no_right (frontL p) (w.wires p) (sym (stop_is p) ∙ stop_inside p i (FL p) refl)
    w_none p k e no_exit false i =
        no_right (frontL p) (w.wires p)
        (sym (stop_is p) ∙ ap (λ b. if b then [] else (cl t).wires p) (away_plain_at p i (FL p) refl) ∙ stop_away p (lw p) (part_wire_is g left target pt p) i k e no_exit)

    block_drains : DrainsTo left given taken
    block_drains =
        record {
          rest = start left;
          is_rest = rests_at_start left nl;
          firings = fs;
          end = w;
          leads = subst (λ y. Firings left y fs w) z0_is bared.2;
          slots = λ n k e. w_slots n (inside left n) refl;
          exits = λ n a e. refl;
          others = λ p k e no_exit. w_none p k e no_exit (inside left p.node) refl ∙ sym (none_starts left nl p);
        }

    entry_shape : (k : Kind) (a b : Shape) → k ≡ Entry a → port_get (outs k) 1 ≡ Some b → b ≡ a
    entry_shape k a b e f = same_Some b a (sym f ∙ ap (λ y. port_get (outs y) 1) e)

    before_in : (p r : Port) (a : Shape) → left.feeder p ≡ Some r → left.kind_at r.node ≡ Some (Entry a) → s.wires p ≡ given r.node ++ t.wires p
    before_in p r a f k =
        sym (cl_own s p (entry_feeds g left target pt p r a f k)) ∙ z_framed p (is_by_entry left p r a f k) ∙ ap (λ y. y ++ t.wires p) (sym (given_is p r a f k))

    given_fits : InputsFit left given
    given_fits n a e =
        let (p, f) = pt.part.outputs (record { node = n; port = 1 }) (Entry a) a e refl in
        let v = pt.part.wires p (record { node = n; port = 1 }) f in
        let i : inside left p.node ≡ true = entry_feeds g left target pt p (record { node = n; port = 1 }) a f e in
        let il : is_inner (Some v.to) ≡ true = ap is_inner (sym v.is_to) ∙ i in
        let shape : v.shape ≡ a = entry_shape v.from a v.shape (same_Some v.from (Entry a) (sym v.is_from ∙ e)) v.leaves in
        each_left (Fits a) (given n) (t.wires p)
        (subst (AllByRecursion (Fits a)) (before_in p (record { node = n; port = 1 }) a f e)
        (subst (λ y. AllByRecursion (Fits y) (s.wires p)) shape (fits.wires p v.to v.shape (pt.nodes p.node v.to v.is_to il) v.enters)))

    dr : DrainsTo right given taken
    dr = keep given taken given_fits block_drains

    -- the new part in its place
    abbrev frontR : Port → List Token
    frontR x = if inside right x.node then [] else on_wire (lw x) s.wires []

    abbrev extraR : Port → List Token
    extraR r = on_wire (OW r) t.wires []

    abbrev full : CircuitState → CircuitState
    full u = ahead frontR (thick FR extraR u)

    abbrev there : CircuitState → CircuitState
    there u = carried (inside right) NW (em s) (full u)

    abbrev own_new : (r : Port) → inside right r.node ≡ true → NW r ≡ Some r
    own_new = new_own g left right target pt tr ports new hl hr

    front_new : (x : Port) → inside right x.node ≡ true → frontR x ≡ []
    front_new x i = ap (λ b. if b then [] else on_wire (lw x) s.wires []) i

    there_entering : (u : CircuitState) (r : Port) (x : Enters g left right target pt tr ports new hl hr r) → (there u).wires r ≡ u.wires r ++ t.wires x.was
    there_entering u r x =
        read_some (inside right) NW (em s) (full u) r r (own_new r x.is_new) ∙ ap (λ y. y ++ (thick FR extraR u).wires r) (front_new r x.is_new)
        ∙ thick_in FR extraR u r (enters_framed g left right target pt tr ports new hl hr r x) ∙ ap (λ o. u.wires r ++ on_wire o t.wires []) x.old

    there_within : (u : CircuitState) (r : Port) (x : Within g left right target pt tr ports new hl hr r) → (there u).wires r ≡ u.wires r
    there_within u r x =
        read_some (inside right) NW (em s) (full u) r r (own_new r x.is_new) ∙ ap (λ y. y ++ (thick FR extraR u).wires r) (front_new r x.is_new)
        ∙ thick_out FR extraR u r (within_framed g left right target pt tr ports new hl hr r x)

    lane_wire : (x r q : Port) (o : Option Port) → PartWire g left target pt x o → inside left x.node ≡ false → left.feeder x ≡ Some q → g.feeder r ≡ Some q → o ≡ Some r
    lane_wire x r q _ (own i) away lf f = clash (inside left x.node) i away
    lane_wire x r q _ (out y o lf2 iq a e port) away lf f =
        ap Some (pt.whole.once o.to r q (o.feeds ∙ ap Some (same_Some y q (sym lf2 ∙ lf))) f)
    lane_wire x r q _ (dead o lf2) away lf f = absurd (none_some (left.feeder x) q lf2 lf)

    exit_wire : (r : Port) (x : Exits g left right target pt tr ports new hl hr r) → lw x.leaves.at ≡ Some r
    exit_wire r x =
        lane_wire x.leaves.at r x.was (lw x.leaves.at) (part_wire_is g left target pt x.leaves.at) (ap is_inner x.leaves.is_exit) x.leaves.feeds x.was_fed

    front_exit : (r : Port) (x : Exits g left right target pt tr ports new hl hr r) → frontR x.leaves.at ≡ s.wires r
    front_exit r x =
        ap (λ b. if b then [] else on_wire (lw x.leaves.at) s.wires []) (ap is_inner x.exit) ∙ ap (λ o. on_wire o s.wires []) (exit_wire r x)

    there_exiting : (u : CircuitState) (r : Port) (x : Exits g left right target pt tr ports new hl hr r) → (there u).wires r ≡ s.wires r ++ u.wires x.leaves.at
    there_exiting u r x =
        read_some (inside right) NW (em s) (full u) r x.leaves.at x.is
        ∙ (λ i. front_exit r x i ++ thick_out FR extraR u x.leaves.at (exits_framed g left right target pt tr ports new hl hr r x) i)

    new_load_entering : (r : Port) (x : Enters g left right target pt tr ports new hl hr r) → (loaded right given).wires r ≡ given x.by.node
    new_load_entering r x = (λ i. none_starts right nr r i ++ put_on right given (x.fed i)) ∙ ap (λ k. put_by given k x.by.node) x.new_entry

    new_load_within_at : (o : Option Port) → ((q : Port) → o ≡ Some q → inside right q.node ≡ true) → put_on right given o ≡ []
    new_load_within_at None from = refl
    new_load_within_at (Some q) from = fed_listed given (right.kind_at q.node) q.node (from q refl)

    new_load_within : (r : Port) (x : Within g left right target pt tr ports new hl hr r) → (loaded right given).wires r ≡ (start right).wires r
    new_load_within r x = ap (λ y. (start right).wires r ++ y) (new_load_within_at (right.feeder r) x.from) ∙ append-nil ((start right).wires r)

    begin_wire : (r : Port) → (em s).wires r ≡ (there (loaded right given)).wires r
    begin_wire r =
        elim (at g left right target pt tr ports new hl hr r) [
          | entering x ↦
              read_some K OW (start H) s r x.was x.old ∙ before_in x.was x.by x.shape x.was_fed x.old_entry
              ∙ ap (λ y. y ++ t.wires x.was) (sym (new_load_entering r x)) ∙ sym (there_entering (loaded right given) r x)
          | within x ↦
              read_none K OW (start H) s r x.old ∙ within_start g left right target pt tr ports new hl hr r x ∙ sym (new_load_within r x) ∙ sym (there_within (loaded right given) r x)
          | gone x ↦ sym (read_none (inside right) NW (em s) (full (loaded right given)) r x.none)
          | apart x ↦ sym (read_none (inside right) NW (em s) (full (loaded right given)) r x.none)
          | exiting x ↦
              read_some K OW (start H) s r r x.old ∙ sym (append-nil (s.wires r))
              ∙ ap (λ y. s.wires r ++ y) (sym (right_loaded g left right target pt tr ports new hl hr given r x)) ∙ sym (there_exiting (loaded right given) r x)
        ]

    begin_slots : (n : Name) (b : Bool) → inside right n ≡ b → (em s).slots n ≡ (if b then [] else (em s).slots n)
    begin_slots n true i = read_other K OW (start H) s n (stays_not_new g left right target pt tr ports new hl hr n i)
    begin_slots n false i = refl

    begin_is : em s ≡ there (loaded right given)
    begin_is = λ i. record { wires = λ r. begin_wire r i; slots = λ n. begin_slots n (inside right n) refl i }

    rest_is : (p : Port) → dr.rest.wires p ≡ []
    rest_is p =
        kept_wire right (LedBy right) p (λ led. none_comes right nr (record { node = p.node; port = 1 }) led.comes) (λ q f led. none_comes right nr (record { node = q.node; port = 1 }) led.comes)
        (start right) dr.is_rest.firings dr.rest dr.is_rest.led dr.is_rest.leads ∙ none_starts right nr p

    end_new : (p : Port) → inside right p.node ≡ true → dr.end.wires p ≡ []
    end_new p i = let (k, e, ik) = inner_some_at (right.kind_at p.node) i in dr.others p k e (inner_no_exit k ik) ∙ rest_is p

    end_exit : (r : Port) (x : Exits g left right target pt tr ports new hl hr r) → s.wires r ++ dr.end.wires x.leaves.at ≡ t.wires r
    end_exit r x =
        let plain : FL x.leaves.at ≡ false = not_by_entry left x.leaves.at x.was x.leaves.feeds x.was_inside in
        let away : inside left x.leaves.at.node ≡ false = ap is_inner x.leaves.is_exit in
        let was : z.wires x.leaves.at ≡ s.wires r = z_plain x.leaves.at plain ∙ read_some (inside left) lw (start left) s x.leaves.at r (exit_wire r x) in
        (λ i. sym was i ++ (ap dr.end.wires x.leaves.first ∙ dr.exits x.leaves.at.node x.leaves.shape x.exit ∙ ap w.wires (sym x.leaves.first)) i)
        ∙ ap (λ b. (if b then [] else z.wires x.leaves.at) ++ w.wires x.leaves.at) (sym away)
        ∙ sym (stop_is x.leaves.at) ∙ ap (λ b. if b then [] else (cl t).wires x.leaves.at) plain ∙ read_some (inside left) lw (start left) t x.leaves.at r (exit_wire r x)

    apart_kept : (r : Port) (x : Apart g left right target pt tr ports new hl hr r) → t.wires r ≡ s.wires r
    apart_kept r x =
        kept_wire g (λ n. inside left n ≡ true) r (λ i. clash (inside left r.node) i (apart_old g left right target pt tr ports new hl hr r.node x.stay))
        (λ q f i. clash (inside left q.node) i (apart_old g left right target pt tr ports new hl hr q.node (x.from q f))) s fs t here run

    end_wire : (r : Port) → (there dr.end).wires r ≡ (em t).wires r
    end_wire r =
        elim (at g left right target pt tr ports new hl hr r) [
          | entering x ↦
              there_entering dr.end r x ∙ ap (λ y. y ++ t.wires x.was) (end_new r x.is_new) ∙ sym (read_some K OW (start H) t r x.was x.old)
          | within x ↦
              there_within dr.end r x ∙ end_new r x.is_new ∙ sym (none_starts right nr r) ∙ sym (within_start g left right target pt tr ports new hl hr r x) ∙ sym (read_none K OW (start H) t r x.old)
          | gone x ↦
              read_none (inside right) NW (em s) (full dr.end) r x.none ∙ read_none K OW (start H) s r x.old ∙ sym (read_none K OW (start H) t r x.old)
          | apart x ↦
              read_none (inside right) NW (em s) (full dr.end) r x.none ∙ read_some K OW (start H) s r r x.old ∙ sym (apart_kept r x) ∙ sym (read_some K OW (start H) t r r x.old)
          | exiting x ↦ there_exiting dr.end r x ∙ end_exit r x ∙ sym (read_some K OW (start H) t r r x.old)
        ]

    end_slots : (n : Name) (a b : Bool) → inside right n ≡ a → K n ≡ b → (there dr.end).slots n ≡ (em t).slots n
    end_slots n true b i k =
        let (j, e, ij) = inner_some_at (right.kind_at n) i in
        read_slot (inside right) NW (em s) (full dr.end) n i ∙ dr.slots n j e ∙ sym (read_other K OW (start H) t n (stays_not_new g left right target pt tr ports new hl hr n i))
    end_slots n false true i k =
        read_other (inside right) NW (em s) (full dr.end) n i ∙ read_slot K OW (start H) s n k
        ∙ sym (kept_slots g (λ m. inside left m ≡ true) n (λ j. clash (inside left n) j (apart_old g left right target pt tr ports new hl hr n k)) s fs t here run)
        ∙ sym (read_slot K OW (start H) t n k)
    end_slots n false false i k =
        read_other (inside right) NW (em s) (full dr.end) n i ∙ read_other K OW (start H) s n k ∙ sym (read_other K OW (start H) t n k)

    end_is : there dr.end ≡ em t
    end_is = λ i. record { wires = λ r. end_wire r i; slots = λ n. end_slots n (inside right n) (K n) refl refl i }

    pub block_firings : List Firing
    block_firings = dr.firings

    pub block_runs : Firings H (em s) block_firings (em t)
    unfolding block_firings
    block_runs =
        subst (λ y. Firings H y dr.firings (em t)) (sym begin_is)
        (subst (Firings H (there (loaded right given)) dr.firings) end_is
        (carried_firings right H (inside right) NW (new_carries g left right target pt tr ports new hl hr) (em s) (full (loaded right given)) dr.firings (full dr.end)
        (each_map (λ f. FiresIn right f.node) (λ f. inside right f.node ≡ true) (λ f k. right_fires g left right target pt tr ports new hl hr f.node k) dr.firings fire_all)
        (ahead_firings right (FiresIn right) frontR (λ p k. front_new p (right_fires g left right target pt tr ports new hl hr p.node k)) (thick FR extraR (loaded right given)) dr.firings (thick FR extraR dr.end) fire_all
        (thick_firings right (FiresIn right) FR extraR (unfed g left right target pt tr ports new hl hr) (loaded right given) dr.firings dr.end fire_all dr.leads))))
      where
        fire_all : AllByRecursion (λ f. FiresIn right f.node) dr.firings
        fire_all = all_fire right (loaded right given) dr.firings dr.end dr.leads

  -- firings outside the part
  pub outside_runs : (s t : CircuitState) (fs : List Firing) → AllByRecursion (λ f. K f.node ≡ true) fs → Firings g s fs t → Firings H (em s) fs (em t)
  outside_runs s t fs here run = carried_firings g H K OW (old_carries g left right target pt tr ports new hl hr) (start H) s fs t here run

  -- the new circuit at rest
  module _ (r : CircuitState) (is : RestsAt g r) where
    led_outside_at : (n : Name) → LedBy g n → (b : Bool) → inside left n ≡ b → K n ≡ true
    led_outside_at n led true i = absurd (none_comes left nl (record { node = n; port = 1 }) (led_inside g left (left_stands g left target pt) hl n i led).comes)
    led_outside_at n led false o =
        fires_outside g left right target pt tr ports new hl hr n (record { kind = led.kind; is_kind = led.is_kind; is_listed = tree_listed led.kind led.tree }) o

    led_keeps : (n : Name) → LedBy g n → K n ≡ true
    led_keeps n led = led_outside_at n led (inside left n) refl

    new_led : (n : Name) → LedBy H n → (a b : Bool) → inside right n ≡ a → inside left n ≡ b → K n ≡ true
    new_led n led true b i j =
        absurd (none_comes right nr (record { node = n; port = 1 }) (led_inside H right (new_stands g left right target pt tr ports new hl hr) hr n i led).comes)
    new_led n led false true i j = absurd (none_some (H.kind_at n) led.kind (kind_gone g left right target pt tr ports new hl hr n i j) led.is_kind)
    new_led n led false false i j = stays_is g left right target pt tr ports new hl hr n i j

    pub em_rests : RestsAt H (em r)
    em_rests =
        record {
          firings = is.firings;
          led = each_map (λ f. LedBy g f.node) (λ f. LedBy H f.node) (λ f led. led_new g left right target pt tr ports new hl hr f.node (led_keeps f.node led) led) is.firings is.led;
          leads = subst (λ y. Firings H y is.firings (em r)) (begins g left right target pt tr ports new hl hr)
              (outside_runs (start g) r is.firings (each_map (λ f. LedBy g f.node) (λ f. K f.node ≡ true) (λ f led. led_keeps f.node led) is.firings is.led) is.leads);
          ends = λ n k t led st.
              let s : K n ≡ true = new_led n led (inside right n) (inside left n) refl refl in
              waits H (em r) n led.kind led.is_kind led.tree
              (read_some K OW (start H) r (record { node = n; port = 1 }) (record { node = n; port = 1 }) ((old_carries g left right target pt tr ports new hl hr).own (record { node = n; port = 1 }) s)
              ∙ led_dry g r is n (led_old g left right target pt tr ports new hl hr n s led)) k t st;
        }

  -- a run of the new circuit that ends as g's does is a drain
  module _ (ins outs : Name → List Token) (d : DrainsTo g ins outs) (fs : List Firing) (run : Firings H (em (loaded g ins)) fs (em d.end)) where
    new_slots : (n : Name) (k : Kind) → H.kind_at n ≡ Some k → (a b : Bool) → inside right n ≡ a → inside left n ≡ b → (em d.end).slots n ≡ []
    new_slots n k e true b i j = read_other K OW (start H) d.end n (stays_not_new g left right target pt tr ports new hl hr n i)
    new_slots n k e false true i j = absurd (none_some (H.kind_at n) k (kind_gone g left right target pt tr ports new hl hr n i j) e)
    new_slots n k e false false i j =
        let s : K n ≡ true = stays_is g left right target pt tr ports new hl hr n i j in
        read_slot K OW (start H) d.end n s ∙ d.slots n k (sym (kind_kept g left right target pt tr ports new hl hr n s) ∙ e)

    new_exit : (n : Name) (a : Shape) → H.kind_at n ≡ Some (Exit a) → (b c : Bool) → inside right n ≡ b → inside left n ≡ c → (em d.end).wires (record { node = n; port = 1 }) ≡ outs n
    new_exit n a e true c i j = clash (inside right n) i (ap is_inner (sym (kind_new g left right target pt tr ports new hl hr n i) ∙ e))
    new_exit n a e false true i j = absurd (none_some (H.kind_at n) (Exit a) (kind_gone g left right target pt tr ports new hl hr n i j) e)
    new_exit n a e false false i j =
        let s : K n ≡ true = stays_is g left right target pt tr ports new hl hr n i j in
        read_some K OW (start H) d.end (record { node = n; port = 1 }) (record { node = n; port = 1 }) ((old_carries g left right target pt tr ports new hl hr).own (record { node = n; port = 1 }) s)
        ∙ d.exits n a (sym (kind_kept g left right target pt tr ports new hl hr n s) ∙ e)

    stay_end : (r : Port) (k : Kind) → H.kind_at r.node ≡ Some k → IsNoExit k → K r.node ≡ true → OW r ≡ Some r → (em d.end).wires r ≡ (em d.rest).wires r
    stay_end r k e no_exit s old =
        read_some K OW (start H) d.end r r old ∙ d.others r k (sym (kind_kept g left right target pt tr ports new hl hr r.node s) ∙ e) no_exit ∙ sym (read_some K OW (start H) d.rest r r old)

    new_others : (r : Port) (k : Kind) → H.kind_at r.node ≡ Some k → IsNoExit k → (em d.end).wires r ≡ (em d.rest).wires r
    new_others r k e no_exit =
        elim (at g left right target pt tr ports new hl hr r) [
          | entering x ↦
              let (j, ej, ij) = inner_some_at (left.kind_at x.was.node) x.was_inside in
              read_some K OW (start H) d.end r x.was x.old ∙ d.others x.was j (pt.nodes x.was.node j ej ij) (inner_no_exit j ij) ∙ sym (read_some K OW (start H) d.rest r x.was x.old)
          | within x ↦ read_none K OW (start H) d.end r x.old ∙ sym (read_none K OW (start H) d.rest r x.old)
          | gone x ↦ read_none K OW (start H) d.end r x.old ∙ sym (read_none K OW (start H) d.rest r x.old)
          | apart x ↦ stay_end r k e no_exit x.stay x.old
          | exiting x ↦ stay_end r k e no_exit x.stay x.old
        ]

    pub em_drains : DrainsTo H ins outs
    em_drains =
        record {
          rest = em d.rest;
          is_rest = em_rests d.rest d.is_rest;
          firings = fs;
          end = em d.end;
          leads = subst (λ y. Firings H y fs (em d.end)) (loads g left right target pt tr ports new hl hr ins) run;
          slots = λ n k e. new_slots n k e (inside right n) (inside left n) refl refl;
          exits = λ n a e. new_exit n a e (inside right n) (inside left n) refl refl;
          others = new_others;
        }
