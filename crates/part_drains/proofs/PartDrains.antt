-- A circuit with a part replaced drains what it drained.
use Rattle.std.proofs.Common.{◌≡◌, refl, sym, ap, subst, ◌∙◌, true, false, Bool, if◌then◌else◌, List, [], ◌++◌, Option, Some, None, append-nil}
use Rattle.components.specs.Kind.{Shape}
use Rattle.components.specs.Name.{Name, Port}
use Rattle.components.specs.declared.kind.Kind.{Kind}
use Rattle.components.specs.declared.kind.Kind.TheVariants.{Exit}
use Rattle.circuits.specs.PortTokens.{Token}
use Rattle.circuits.specs.Values.{ValuesFit}
use Rattle.circuits.specs.CircuitState.{CircuitState, start, initial}
use Rattle.circuits.specs.Circuit.{Circuit, Typed, kind_of}
use Rattle.circuits.specs.Refines.{SamePorts}
use Rattle.circuits.specs.Run.{Firings}
use Rattle.circuits.specs.Drains.{put_by, put_on, loaded, IsNoExit}
use Rattle.circuits.specs.Replacing.{is_inner, IsPart, IsNew}
use Rattle.circuits.proofs.Beside.{none_some}
use Rattle.circuits.proofs.Lists.{each_map, each_append}
use Rattle.circuits.proofs.Simulation.{firings_then}
use Rattle.std.proofs.lemmas.Option.{same_Some}
use Rattle.part_drains.proofs.Carries.{on_wire, carried, thick}
use Rattle.part_drains.specs.Part.{inside, FiresLast}
use Rattle.part_drains.proofs.Draining.{InitBehind, LedBy, RestsAt, DrainsTo, HoldsRestBy, InputsFit, KeepsDrainsTo}
use Rattle.part_drains.proofs.Sorts.{inner_some_at}
use Rattle.part_drains.proofs.Carrying.{carried_firings}
use Rattle.part_drains.proofs.Untouched.{FiresIn, all_fire, kept_wire, thick_firings, waits, led_dry}
use Rattle.part_drains.proofs.PartInside.{tree_listed, led_inside, led_outside}
use Rattle.part_drains.proofs.PartPlace.{clash, left_stands, entry_from}
use Rattle.part_drains.proofs.NewPlace.{changed, stays, stays_apart, stays_is, stays_not_new, node_stays, kind_new, kind_kept, kind_gone, old_wire, new_wire, new_own, Enters, Within, Apart, Exits, Place, entering, within, gone, apart, exiting, place, old_carries, new_carries, new_stands, led_new, led_old}
use Rattle.part_drains.proofs.PartStates.{read_some, read_none, read_slot, read_other, thick_in, thick_out, by_entry, entry_source, is_by_entry, not_by_entry, out_start, out_loaded, exit_start, exit_loaded, fed_listed}
use Rattle.part_drains.proofs.PartDrained.{rest_order, mid, mid_exit, exit_not_led, rest_outside, rest_entering, first_order, before, before_exit, second_order, after, after_wire, after_slots, after_rests, given, taken, before_entering, left_drains, given_fits, taken_is, early_outside, late_outside}
use Rattle.part_drains.proofs.PartPasses.{inner_no_exit}

module _ (g left right : Circuit) (target : Port → Option Port) (pt : IsPart g left target) (tr : Typed right) (ports : SamePorts right left) (new : IsNew g left right) (hl : HoldsRestBy left) (hr : HoldsRestBy right) where
  abbrev pub h : Circuit
  h = changed g left right target pt tr ports new hl hr

  abbrev pub keeps : Name → Bool
  keeps = stays g left right target pt tr ports new hl hr

  abbrev pub ow : Port → Option Port
  ow = old_wire g left right target pt tr ports new hl hr

  abbrev pub nw : Port → Option Port
  nw = new_wire g left right target pt tr ports new hl hr

  abbrev pub at : (r : Port) → Place g left right target pt tr ports new hl hr r
  at = place g left right target pt tr ports new hl hr

  pub apart_old : (n : Name) → keeps n ≡ true → inside left n ≡ false
  apart_old n s = (stays_apart g left right target pt tr ports new hl hr n s).1

  pub apart_new : (n : Name) → keeps n ≡ true → inside right n ≡ false
  apart_new n s = (stays_apart g left right target pt tr ports new hl hr n s).0

  pub fires_outside : (n : Name) → FiresIn g n → inside left n ≡ false → keeps n ≡ true
  fires_outside n f o =
      stays_is g left right target pt tr ports new hl hr n (node_stays g left right target pt tr ports new hl hr n f.kind f.is_kind o) o

  -- the same at the start
  kinds_same : (o : Option Port) → ((q : Port) → o ≡ Some q → keeps q.node ≡ true) → kind_of h o ≡ kind_of g o
  kinds_same None f = refl
  kinds_same (Some q) f = kind_kept g left right target pt tr ports new hl hr q.node (f q refl)

  fed_same : (ins : Name → List Token) (o : Option Port) → ((q : Port) → o ≡ Some q → keeps q.node ≡ true) → put_on h ins o ≡ put_on g ins o
  fed_same ins None f = refl
  fed_same ins (Some q) f = ap (λ k. put_by ins k q.node) (kind_kept g left right target pt tr ports new hl hr q.node (f q refl))

  pub start_same : (r p : Port) → h.feeder r ≡ g.feeder p → ((q : Port) → g.feeder p ≡ Some q → keeps q.node ≡ true) → (start h).wires r ≡ (start g).wires p
  start_same r p f from = ap (λ o. initial (kind_of h o)) f ∙ ap initial (kinds_same (g.feeder p) from)

  loaded_same : (ins : Name → List Token) (r p : Port) → h.feeder r ≡ g.feeder p → ((q : Port) → g.feeder p ≡ Some q → keeps q.node ≡ true) → (loaded h ins).wires r ≡ (loaded g ins).wires p
  loaded_same ins r p f from = λ i. start_same r p f from i ++ (ap (put_on h ins) f ∙ fed_same ins (g.feeder p) from) i

  pub enters_from : (r : Port) (x : Enters g left right target pt tr ports new hl hr r) (q : Port) → g.feeder x.was ≡ Some q → keeps q.node ≡ true
  enters_from r x q f =
      let v = pt.whole.wires x.was q f in
      let o : inside left q.node ≡ false = entry_from g left target pt x.was x.by q x.shape x.was_fed x.old_entry f in
      stays_is g left right target pt tr ports new hl hr q.node (node_stays g left right target pt tr ports new hl hr q.node v.from v.is_from o) o

  new_kinds : (o : Option Port) → ((q : Port) → o ≡ Some q → inside right q.node ≡ true) → kind_of h o ≡ kind_of right o
  new_kinds None f = refl
  new_kinds (Some q) f = kind_new g left right target pt tr ports new hl hr q.node (f q refl)

  pub none_fed : (c : Circuit) (ins : Name → List Token) (o : Option Port) → ((q : Port) → o ≡ Some q → is_inner (c.kind_at q.node) ≡ true) → put_on c ins o ≡ []
  none_fed c ins None f = refl
  none_fed c ins (Some q) f = fed_listed ins (c.kind_at q.node) q.node (f q refl)

  pub within_start : (r : Port) (x : Within g left right target pt tr ports new hl hr r) → (start h).wires r ≡ (start right).wires r
  within_start r x = ap (λ o. initial (kind_of h o)) x.same ∙ ap initial (new_kinds (right.feeder r) x.from)

  within_loaded : (lists : Name → List Token) (r : Port) (x : Within g left right target pt tr ports new hl hr r) → (start h).wires r ≡ (loaded right lists).wires r
  within_loaded lists r x =
      within_start r x ∙ sym (append-nil ((start right).wires r)) ∙ ap (λ z. (start right).wires r ++ z) (sym (none_fed right lists (right.feeder r) x.from))

  within_fed : (lists : Name → List Token) (r : Port) (x : Within g left right target pt tr ports new hl hr r) → put_on h lists (h.feeder r) ≡ []
  within_fed lists r x =
      none_fed h lists (h.feeder r)
      (λ q f. ap is_inner (kind_new g left right target pt tr ports new hl hr q.node (x.from q (sym x.same ∙ f))) ∙ x.from q (sym x.same ∙ f))

  exits_new_start : (r : Port) (x : Exits g left right target pt tr ports new hl hr r) → (start h).wires r ≡ []
  exits_new_start r x =
      out_start h right (new_stands g left right target pt tr ports new hl hr) hr (λ n. []) r x.by x.leaves.at x.leaves.shape x.same x.by_new x.fed x.exit x.leaves.first

  exits_new_loaded : (lists : Name → List Token) (r : Port) (x : Exits g left right target pt tr ports new hl hr r) → (loaded h lists).wires r ≡ []
  exits_new_loaded lists r x =
      out_loaded h right (new_stands g left right target pt tr ports new hl hr) hr lists r x.by x.leaves.at x.leaves.shape x.same x.by_new x.fed x.exit x.leaves.first

  exits_old_start : (r : Port) (x : Exits g left right target pt tr ports new hl hr r) → (start g).wires r ≡ []
  exits_old_start r x =
      out_start g left (left_stands g left target pt) hl (λ n. []) r x.was x.leaves.at x.leaves.shape x.was_fed x.was_inside x.leaves.feeds x.leaves.is_exit x.leaves.first

  exits_old_loaded : (lists : Name → List Token) (r : Port) (x : Exits g left right target pt tr ports new hl hr r) → (loaded g lists).wires r ≡ []
  exits_old_loaded lists r x =
      out_loaded g left (left_stands g left target pt) hl lists r x.was x.leaves.at x.leaves.shape x.was_fed x.was_inside x.leaves.feeds x.leaves.is_exit x.leaves.first

  pub right_start : (r : Port) (x : Exits g left right target pt tr ports new hl hr r) → (start right).wires x.leaves.at ≡ []
  right_start r x = exit_start right hr (λ n. []) x.by x.leaves.at x.leaves.shape x.fed x.by_new x.exit x.leaves.first

  pub right_loaded : (lists : Name → List Token) (r : Port) (x : Exits g left right target pt tr ports new hl hr r) → (loaded right lists).wires x.leaves.at ≡ []
  right_loaded lists r x = exit_loaded right hr lists x.by x.leaves.at x.leaves.shape x.fed x.by_new x.exit x.leaves.first

  begin_wire : (r : Port) → (carried keeps ow (start h) (start g)).wires r ≡ (start h).wires r
  begin_wire r =
      elim (at r) [
        | entering x ↦ read_some keeps ow (start h) (start g) r x.was x.old ∙ sym (start_same r x.was x.same (enters_from r x))
        | within x ↦ read_none keeps ow (start h) (start g) r x.old
        | gone x ↦ read_none keeps ow (start h) (start g) r x.old
        | apart x ↦ read_some keeps ow (start h) (start g) r r x.old ∙ sym (start_same r r x.same x.from)
        | exiting x ↦ read_some keeps ow (start h) (start g) r r x.old ∙ exits_old_start r x ∙ sym (exits_new_start r x)
      ]

  no_slots : (n : Name) (b : Bool) → (if b then [] else []) ≡ (start h).slots n
  no_slots n true = refl
  no_slots n false = refl

  pub begins : carried keeps ow (start h) (start g) ≡ start h
  begins = λ i. record { wires = λ r. begin_wire r i; slots = λ n. no_slots n (keeps n) i }

  load_wire : (ins : Name → List Token) (r : Port) → (carried keeps ow (start h) (loaded g ins)).wires r ≡ (loaded h ins).wires r
  load_wire ins r =
      elim (at r) [
        | entering x ↦ read_some keeps ow (start h) (loaded g ins) r x.was x.old ∙ sym (loaded_same ins r x.was x.same (enters_from r x))
        | within x ↦
            read_none keeps ow (start h) (loaded g ins) r x.old ∙ sym (append-nil ((start h).wires r)) ∙ ap (λ z. (start h).wires r ++ z) (sym (within_fed ins r x))
        | gone x ↦
            read_none keeps ow (start h) (loaded g ins) r x.old ∙ sym (append-nil ((start h).wires r)) ∙ ap (λ z. (start h).wires r ++ put_on h ins z) (sym x.same)
        | apart x ↦ read_some keeps ow (start h) (loaded g ins) r r x.old ∙ sym (loaded_same ins r r x.same x.from)
        | exiting x ↦ read_some keeps ow (start h) (loaded g ins) r r x.old ∙ exits_old_loaded ins r x ∙ sym (exits_new_loaded ins r x)
      ]

  pub loads : (ins : Name → List Token) → carried keeps ow (start h) (loaded g ins) ≡ loaded h ins
  loads ins = λ i. record { wires = λ r. load_wire ins r i; slots = λ n. no_slots n (keeps n) i }

  -- the new part's wires from outside
  abbrev pub framed : Port → Bool
  framed r = by_entry right (right.feeder r)

  pub enters_framed : (r : Port) (x : Enters g left right target pt tr ports new hl hr r) → framed r ≡ true
  enters_framed r x = is_by_entry right r x.by x.shape x.fed x.new_entry

  within_framed_at : (r : Port) → (o : Option Port) → ((q : Port) → o ≡ Some q → inside right q.node ≡ true) → right.feeder r ≡ o → framed r ≡ false
  within_framed_at r None from f = ap (by_entry right) f
  within_framed_at r (Some q) from f = not_by_entry right r q f (from q refl)

  pub within_framed : (r : Port) (x : Within g left right target pt tr ports new hl hr r) → framed r ≡ false
  within_framed r x = within_framed_at r (right.feeder r) x.from refl

  pub exits_framed : (r : Port) (x : Exits g left right target pt tr ports new hl hr r) → framed x.leaves.at ≡ false
  exits_framed r x = not_by_entry right x.leaves.at x.by x.fed x.by_new

  pub unfed : (p q : Port) → framed p ≡ true → FiresIn right q.node → right.feeder p ≡ Some q → ⊥
  unfed p q e fires f =
      let (r, a, rf, k) = entry_source right p e in
      clash (is_inner (Some fires.kind)) fires.is_listed
      (ap is_inner (sym fires.is_kind ∙ ap (λ (z : Port). right.kind_at z.node) (same_Some q r (sym f ∙ rf)) ∙ k))

  pub right_fires : (n : Name) → FiresIn right n → inside right n ≡ true
  right_fires n f = ap is_inner f.is_kind ∙ f.is_listed

  module _ (values : ValuesFit) (ins outs : Name → List Token) (fit : InputsFit g ins) (d : DrainsTo g ins outs) (late : Name → Bool) (fl : FiresLast g left late) (keep : KeepsDrainsTo left right) where
    abbrev lists : Name → List Token
    lists = given g left target pt hl ins outs fit d late fl

    abbrev results : Name → List Token
    results = taken g left target pt hl ins outs fit d late fl

    dr : DrainsTo right lists results
    dr = keep lists results (given_fits g left target pt hl ins outs fit d late fl values) (left_drains g left target pt hl ins outs fit d late fl)

    -- what rests before the new part
    abbrev extra : Port → List Token
    extra r = on_wire (ow r) d.rest.wires []

    abbrev thr : CircuitState → CircuitState
    thr s = thick framed extra s

    enters_thick : (s : CircuitState) (r : Port) (x : Enters g left right target pt tr ports new hl hr r) → (thr s).wires r ≡ s.wires r ++ d.rest.wires x.was
    enters_thick s r x = thick_in framed extra s r (enters_framed r x) ∙ ap (λ o. s.wires r ++ on_wire o d.rest.wires []) x.old

    within_thick : (s : CircuitState) (r : Port) (x : Within g left right target pt tr ports new hl hr r) → (thr s).wires r ≡ s.wires r
    within_thick s r x = thick_out framed extra s r (within_framed r x)

    exits_thick : (s : CircuitState) (r : Port) (x : Exits g left right target pt tr ports new hl hr r) → (thr s).wires x.leaves.at ≡ s.wires x.leaves.at
    exits_thick s r x = thick_out framed extra s x.leaves.at (exits_framed r x)

    enters_start : (r : Port) (x : Enters g left right target pt tr ports new hl hr r) → (start right).wires r ≡ []
    enters_start r x = ap (λ o. initial (kind_of right o)) x.fed ∙ ap initial x.new_entry

    enters_loaded : (r : Port) (x : Enters g left right target pt tr ports new hl hr r) → (loaded right lists).wires r ≡ lists x.by.node
    enters_loaded r x = (λ i. enters_start r x i ++ put_on right lists (x.fed i)) ∙ ap (λ k. put_by lists k x.by.node) x.new_entry

    -- the new part at rest leaves its inputs and outputs empty
    rest_enters : (r : Port) (x : Enters g left right target pt tr ports new hl hr r) → dr.rest.wires r ≡ []
    rest_enters r x =
        kept_wire right (LedBy right) r
        (λ led. (hr.inputs r x.by x.shape led.kind x.fed x.new_entry led.is_kind).0 led.tree)
        (λ q f led.
        clash (is_inner (Some led.kind)) (tree_listed led.kind led.tree)
        (ap is_inner (sym led.is_kind ∙ ap (λ (z : Port). right.kind_at z.node) (same_Some q x.by (sym f ∙ x.fed)) ∙ x.new_entry)))
        (start right) dr.is_rest.firings dr.rest dr.is_rest.led dr.is_rest.leads
        ∙ enters_start r x

    rest_exits : (r : Port) (x : Exits g left right target pt tr ports new hl hr r) → dr.rest.wires x.leaves.at ≡ []
    rest_exits r x =
        kept_wire right (LedBy right) x.leaves.at
        (λ led.
        clash (is_inner (Some led.kind)) (tree_listed led.kind led.tree) (ap is_inner (sym led.is_kind ∙ x.exit)))
        (λ q f led.
        hr.outputs x.leaves.at.node x.leaves.shape x.exit
        (subst (InitBehind right) x.leaves.first (InitBehind.past q led.kind f led.is_kind led.tree led.comes)))
        (start right) dr.is_rest.firings dr.rest dr.is_rest.led dr.is_rest.leads
        ∙ right_start r x

    -- first what may lead to the part
    abbrev s1 : CircuitState
    s1 = before g left target pt hl ins outs fit d late fl

    abbrev s2 : CircuitState
    s2 = after g left target pt hl ins outs fit d late fl

    abbrev m : CircuitState
    m = mid g left target pt hl ins outs fit d late fl

    h1 : CircuitState
    h1 = carried keeps ow (start h) s1

    run_early : Firings h (loaded h ins) (first_order g left target pt hl ins outs fit d late fl).early h1
    unfolding h1
    run_early =
        let o = first_order g left target pt hl ins outs fit d late fl in
        subst (λ w. Firings h w o.early (carried keeps ow (start h) s1)) (loads ins)
        (carried_firings g h keeps ow (old_carries g left right target pt tr ports new hl hr) (start h) (loaded g ins) o.early s1
        (each_map _ (λ f. keeps f.node ≡ true) (λ f k. fires_outside f.node k.1 (early_outside g left target pt hl ins outs fit d late fl f.node k)) o.early o.are_early) o.first)

    -- then the new part
    into_wire : (r : Port) → h1.wires r ≡ (carried (inside right) nw h1 (thr (loaded right lists))).wires r
    unfolding h1
    into_wire r =
        elim (at r) [
          | entering x ↦
              read_some keeps ow (start h) s1 r x.was x.old ∙ before_entering g left target pt hl ins outs fit d late fl x.was x.by x.shape x.was_fed x.old_entry
              ∙ ap (λ z. z ++ d.rest.wires x.was) (sym (enters_loaded r x)) ∙ sym (enters_thick (loaded right lists) r x)
              ∙ sym (read_some (inside right) nw h1 (thr (loaded right lists)) r r (new_own g left right target pt tr ports new hl hr r x.is_new))
          | within x ↦
              read_none keeps ow (start h) s1 r x.old ∙ within_loaded lists r x ∙ sym (within_thick (loaded right lists) r x)
              ∙ sym (read_some (inside right) nw h1 (thr (loaded right lists)) r r (new_own g left right target pt tr ports new hl hr r x.is_new))
          | gone x ↦ sym (read_none (inside right) nw h1 (thr (loaded right lists)) r x.none)
          | apart x ↦ sym (read_none (inside right) nw h1 (thr (loaded right lists)) r x.none)
          | exiting x ↦
              read_some keeps ow (start h) s1 r r x.old ∙ before_exit g left target pt hl ins outs fit d late fl r x.was (apart_old r.node x.stay) x.was_fed x.was_inside
              ∙ sym (right_loaded lists r x) ∙ sym (exits_thick (loaded right lists) r x)
              ∙ sym (read_some (inside right) nw h1 (thr (loaded right lists)) r x.leaves.at x.is)
        ]

    new_slots : (s : CircuitState) (n : Name) (b : Bool) → inside right n ≡ b → (carried keeps ow (start h) s).slots n ≡ (if b then [] else (carried keeps ow (start h) s).slots n)
    new_slots s n true i = read_other keeps ow (start h) s n (stays_not_new g left right target pt tr ports new hl hr n i)
    new_slots s n false i = refl

    into : h1 ≡ carried (inside right) nw h1 (thr (loaded right lists))
    unfolding h1
    into = λ i. record { wires = λ r. into_wire r i; slots = λ n. new_slots s1 n (inside right n) refl i }

    h2 : CircuitState
    h2 = carried (inside right) nw h1 (thr dr.end)

    run_part : Firings h h1 dr.firings h2
    unfolding h2
    run_part =
        subst (λ w. Firings h w dr.firings (carried (inside right) nw h1 (thr dr.end))) (sym into)
        (carried_firings right h (inside right) nw (new_carries g left right target pt tr ports new hl hr) h1 (thr (loaded right lists)) dr.firings (thr dr.end)
        (each_map (λ f. FiresIn right f.node) (λ f. inside right f.node ≡ true) (λ f k. right_fires f.node k) dr.firings (all_fire right (loaded right lists) dr.firings dr.end dr.leads))
        (thick_firings right (FiresIn right) framed extra unfed (loaded right lists) dr.firings dr.end (all_fire right (loaded right lists) dr.firings dr.end dr.leads) dr.leads))

    end_enters : (r : Port) (x : Enters g left right target pt tr ports new hl hr r) → dr.end.wires r ≡ []
    end_enters r x =
        let (k, e, ik) = inner_some_at (right.kind_at r.node) x.is_new in dr.others r k e (inner_no_exit k ik) ∙ rest_enters r x

    -- and then the rest
    onto_wire : (r : Port) → h2.wires r ≡ (carried keeps ow h2 s2).wires r
    unfolding h2 h1
    onto_wire r =
        elim (at r) [
          | entering x ↦
              read_some (inside right) nw h1 (thr dr.end) r r (new_own g left right target pt tr ports new hl hr r x.is_new)
              ∙ enters_thick dr.end r x ∙ ap (λ z. z ++ d.rest.wires x.was) (end_enters r x)
              ∙ sym (after_rests g left target pt hl ins outs fit d late fl x.was x.was_inside) ∙ sym (read_some keeps ow h2 s2 r x.was x.old)
          | within x ↦ sym (read_none keeps ow h2 s2 r x.old)
          | gone x ↦ sym (read_none keeps ow h2 s2 r x.old)
          | apart x ↦
              read_none (inside right) nw h1 (thr dr.end) r x.none ∙ read_some keeps ow (start h) s1 r r x.old
              ∙ sym (after_wire g left target pt hl ins outs fit d late fl r (apart_old r.node x.stay) (λ q f. apart_old q.node (x.from q f)))
              ∙ sym (read_some keeps ow h2 s2 r r x.old)
          | exiting x ↦
              read_some (inside right) nw h1 (thr dr.end) r x.leaves.at x.is ∙ exits_thick dr.end r x
              ∙ ap dr.end.wires x.leaves.first ∙ dr.exits x.leaves.at.node x.leaves.shape x.exit
              ∙ taken_is g left target pt hl ins outs fit d late fl x.leaves.at r x.was x.leaves.shape x.leaves.is_exit x.leaves.first x.leaves.feeds x.was_inside x.was_fed
              ∙ sym (read_some keeps ow h2 s2 r r x.old)
        ]

    onto_slots : (n : Name) (b : Bool) → keeps n ≡ b → h2.slots n ≡ (if b then s2.slots n else h2.slots n)
    unfolding h2 h1
    onto_slots n true s =
        read_other (inside right) nw h1 (thr dr.end) n (apart_new n s) ∙ read_slot keeps ow (start h) s1 n s
        ∙ sym (after_slots g left target pt hl ins outs fit d late fl n (apart_old n s))
    onto_slots n false s = refl

    onto : h2 ≡ carried keeps ow h2 s2
    onto = λ i. record { wires = λ r. onto_wire r i; slots = λ n. onto_slots n (keeps n) refl i }

    h3 : CircuitState
    h3 = carried keeps ow h2 d.end

    run_late : Firings h h2 (second_order g left target pt hl ins outs fit d late fl).later h3
    unfolding h3
    run_late =
        let o = second_order g left target pt hl ins outs fit d late fl in
        subst (λ w. Firings h w o.later (carried keeps ow h2 d.end)) (sym onto)
        (carried_firings g h keeps ow (old_carries g left right target pt tr ports new hl hr) h2 s2 o.later d.end
        (each_map _ (λ f. keeps f.node ≡ true) (λ f k. fires_outside f.node k.1.1 (late_outside g left target pt hl ins outs fit d late fl f.node k)) o.later o.are_late) o.then_late)

    -- the new circuit at rest
    mh : CircuitState
    mh = carried keeps ow (start h) m

    led_keeps : (n : Name) → (inside left n ≡ false) × LedBy g n → keeps n ≡ true
    led_keeps n k = fires_outside n (record { kind = k.1.kind; is_kind = k.1.is_kind; is_listed = tree_listed k.1.kind k.1.tree }) k.0

    rest_early : Firings h (start h) (rest_order g left target pt hl ins outs fit d late fl).early mh
    unfolding mh
    rest_early =
        let o = rest_order g left target pt hl ins outs fit d late fl in
        subst (λ w. Firings h w o.early (carried keeps ow (start h) m)) begins
        (carried_firings g h keeps ow (old_carries g left right target pt tr ports new hl hr) (start h) (start g) o.early m
        (each_map _ (λ f. keeps f.node ≡ true) (λ f k. led_keeps f.node k) o.early o.are_early) o.first)

    rest_into_wire : (r : Port) → mh.wires r ≡ (carried (inside right) nw mh (thr (start right))).wires r
    unfolding mh
    rest_into_wire r =
        elim (at r) [
          | entering x ↦
              read_some keeps ow (start h) m r x.was x.old ∙ sym (rest_entering g left target pt hl ins outs fit d late fl x.was x.by x.shape x.was_fed x.old_entry)
              ∙ ap (λ z. z ++ d.rest.wires x.was) (sym (enters_start r x)) ∙ sym (enters_thick (start right) r x)
              ∙ sym (read_some (inside right) nw mh (thr (start right)) r r (new_own g left right target pt tr ports new hl hr r x.is_new))
          | within x ↦
              read_none keeps ow (start h) m r x.old ∙ within_start r x ∙ sym (within_thick (start right) r x)
              ∙ sym (read_some (inside right) nw mh (thr (start right)) r r (new_own g left right target pt tr ports new hl hr r x.is_new))
          | gone x ↦ sym (read_none (inside right) nw mh (thr (start right)) r x.none)
          | apart x ↦ sym (read_none (inside right) nw mh (thr (start right)) r x.none)
          | exiting x ↦
              read_some keeps ow (start h) m r r x.old ∙ mid_exit g left target pt hl ins outs fit d late fl r x.was (apart_old r.node x.stay) x.was_fed x.was_inside
              ∙ exits_old_start r x ∙ sym (right_start r x) ∙ sym (exits_thick (start right) r x)
              ∙ sym (read_some (inside right) nw mh (thr (start right)) r x.leaves.at x.is)
        ]

    rest_into : mh ≡ carried (inside right) nw mh (thr (start right))
    unfolding mh
    rest_into = λ i. record { wires = λ r. rest_into_wire r i; slots = λ n. new_slots m n (inside right n) refl i }

    hr_rest : CircuitState
    hr_rest = carried (inside right) nw mh (thr dr.rest)

    rest_later : Firings h mh dr.is_rest.firings hr_rest
    unfolding hr_rest
    rest_later =
        subst (λ w. Firings h w dr.is_rest.firings (carried (inside right) nw mh (thr dr.rest))) (sym rest_into)
        (carried_firings right h (inside right) nw (new_carries g left right target pt tr ports new hl hr) mh (thr (start right)) dr.is_rest.firings (thr dr.rest)
        (each_map (λ f. FiresIn right f.node) (λ f. inside right f.node ≡ true) (λ f k. right_fires f.node k) dr.is_rest.firings (all_fire right (start right) dr.is_rest.firings dr.rest dr.is_rest.leads))
        (thick_firings right (FiresIn right) framed extra unfed (start right) dr.is_rest.firings dr.rest (all_fire right (start right) dr.is_rest.firings dr.rest dr.is_rest.leads) dr.is_rest.leads))

    -- a wire outside at rest
    apart_rest : (r : Port) → (x : Apart g left right target pt tr ports new hl hr r) → hr_rest.wires r ≡ d.rest.wires r
    unfolding hr_rest mh
    apart_rest r x =
        read_none (inside right) nw mh (thr dr.rest) r x.none ∙ read_some keeps ow (start h) m r r x.old
        ∙ sym (rest_outside g left target pt hl ins outs fit d late fl r (apart_old r.node x.stay))

    within_rest : (r : Port) → (x : Within g left right target pt tr ports new hl hr r) → hr_rest.wires r ≡ dr.rest.wires r
    unfolding hr_rest
    within_rest r x =
        read_some (inside right) nw mh (thr dr.rest) r r (new_own g left right target pt tr ports new hl hr r x.is_new) ∙ within_thick dr.rest r x

    new_dry : (n : Name) → LedBy right n → (r : Port) → r ≡ record { node = n; port = 1 } → Place g left right target pt tr ports new hl hr r → hr_rest.wires r ≡ []
    new_dry n led r is (entering x) =
        absurd ((hr.inputs r x.by x.shape led.kind x.fed x.new_entry (ap (λ (z : Port). right.kind_at z.node) is ∙ led.is_kind)).0 led.tree)
    new_dry n led r is (within x) = within_rest r x ∙ ap dr.rest.wires is ∙ led_dry right dr.rest dr.is_rest n led
    new_dry n led r is (gone x) =
        clash (inside right r.node) (ap (λ (z : Port). is_inner (right.kind_at z.node)) is ∙ ap is_inner led.is_kind ∙ tree_listed led.kind led.tree) x.not_new
    new_dry n led r is (apart x) =
        clash (inside right r.node) (ap (λ (z : Port). is_inner (right.kind_at z.node)) is ∙ ap is_inner led.is_kind ∙ tree_listed led.kind led.tree) (apart_new r.node x.stay)
    new_dry n led r is (exiting x) =
        clash (inside right r.node) (ap (λ (z : Port). is_inner (right.kind_at z.node)) is ∙ ap is_inner led.is_kind ∙ tree_listed led.kind led.tree) (apart_new r.node x.stay)

    old_dry : (n : Name) → keeps n ≡ true → LedBy g n → (r : Port) → r ≡ record { node = n; port = 1 } → Place g left right target pt tr ports new hl hr r → hr_rest.wires r ≡ []
    old_dry n s led r is (entering x) = clash (inside right r.node) x.is_new (ap (λ (z : Port). inside right z.node) is ∙ apart_new n s)
    old_dry n s led r is (within x) = clash (inside right r.node) x.is_new (ap (λ (z : Port). inside right z.node) is ∙ apart_new n s)
    old_dry n s led r is (gone x) = clash (inside left r.node) x.was_inside (ap (λ (z : Port). inside left z.node) is ∙ apart_old n s)
    old_dry n s led r is (apart x) = apart_rest r x ∙ ap d.rest.wires is ∙ led_dry g d.rest d.is_rest n led
    old_dry n s led r is (exiting x) =
        absurd (exit_not_led g left target pt hl ins outs fit d late fl r x.was (apart_old r.node x.stay) x.was_fed x.was_inside (subst (λ (z : Port). LedBy g z.node) (sym is) led))

    led_empty : (n : Name) → LedBy h n → (a b : Bool) → inside right n ≡ a → inside left n ≡ b → hr_rest.wires (record { node = n; port = 1 }) ≡ []
    led_empty n led true b ea eb =
        new_dry n (led_inside h right (new_stands g left right target pt tr ports new hl hr) hr n ea led) (record { node = n; port = 1 }) refl (at (record { node = n; port = 1 }))
    led_empty n led false true ea eb =
        absurd (none_some (h.kind_at n) led.kind (kind_gone g left right target pt tr ports new hl hr n ea eb) led.is_kind)
    led_empty n led false false ea eb =
        let s : keeps n ≡ true = stays_is g left right target pt tr ports new hl hr n ea eb in
        old_dry n s (led_old g left right target pt tr ports new hl hr n s led) (record { node = n; port = 1 }) refl (at (record { node = n; port = 1 }))

    rests : RestsAt h hr_rest
    rests =
        let o = rest_order g left target pt hl ins outs fit d late fl in
        record {
          firings = o.early ++ dr.is_rest.firings;
          led = each_append (λ f. LedBy h f.node) o.early dr.is_rest.firings
              (each_map _ (λ f. LedBy h f.node) (λ f k. led_new g left right target pt tr ports new hl hr f.node (led_keeps f.node k) k.1) o.early o.are_early)
              (each_map (λ f. LedBy right f.node) (λ f. LedBy h f.node) (λ f k. led_outside h right (new_stands g left right target pt tr ports new hl hr) hr f.node k) dr.is_rest.firings dr.is_rest.led);
          leads = firings_then h (start h) o.early mh dr.is_rest.firings hr_rest rest_early rest_later;
          ends = λ n k t led s. waits h hr_rest n led.kind led.is_kind led.tree (led_empty n led (inside right n) (inside left n) refl refl) k t s;
        }

    -- the end
    kept_end : (r : Port) → ow r ≡ Some r → h3.wires r ≡ d.end.wires r
    unfolding h3
    kept_end r e = read_some keeps ow h2 d.end r r e

    kept_kind : (n : Name) (k : Kind) → keeps n ≡ true → h.kind_at n ≡ Some k → g.kind_at n ≡ Some k
    kept_kind n k s e = sym (kind_kept g left right target pt tr ports new hl hr n s) ∙ e

    new_kind : (n : Name) (k : Kind) → inside right n ≡ true → h.kind_at n ≡ Some k → right.kind_at n ≡ Some k
    new_kind n k i e = sym (kind_new g left right target pt tr ports new hl hr n i) ∙ e

    end_slots : (n : Name) (k : Kind) → h.kind_at n ≡ Some k → (a b : Bool) → inside right n ≡ a → inside left n ≡ b → h3.slots n ≡ []
    unfolding h3 h2
    end_slots n k e true b ea eb =
        read_other keeps ow h2 d.end n (stays_not_new g left right target pt tr ports new hl hr n ea) ∙ read_slot (inside right) nw h1 (thr dr.end) n ea
        ∙ dr.slots n k (new_kind n k ea e)
    end_slots n k e false true ea eb = absurd (none_some (h.kind_at n) k (kind_gone g left right target pt tr ports new hl hr n ea eb) e)
    end_slots n k e false false ea eb =
        let s : keeps n ≡ true = stays_is g left right target pt tr ports new hl hr n ea eb in
        read_slot keeps ow h2 d.end n s ∙ d.slots n k (kept_kind n k s e)

    exit_kept : (n : Name) (a : Shape) → h.kind_at n ≡ Some (Exit a) → (b c : Bool) → inside right n ≡ b → inside left n ≡ c → keeps n ≡ true
    exit_kept n a e true c eb ec = clash (inside right n) eb (ap is_inner (new_kind n (Exit a) eb e))
    exit_kept n a e false true eb ec = absurd (none_some (h.kind_at n) (Exit a) (kind_gone g left right target pt tr ports new hl hr n eb ec) e)
    exit_kept n a e false false eb ec = stays_is g left right target pt tr ports new hl hr n eb ec

    end_exits : (n : Name) (a : Shape) → h.kind_at n ≡ Some (Exit a) → h3.wires (record { node = n; port = 1 }) ≡ outs n
    end_exits n a e =
        let s : keeps n ≡ true = exit_kept n a e (inside right n) (inside left n) refl refl in
        kept_end (record { node = n; port = 1 }) ((old_carries g left right target pt tr ports new hl hr).own (record { node = n; port = 1 }) s)
        ∙ d.exits n a (kept_kind n (Exit a) s e)

    end_others : (r : Port) (k : Kind) → h.kind_at r.node ≡ Some k → IsNoExit k → h3.wires r ≡ hr_rest.wires r
    unfolding h3 h2 hr_rest mh
    end_others r k e no_exit =
        elim (at r) [
          | entering x ↦
              let (j, ej, ij) = inner_some_at (left.kind_at x.was.node) x.was_inside in
              read_some keeps ow h2 d.end r x.was x.old ∙ d.others x.was j (pt.nodes x.was.node j ej ij) (inner_no_exit j ij)
              ∙ ap (λ z. z ++ d.rest.wires x.was) (sym (rest_enters r x)) ∙ sym (enters_thick dr.rest r x)
              ∙ sym (read_some (inside right) nw mh (thr dr.rest) r r (new_own g left right target pt tr ports new hl hr r x.is_new))
          | within x ↦
              read_none keeps ow h2 d.end r x.old
              ∙ read_some (inside right) nw h1 (thr dr.end) r r (new_own g left right target pt tr ports new hl hr r x.is_new) ∙ within_thick dr.end r x
              ∙ dr.others r k (new_kind r.node k x.is_new e) no_exit ∙ sym (within_rest r x)
          | gone x ↦ absurd (none_some (h.kind_at r.node) k (kind_gone g left right target pt tr ports new hl hr r.node x.not_new x.was_inside) e)
          | apart x ↦ kept_end r x.old ∙ d.others r k (kept_kind r.node k x.stay e) no_exit ∙ sym (apart_rest r x)
          | exiting x ↦
              kept_end r x.old ∙ d.others r k (kept_kind r.node k x.stay e) no_exit
              ∙ rest_outside g left target pt hl ins outs fit d late fl r (apart_old r.node x.stay)
              ∙ mid_exit g left target pt hl ins outs fit d late fl r x.was (apart_old r.node x.stay) x.was_fed x.was_inside ∙ exits_old_start r x
              ∙ sym (rest_exits r x) ∙ sym (exits_thick dr.rest r x) ∙ sym (read_some (inside right) nw mh (thr dr.rest) r x.leaves.at x.is)
        ]

    pub changed_drains : DrainsTo h ins outs
    changed_drains =
        let o1 = first_order g left target pt hl ins outs fit d late fl in
        let o2 = second_order g left target pt hl ins outs fit d late fl in
        record {
          rest = hr_rest;
          is_rest = rests;
          firings = o1.early ++ (dr.firings ++ o2.later);
          end = h3;
          leads = firings_then h (loaded h ins) o1.early h1 (dr.firings ++ o2.later) h3 run_early (firings_then h h1 dr.firings h2 o2.later h3 run_part run_late);
          slots = λ n k e. end_slots n k e (inside right n) (inside left n) refl refl;
          exits = end_exits;
          others = end_others;
        }
