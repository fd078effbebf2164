-- One node replaced by a part that drains what it drains, on cycles too.
use Rattle.std.proofs.Common.{◌≡◌, ℕ, inl, inr, refl, sym, ap, ◌∙◌, true, false, Bool, List, [], ◌∷◌, ◌++◌, Option, Some, None}
use Rattle.components.specs.Name.{Name, Port}
use Rattle.components.specs.declared.kind.Kind.{Kind}
use Rattle.components.specs.declared.kind.Kind.TheVariants.{Entry, Exit, Buffer, Fork, Join, Split, Sink0, Source0, Constant, CtrlMerge, Mux, Branch, Merge, Init, Tagger, Pure, Operator}
use Rattle.circuits.specs.PortTokens.{Token, share, share_from}
use Rattle.std.specs.List.{AllByRecursion}
use Rattle.circuits.specs.Firing.{Fires, Label.Fire}
use Rattle.circuits.specs.Values.{ValuesFit}
use Rattle.circuits.specs.CircuitState.{Slot, CircuitState, IsStateOf, initial}
use Rattle.circuits.specs.Circuit.{Circuit, Typed, kind_of}
use Rattle.circuits.specs.Refines.{SamePorts}
use Rattle.circuits.specs.Run.{Step, Firing, Firings}
use Rattle.circuits.specs.Drains.{put_on, loaded}
use Rattle.circuits.specs.Replacing.{is_inner, is_entry, IsPart, IsNew, replaced}
use Rattle.circuits.proofs.Names.{name_cases}
use Rattle.circuits.proofs.Steps.{acts_at}
use Rattle.circuits.proofs.Beside.{none_some}
use Rattle.circuits.proofs.Fitting.{step_fits}
use Rattle.circuits.proofs.Simulation.{firings_then}
use Rattle.part_drains.specs.Part.{inside, HasNoInit}
use Rattle.part_drains.specs.SingleNodes.{KeepsSlots, IsOneNode}
use Rattle.part_drains.proofs.Draining.{HoldsRestBy, KeepsDrainsTo}
use Rattle.part_drains.proofs.Sorts.{bool_cases, no_right}
use Rattle.part_drains.proofs.Untouched.{FiresIn, all_fire}
use Rattle.part_drains.proofs.PartInside.{listed, enters, source_of}
use Rattle.part_drains.proofs.PartPlace.{clash, left_enters}
use Rattle.part_drains.proofs.PartStates.{by_entry, loaded_fits}
use Rattle.part_drains.proofs.PartDrains.{h, fires_outside}
use Rattle.part_drains.proofs.BlockRuns.{AtRest, em, block_firings, block_runs, outside_runs, em_drains}

pub slots_kept : (k : Kind) → KeepsSlots k → (c : ℕ) (old : List Slot) (taken given : List (List Token)) (new : List Slot) → Fires k c old taken given new → new ≡ old
slots_kept (Entry a) h c o t g e f = absurd f
slots_kept (Exit a) h c o t g e f = absurd f
slots_kept (Buffer a) h c o t g e (v, z, et, eg, en) = en
slots_kept (Fork a k) h c o t g e (v, z, et, eg, en) = en
slots_kept (Join bs) h c o t g e (vs, z, el, et, eg, en) = en
slots_kept (Split bs) h c o t g e (vs, z, el, et, eg, en) = en
slots_kept (Sink0 a) h c o t g e (v, z, et, eg, en) = en
slots_kept (Source0 a) h c o t g e (z, et, eg, en) = en
slots_kept (Constant a w v) h c o t g e (x, z, et, eg, en) = en
slots_kept (CtrlMerge a k w) h c o t g e (v, lt, et, eg, en) = en
slots_kept (Mux a) h c o t g e (v, z, way, eg, en) = en
slots_kept (Branch a) h c o t g e (v, z, way, en) = en
slots_kept (Merge a k) h c o t g e (v, lt, et, eg, en) = en
slots_kept (Init x m) h c o t g e (v, z, et, eg, en) = en
slots_kept (Tagger a n) h c o t g e f = absurd h
slots_kept (Pure f b) h c o t g e (v, z, et, eg, en) = en
slots_kept (Operator op ws w) h c o t g e (xs, z, el, et, eg, en) = en

-- a wire that nothing feeds stays empty
pub unfed_stays : (c : Circuit) (s : CircuitState) (n : Name) (k : ℕ) (t : CircuitState) → Step c s n (Fire k) t → (p : Port) → c.feeder p ≡ None → s.wires p ≡ [] → t.wires p ≡ []
unfed_stays c s n k t st p f e =
    st.gives p ∙ (λ i. no_right (share n st.taken p) (st.between p) (sym (st.takes p) ∙ e) i ++ share_from n st.given (f i))

-- a node whose kind keeps its slots
pub slots_stay : (c : Circuit) (m : Name) (kind : Kind) → c.kind_at m ≡ Some kind → KeepsSlots kind → (s : CircuitState) (n : Name) (k : ℕ) (t : CircuitState) → Step c s n (Fire k) t → t.slots m ≡ s.slots m
slots_stay c m kind e keep s n k t st =
    elim (name_cases m n) [
      | inl is ↦
          ap t.slots is.is
          ∙ slots_kept kind keep k (s.slots n) st.taken st.given (t.slots n) (acts_at c s n (Fire k) t st kind (ap c.kind_at (sym is.is) ∙ e)) ∙ ap s.slots (sym is.is)
      | inr ne ↦ st.others m ne.is_not
    ]

module _ (g left : Circuit) (target : Port → Option Port) (pt : IsPart g left target) where
  -- an input of the part that comes neither from outside nor from the part
  pub unfed_in : (p : Port) → inside left p.node ≡ true → left.feeder p ≡ None → (b : Option Port) → g.feeder p ≡ b → g.feeder p ≡ None
  unfed_in p i f None e = e
  unfed_in p i f (Some q) e =
      elim (bool_cases (inside left q.node)) [
        | inl iq ↦ absurd (none_some (left.feeder p) q f ((pt.wires p q i iq).0 e))
        | inr oq ↦ let (r, a, lf, k) = left_enters g left target pt p q i oq e in absurd (none_some (left.feeder p) r f lf)
      ]

module _ (values : ValuesFit) (g left right : Circuit) (target : Port → Option Port) (pt : IsPart g left target) (tr : Typed right) (ports : SamePorts right left) (new : IsNew g left right) (hl : HoldsRestBy left) (hr : HoldsRestBy right) (nl : HasNoInit left) (nr : HasNoInit right) (keep : KeepsDrainsTo left right) (node : Name) (one : IsOneNode left node) where
  abbrev H : Circuit
  H = h g left right target pt tr ports new hl hr

  abbrev E : CircuitState → CircuitState
  E = em g left right target pt tr ports new hl hr nl nr keep

  unfed_at : (p : Port) → inside left p.node ≡ true → by_entry left (left.feeder p) ≡ false → (o : Option Port) → left.feeder p ≡ o → g.feeder p ≡ None
  unfed_at p i e None f = unfed_in g left target pt p i f (g.feeder p) refl
  unfed_at p i e (Some q) f =
      elim (source_of left pt.part p q f) [
        | listed iq ↦ absurd (one.no_self p q f i iq)
        | enters a k port ↦ clash (by_entry left (left.feeder p)) (ap (by_entry left) f ∙ ap is_entry k) e
      ]

  stays_rest : (s : CircuitState) (n : Name) (k : ℕ) (t : CircuitState) → Step g s n (Fire k) t → AtRest left s → AtRest left t
  stays_rest s n k t st r =
      record {
        wires = λ p i e. unfed_stays g s n k t st p (unfed_at p i e (left.feeder p) refl) (r.wires p i e);
        slots = λ m i.
            let kind : g.kind_at m ≡ Some one.kind = ap g.kind_at (one.only m i) ∙ pt.nodes node one.kind one.is_kind (sym (ap is_inner one.is_kind) ∙ sym (ap (inside left) (one.only m i)) ∙ i) in
            slots_stay g m one.kind kind one.keeps s n k t st ∙ r.slots m i;
      }

  one_run : (s : CircuitState) (f : Firing) (t : CircuitState) → Step g s f.node (Fire f.choice) t → FiresIn g f.node → AtRest left s → IsStateOf g s → (b : Bool) → inside left f.node ≡ b → (fs : List Firing) × Firings H (E s) fs (E t)
  one_run s f t st fires r fit true i = (
    block_firings g left right target pt tr ports new hl hr nl nr keep s t (f ∷ []) ((i, tt)) ((t, st, refl)) r (stays_rest s f.node f.choice t st r) fit,
    block_runs g left right target pt tr ports new hl hr nl nr keep s t (f ∷ []) ((i, tt)) ((t, st, refl)) r (stays_rest s f.node f.choice t st r) fit,
  )
  one_run s f t st fires r fit false o =
      (f ∷ [], outside_runs g left right target pt tr ports new hl hr nl nr keep s t (f ∷ []) ((fires_outside g left right target pt tr ports new hl hr f.node fires o, tt)) ((t, st, refl)))

  all_runs : (s : CircuitState) (fs : List Firing) (t : CircuitState) → Firings g s fs t → AllByRecursion (λ f. FiresIn g f.node) fs → AtRest left s → IsStateOf g s → (gs : List Firing) × Firings H (E s) gs (E t)
  all_runs s [] t r h rest fit = ([], ap E r)
  all_runs s (f ∷ fs) t r h rest fit =
      let (head, first) = one_run s f r.0 r.1 h.0 rest fit (inside left f.node) refl in
      let (bs, more) = all_runs r.0 fs t r.2 h.1 (stays_rest s f.node f.choice r.0 r.1 rest) (step_fits values g pt.whole s f.node (Fire f.choice) r.0 r.1 fit) in
      (head ++ bs, firings_then H (E s) head (E r.0) bs (E t) first more)

  pub one_node_keeps : KeepsDrainsTo g (replaced g left right target)
  one_node_keeps ins outs fit d =
      let load_rest : AtRest left (loaded g ins) =
      record {
        wires = λ p i e. ap (λ o. initial (kind_of g o) ++ put_on g ins o) (unfed_at p i e (left.feeder p) refl);
        slots = λ m i. refl;
      } in
      let (fs, run) = all_runs (loaded g ins) d.firings d.end d.leads (all_fire g (loaded g ins) d.firings d.end d.leads) load_rest (loaded_fits g pt.whole ins fit) in
      em_drains g left right target pt tr ports new hl hr nl nr keep ins outs d fs run
