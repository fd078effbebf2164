-- States of a part and of the circuit that it stands in.
use Rattle.std.proofs.Common.{◌≡◌, ℕ, zero, suc, refl, sym, ap, subst, ◌∙◌, true, false, Bool, if◌then◌else◌, List, [], ◌∷◌, ◌++◌, length, Option, Some, None, true≢false, arith, length-append}
use Rattle.port_types.specs.Token.{Fits}
use Rattle.components.specs.Kind.{Shape, ins, outs}
use Rattle.components.specs.Name.{Name, Port, port_get}
use Rattle.components.specs.declared.kind.Kind.{Kind}
use Rattle.components.specs.declared.kind.Kind.TheVariants.{Entry, Exit, Init}
use Rattle.circuits.specs.PortTokens.{Token}
use Rattle.std.specs.List.{AllByRecursion}
use Rattle.circuits.specs.CircuitState.{CircuitState, IsStateOf, start, initial}
use Rattle.circuits.specs.Circuit.{Circuit, Typed, kind_of}
use Rattle.circuits.specs.Drains.{put_by, put_on, loaded}
use Rattle.circuits.specs.Replacing.{is_inner, is_entry}
use Rattle.circuits.proofs.Lists.{each_append}
use Rattle.circuits.proofs.Fitting.{start_fits}
use Rattle.std.proofs.lemmas.Option.{same_Some}
use Rattle.part_drains.proofs.Carries.{on_wire, carried, thick}
use Rattle.part_drains.specs.Part.{inside}
use Rattle.part_drains.proofs.Draining.{InitBehind, InitBehind.init, HoldsRestBy, InputsFit}
use Rattle.part_drains.proofs.Sorts.{inner_some_at}
use Rattle.part_drains.proofs.PartInside.{listed_no_entry, Stands, walk_exit}

-- what a carried state and a thick one hold
module _ (here : Name → Bool) (wire : Port → Option Port) (old s : CircuitState) where
  pub read_some : (r p : Port) → wire r ≡ Some p → (carried here wire old s).wires r ≡ s.wires p
  read_some r p e = ap (λ o. on_wire o s.wires (old.wires r)) e

  pub read_none : (r : Port) → wire r ≡ None → (carried here wire old s).wires r ≡ old.wires r
  read_none r e = ap (λ o. on_wire o s.wires (old.wires r)) e

  pub read_slot : (n : Name) → here n ≡ true → (carried here wire old s).slots n ≡ s.slots n
  read_slot n e = ap (λ b. if b then s.slots n else old.slots n) e

  pub read_other : (n : Name) → here n ≡ false → (carried here wire old s).slots n ≡ old.slots n
  read_other n e = ap (λ b. if b then s.slots n else old.slots n) e

module _ (framed : Port → Bool) (extra : Port → List Token) where
  pub thick_in : (s : CircuitState) (p : Port) → framed p ≡ true → (thick framed extra s).wires p ≡ s.wires p ++ extra p
  thick_in s p e = ap (λ b. if b then s.wires p ++ extra p else s.wires p) e

  pub thick_out : (s : CircuitState) (p : Port) → framed p ≡ false → (thick framed extra s).wires p ≡ s.wires p
  thick_out s p e = ap (λ b. if b then s.wires p ++ extra p else s.wires p) e

  -- a state without what its framed wires hold
  abbrev pub cut : CircuitState → CircuitState
  cut s = record { wires = λ p. if framed p then [] else s.wires p; slots = s.slots }

  cut_at : (s : CircuitState) (p : Port) (b : Bool) → framed p ≡ b → (framed p ≡ true → s.wires p ≡ extra p) → s.wires p ≡ (if b then (if b then [] else s.wires p) ++ extra p else (if b then [] else s.wires p))
  cut_at s p true e h = h e
  cut_at s p false e h = refl

  pub thick_cut : (s : CircuitState) → ((p : Port) → framed p ≡ true → s.wires p ≡ extra p) → s ≡ thick framed extra (cut s)
  thick_cut s h = λ i. record { wires = λ p. cut_at s p (framed p) refl (h p) i; slots = s.slots }

abbrev pub by_entry : Circuit → Option Port → Bool
by_entry c None = false
by_entry c (Some q) = is_entry (c.kind_at q.node)

entry_kind : (o : Option Kind) → is_entry o ≡ true → (a : Shape) × (o ≡ Some (Entry a))
entry_kind None e = absurd (true≢false (sym e))
entry_kind (Some (Entry a)) e = (a, refl)
entry_kind (Some _) e = absurd (true≢false (sym e))

entry_source_at : (c : Circuit) (o : Option Port) → by_entry c o ≡ true → (r : Port) × (a : Shape) × (o ≡ Some r) × (c.kind_at r.node ≡ Some (Entry a))
entry_source_at c None e = absurd (true≢false (sym e))
entry_source_at c (Some r) e = let (a, k) = entry_kind (c.kind_at r.node) e in (r, a, refl, k)

pub entry_source : (c : Circuit) (p : Port) → by_entry c (c.feeder p) ≡ true → (r : Port) × (a : Shape) × (c.feeder p ≡ Some r) × (c.kind_at r.node ≡ Some (Entry a))
entry_source c p e = entry_source_at c (c.feeder p) e

pub is_by_entry : (c : Circuit) (p r : Port) (a : Shape) → c.feeder p ≡ Some r → c.kind_at r.node ≡ Some (Entry a) → by_entry c (c.feeder p) ≡ true
is_by_entry c p r a f e = ap (by_entry c) f ∙ ap is_entry e

pub not_by_entry : (c : Circuit) (p r : Port) → c.feeder p ≡ Some r → inside c r.node ≡ true → by_entry c (c.feeder p) ≡ false
not_by_entry c p r f i = ap (by_entry c) f ∙ listed_no_entry (c.kind_at r.node) i

pub no_more : (xs ys : List Token) → xs ++ ys ≡ ys → xs ≡ []
no_more [] ys e = refl
no_more (x ∷ xs) ys e = let l : suc (length (xs ++ ys)) ≡ length ys = ap length e in absurd (omega (arith, l, length-append xs ys))

pub initial_none : (k : Option Kind) → ((v m : ℕ) → k ≡ Some (Init v m) → ⊥) → initial k ≡ []
initial_none None h = refl
initial_none (Some (Init v m)) h = absurd (h v m refl)
initial_none (Some _) h = refl

pub fed_listed : (ins : Name → List Token) (o : Option Kind) (n : Name) → is_inner o ≡ true → put_by ins o n ≡ []
fed_listed ins None n i = refl
fed_listed ins (Some (Entry a)) n i = absurd (true≢false (sym i))
fed_listed ins (Some _) n i = refl

-- no wire out of a part holds anything before the part fires
module _ (c d : Circuit) (st : Stands c d) (hold : HoldsRestBy d) (ins : Name → List Token) (p q x : Port) (a : Shape) (f : c.feeder p ≡ Some q) (iq : inside d q.node ≡ true) (xf : d.feeder x ≡ Some q) (xe : d.kind_at x.node ≡ Some (Exit a)) (port : x ≡ record { node = x.node; port = 1 }) where
  pub out_start : (start c).wires p ≡ []
  out_start =
      initial_none (kind_of c (c.feeder p)) (λ v m e. walk_exit c d st hold p q x a f iq xf xe port (init q v m f (ap (kind_of c) (sym f) ∙ e)))

  pub out_loaded : (loaded c ins).wires p ≡ []
  out_loaded =
      let (k, e, ik) = inner_some_at (d.kind_at q.node) iq in
      (λ i. out_start i ++ put_on c ins (f i)) ∙ fed_listed ins (c.kind_at q.node) q.node (ap is_inner (st.nodes q.node k e ik) ∙ ik)

module _ (d : Circuit) (hold : HoldsRestBy d) (ins : Name → List Token) (q x : Port) (a : Shape) (xf : d.feeder x ≡ Some q) (iq : inside d q.node ≡ true) (xe : d.kind_at x.node ≡ Some (Exit a)) (port : x ≡ record { node = x.node; port = 1 }) where
  pub exit_start : (start d).wires x ≡ []
  exit_start =
      initial_none (kind_of d (d.feeder x)) (λ v m e. hold.outputs x.node a xe (subst (InitBehind d) port (init q v m xf (ap (kind_of d) (sym xf) ∙ e))))

  pub exit_loaded : (loaded d ins).wires x ≡ []
  exit_loaded = (λ i. exit_start i ++ put_on d ins (xf i)) ∙ fed_listed ins (d.kind_at q.node) q.node iq

-- the inputs, at the start
fed_fits : (c : Circuit) (ins : Name → List Token) → InputsFit c ins → (q : Port) (b : Shape) (k : Kind) → c.kind_at q.node ≡ Some k → port_get (outs k) q.port ≡ Some b → AllByRecursion (Fits b) (put_by ins (Some k) q.node)
fed_fits c ins fit q b (Entry a) e o =
    subst (λ z. AllByRecursion (Fits z) (ins q.node)) (first (q.port) o) (fit q.node a e)
  where
    first : (i : ℕ) → port_get (a ∷ []) i ≡ Some b → a ≡ b
    first zero e = let z : None ≡ Some b = e in cc
    first (suc zero) e = same_Some a b e
    first (suc (suc i)) e = let z : None ≡ Some b = e in cc
fed_fits c ins fit q b _ e o = tt

pub loaded_fits : (c : Circuit) → Typed c → (given : Name → List Token) → InputsFit c given → IsStateOf c (loaded c given)
loaded_fits c ty given fit =
    record {
      wires = λ p k a ek ea. each_append (Fits a) ((start c).wires p) (put_on c given (c.feeder p)) ((start_fits c ty).wires p k a ek ea) (at p k a ek ea (c.feeder p) refl);
      slots = (start_fits c ty).slots;
      tags = (start_fits c ty).tags;
    }
  where
    at : (p : Port) (k : Kind) (a : Shape) → c.kind_at p.node ≡ Some k → port_get (ins k) p.port ≡ Some a → (o : Option Port) → c.feeder p ≡ o → AllByRecursion (Fits a) (put_on c given o)
    at p k a ek ea None f = tt
    at p k a ek ea (Some q) f =
        let w = ty.wires p q f in
        let same : w.shape ≡ a = same_Some w.shape a (sym w.enters ∙ ap (λ x. port_get (ins x) p.port) (same_Some w.to k (sym w.is_to ∙ ek)) ∙ ea) in
        subst (λ z. AllByRecursion (Fits z) (put_on c given (Some q))) same
        (subst (λ z. AllByRecursion (Fits w.shape) (put_by given z q.node)) (sym w.is_from) (fed_fits c given fit q w.shape w.from w.is_from w.leaves))
