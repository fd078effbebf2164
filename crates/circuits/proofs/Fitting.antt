-- A step keeps a state: where tokens and slots fit and tags differ before, they do after.
use Rattle.std.proofs.Common.{◌≡◌, inl, inr, refl, sym, ap, subst, ◌∙◌, List, [], ◌∷◌, ◌++◌, Option, Some, None}
use Rattle.std.specs.List.{AllByRecursion}
use Rattle.std.proofs.lemmas.Option.{same_Some}
use Rattle.circuits.specs.Values.{ValuesFit}
use Rattle.port_types.specs.Token.{Fits}
use Rattle.components.specs.declared.kind.Kind.{Kind}
use Rattle.components.specs.declared.kind.Kind.TheVariants.{Exit}
use Rattle.components.specs.Name.{Name, Port, port_get}
use Rattle.components.specs.Kind.{Shape, ins, outs}
use Rattle.circuits.specs.PortTokens.{Token, one, share, share_from, at_port}
use Rattle.circuits.specs.Circuit.{Circuit, kind_of, Typed}
use Rattle.circuits.specs.CircuitState.{CircuitState, start, initial, SlotFits, TagsDiffer, IsStateOf}
use Rattle.circuits.specs.Firing.{Label, Label.Take}
use Rattle.circuits.specs.Run.{Step, Move, Run}
use Rattle.circuits.proofs.Names.{name_cases}
use Rattle.circuits.proofs.Lists.{each_append, each_left, each_right}
use Rattle.circuits.proofs.Steps.{acts_at, share_same, share_other}
use Rattle.circuits.proofs.Sides.{PortsFit, side_of, ports_of, Kept}
use Rattle.circuits.proofs.Rows.{acts_fit, initial_fit}

-- a step keeps a state
module _ (values : ValuesFit) (c : Circuit) (ty : Typed c) (s : CircuitState) (n : Name) (l : Label) (t : CircuitState) (st : Step c s n l t) (h : IsStateOf c s) where
  taken_fits : PortsFit (ins st.kind) st.taken
  taken_fits i b e =
      let whole : AllByRecursion (Fits b) (s.wires (record { node = n; port = i })) = h.wires (record { node = n; port = i }) st.kind b st.is_kind e in
      subst (AllByRecursion (Fits b)) (share_same n st.taken (record { node = n; port = i }) refl)
      (each_left (Fits b) (share n st.taken (record { node = n; port = i })) (st.between (record { node = n; port = i }))
      (subst (AllByRecursion (Fits b)) (st.takes (record { node = n; port = i })) whole))

  given_fit : Kept st.kind st.given (t.slots n)
  given_fit =
      acts_fit values st.kind (ty.kinds n st.kind st.is_kind) l (s.slots n) st.taken st.given (t.slots n) st.acts
      (side_of (ins st.kind) st.taken taken_fits) (h.slots n st.kind st.is_kind) (h.tags n st.kind st.is_kind)

  fed_fit : (p : Port) (k : Kind) (a : Shape) → c.kind_at p.node ≡ Some k → port_get (ins k) p.port ≡ Some a → (o : Option Port) → c.feeder p ≡ o → AllByRecursion (Fits a) (share_from n st.given o)
  fed_fit p k a ek ea None f = tt
  fed_fit p k a ek ea (Some q) f =
      elim (name_cases q.node n) [
        | inl is ↦
            let w = ty.wires p q f in
            let same : w.shape ≡ a = same_Some w.shape a (sym w.enters ∙ ap (λ x. port_get (ins x) p.port) (same_Some w.to k (sym w.is_to ∙ ek)) ∙ ea) in
            let leaves : port_get (outs st.kind) q.port ≡ Some w.shape =
            ap (λ x. port_get (outs x) q.port) (same_Some st.kind w.from (sym st.is_kind ∙ ap c.kind_at (sym is.is) ∙ w.is_from)) ∙ w.leaves in
            subst (λ z. AllByRecursion (Fits z) (share n st.given q)) same
            (subst (AllByRecursion (Fits w.shape)) (sym (share_same n st.given q is.is)) (ports_of (outs st.kind) st.given given_fit.side q.port w.shape leaves))
        | inr ne ↦ subst (AllByRecursion (Fits a)) (sym (share_other n st.given q ne.is_not)) tt
      ]

  pub step_fits : IsStateOf c t
  step_fits =
      record {
        wires = λ p k a ek ea.
            subst (AllByRecursion (Fits a)) (sym (st.gives p))
            (each_append (Fits a) (st.between p) (share_from n st.given (c.feeder p))
            (each_right (Fits a) (share n st.taken p) (st.between p) (subst (AllByRecursion (Fits a)) (st.takes p) (h.wires p k a ek ea)))
            (fed_fit p k a ek ea (c.feeder p) refl));
        slots = λ m k ek.
            elim (name_cases m n) [
              | inl is ↦
                  subst (λ z. AllByRecursion (SlotFits k) (t.slots z)) (sym is.is)
                  (subst (λ z. AllByRecursion (SlotFits z) (t.slots n)) (same_Some st.kind k (sym st.is_kind ∙ ap c.kind_at (sym is.is) ∙ ek)) given_fit.slots)
              | inr ne ↦ subst (AllByRecursion (SlotFits k)) (sym (st.others m ne.is_not)) (h.slots m k ek)
            ];
        tags = λ m k ek.
            elim (name_cases m n) [
              | inl is ↦ subst (λ z. TagsDiffer (t.slots z)) (sym is.is) given_fit.tags
              | inr ne ↦ subst TagsDiffer (sym (st.others m ne.is_not)) (h.tags m k ek)
            ];
      }

start_fit_at : (c : Circuit) → Typed c → (p : Port) (k : Kind) (a : Shape) → c.kind_at p.node ≡ Some k → port_get (ins k) p.port ≡ Some a → (o : Option Port) → c.feeder p ≡ o → AllByRecursion (Fits a) (initial (kind_of c o))
start_fit_at c ty p k a ek ea None f = tt
start_fit_at c ty p k a ek ea (Some q) f =
    let w = ty.wires p q f in
    let same : w.shape ≡ a = same_Some w.shape a (sym w.enters ∙ ap (λ x. port_get (ins x) p.port) (same_Some w.to k (sym w.is_to ∙ ek)) ∙ ea) in
    subst (λ z. AllByRecursion (Fits a) (initial z)) (sym w.is_from) (initial_fit w.from (ty.kinds q.node w.from w.is_from) q.port a (w.leaves ∙ ap Some same))

pub start_fits : (c : Circuit) → Typed c → IsStateOf c (start c)
start_fits c ty = record { wires = λ p k a ek ea. start_fit_at c ty p k a ek ea (c.feeder p) refl; slots = λ n k e. tt; tags = λ n k e. tt }

pub run_fits : ValuesFit → (c : Circuit) → Typed c → (s : CircuitState) (ms : List Move) (t : CircuitState) → Run c s ms t → IsStateOf c s → IsStateOf c t
run_fits values c ty s [] t run h = subst (IsStateOf c) run h
run_fits values c ty s (m ∷ ms) t run h = run_fits values c ty run.0 ms t run.2 (step_fits values c ty s m.node m.label run.0 run.1 h)

pub reached_fits : ValuesFit → (c : Circuit) → Typed c → (ms : List Move) (t : CircuitState) → Run c (start c) ms t → IsStateOf c t
reached_fits values c ty ms t run = run_fits values c ty (start c) ms t run (start_fits c ty)

-- what is taken fits
pub take_fits : (c : Circuit) (s : CircuitState) (n : Name) (v : Token) (a : Shape) (t : CircuitState) → c.kind_at n ≡ Some (Exit a) → Step c s n (Take v) t → IsStateOf c s → Fits a v
take_fits c s n v a t e st h =
    let (et, eg, en) = acts_at c s n (Take v) t st (Exit a) e in
    let whole : AllByRecursion (Fits a) (s.wires (record { node = n; port = 1 })) = h.wires (record { node = n; port = 1 }) (Exit a) a e refl in
    let all : AllByRecursion (Fits a) (share n st.taken (record { node = n; port = 1 }) ++ st.between (record { node = n; port = 1 })) = subst (AllByRecursion (Fits a)) (st.takes (record { node = n; port = 1 })) whole in
    let at : share n st.taken (record { node = n; port = 1 }) ≡ one v = share_same n st.taken (record { node = n; port = 1 }) refl ∙ ap (λ z. at_port z 1) et in
    let k : AllByRecursion (Fits a) (one v ++ st.between (record { node = n; port = 1 })) = subst (λ z. AllByRecursion (Fits a) (z ++ st.between (record { node = n; port = 1 }))) at all in
    k.0
