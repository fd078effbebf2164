-- the circuit of a typed plan is typed
use Rattle.std.proofs.Common.{◌≡◌, ◌↔◌, ℕ, ◌+◌, ◌<◌, ◌≤◌, refl, sym, ap, subst, ◌∙◌, length, List, [], ◌∷◌, Option, Some, None, arith}
use Rattle.body_laws.specs.TypedPlan.{TypedPlan}
use Rattle.circuit_plans.proofs.PlanTyped.{ForSome, for_some, PlanWire, PlanTyped, plan_typed}
use Rattle.circuit_plans.proofs.Plans.{name_inj, kind_named, feeder_named}
use Rattle.circuit_plans.specs.Places.{Place, first, later}
use Rattle.circuit_plans.specs.Plans.{Out, Plan, Naming, built, feeder_by, out_by}
use Rattle.circuits.proofs.Beside.{none_some}
use Rattle.circuits.specs.Circuit.{Typed}
use Rattle.components.specs.Kind.{Shape, ins, outs}
use Rattle.components.specs.Name.{Port, port_get}
use Rattle.std.proofs.lemmas.Option.{same_Some}

for_each : {A : Type 0} (o : Option A) (P : A → Type 0) → ((x : A) → o ≡ Some x → P x) → ForSome o P
for_each None P h = tt
for_each (Some x) P h = h x refl

module _ {N : Type 0} (c : Plan N) (t : TypedPlan c) where
  -- the input that an output feeds
  sink_at : (q : Out N) (o : Option Shape) → port_get (outs (c.kind q.at)) q.port ≡ o → Option (Out N)
  sink_at q None e = None
  sink_at q (Some a) e = Some (t.outputs q a e).0

  sink : N → ℕ → Option (Out N)
  sink n i = sink_at (record { at = n; port = i }) (port_get (outs (c.kind n)) i) refl

  sink_is : (q p : Out N) (o : Option Shape) (e : port_get (outs (c.kind q.at)) q.port ≡ o) → sink_at q o e ≡ Some p → c.source p.at p.port ≡ Some q
  unfolding sink_at
  sink_is q p None e f = absurd (none_some None p refl f)
  sink_is q p (Some a) e f = subst (λ (z : Out N). c.source z.at z.port ≡ Some q) (same_Some (t.outputs q a e).0 p f) (t.outputs q a e).1

  back_at : (p q : Out N) → c.source p.at p.port ≡ Some q → (o : Option Shape) (e : port_get (outs (c.kind q.at)) q.port ≡ o) → sink_at q o e ≡ Some p
  unfolding sink_at
  back_at p q f None e = let (a, enters, leaves) = t.wires p q f in absurd (none_some None a refl (sym e ∙ leaves))
  back_at p q f (Some a) e = ap Some (t.once (t.outputs q a e).0 p q (t.outputs q a e).1 f)

  there_at : (q : Out N) (a : Shape) (o : Option Shape) (e : port_get (outs (c.kind q.at)) q.port ≡ o) → o ≡ Some a → (p : Out N) × (sink_at q o e ≡ Some p)
  unfolding sink_at
  there_at q a None e f = absurd (none_some None a refl f)
  there_at q a (Some b) e f = ((t.outputs q b e).0, refl)

  pub with_sinks : PlanTyped c
  unfolding sink
  with_sinks =
      record {
        kinds = t.kinds;
        sink = sink;
        wires = λ n i.
            for_each (c.source n i) (PlanWire c sink n i) (λ q f.
            let (a, enters, leaves) = t.wires (record { at = n; port = i }) q f in
            record { back = back_at (record { at = n; port = i }) q f (port_get (outs (c.kind q.at)) q.port) refl; shape = a; enters = enters; leaves = leaves });
        sinks = λ n i. for_each (sink n i) (λ p. c.source p.at p.port ≡ Some (record { at = n; port = i })) (λ p f. sink_is (record { at = n; port = i }) p (port_get (outs (c.kind n)) i) refl f);
        inputs = λ n i. for_each (port_get (ins (c.kind n)) i) (λ a. (q : Out N) × (c.source n i ≡ Some q)) (λ a e. t.inputs (record { at = n; port = i }) a e);
        outputs = λ n i. for_each (port_get (outs (c.kind n)) i) (λ a. (p : Out N) × (sink n i ≡ Some p)) (λ a e. there_at (record { at = n; port = i }) a (port_get (outs (c.kind n)) i) refl e);
      }

  pub typed_of : (x : Naming N) (size : ℕ) → ((n : N) → length (x.name n) < size) → Typed (built c x)
  typed_of x size short = plan_typed c x with_sinks size short

-- the wires of a plan, by names
module _ {N : Type 0} (c : Plan N) (x : Naming N) where
  abbrev pub named : Out N → Port
  named q = record { node = x.name q.at; port = q.port }

  pub feeder_is : (p q : Out N) → c.source p.at p.port ≡ Some q → (built c x).feeder (named p) ≡ Some (named q)
  feeder_is p q f = feeder_named c x p.at p.port ∙ ap (out_by x) f

  pub source_at : (q : Port) (o : Option (Out N)) → out_by x o ≡ Some q → (r : Out N) × (o ≡ Some r) × (named r ≡ q)
  source_at q None e = absurd (none_some None q refl e)
  source_at q (Some r) e = (r, refl, same_Some (named r) q e)

  pub same_out : (r q : Out N) → named r ≡ named q → r ≡ q
  same_out r q e =
      let at : r.at ≡ q.at = name_inj c x r.at q.at (ap (λ (z : Port). z.node) e) in
      let port : r.port ≡ q.port = ap (λ (z : Port). z.port) e in
      λ i. record { at = at i; port = port i }

  -- the input of the plan that a fed port is
  pub input_of : (p : Port) (q : Port) → (o : Option N) → x.which p.node ≡ o → feeder_by c x o p.port ≡ Some q → (m : N) × (r : Out N) × (named (record { at = m; port = p.port }) ≡ p) × (c.source m p.port ≡ Some r) × (named r ≡ q)
  input_of p q None e g = absurd (none_some None q refl g)
  input_of p q (Some m) e g =
      let (r, s, is) = source_at q (c.source m p.port) g in (m, r, (λ i. record { node = sym (x.named p.node m e) i; port = p.port }), s, is)

  -- the input that each output feeds
  module _ (t : TypedPlan c) where
    abbrev fed_by_node : Option N → ℕ → Option Port
    fed_by_node None i = None
    fed_by_node (Some n) i = out_by x ((with_sinks c t).sink n i)

    abbrev pub plan_target : Port → Option Port
    plan_target q = fed_by_node (x.which q.node) q.port

    target_to : (p q : Port) → (built c x).feeder p ≡ Some q → plan_target q ≡ Some p
    target_to p q f =
        let (m, r, at, s, is) = input_of p q (x.which p.node) refl f in
        let w = for_some (c.source m p.port) (PlanWire c (with_sinks c t).sink m p.port) r s ((with_sinks c t).wires m p.port) in
        ap plan_target (sym is) ∙ ap (λ o. fed_by_node o r.port) (x.known r.at) ∙ ap (out_by x) w.back ∙ ap Some at

    target_from_at : (p q : Port) (o : Option N) → x.which q.node ≡ o → fed_by_node o q.port ≡ Some p → (built c x).feeder p ≡ Some q
    target_from_at p q None e f = absurd (none_some None p refl f)
    target_from_at p q (Some n) e f =
        let (r, s, is) = source_at p ((with_sinks c t).sink n q.port) f in
        let back : c.source r.at r.port ≡ Some (record { at = n; port = q.port }) =
        for_some ((with_sinks c t).sink n q.port) (λ p. c.source p.at p.port ≡ Some (record { at = n; port = q.port })) r s ((with_sinks c t).sinks n q.port) in
        ap (built c x).feeder (sym is) ∙ feeder_is r (record { at = n; port = q.port }) back ∙ (λ i. Some (record { node = sym (x.named q.node n e) i; port = q.port }))

    pub target_is : (p q : Port) → ((built c x).feeder p ≡ Some q) ↔ (plan_target q ≡ Some p)
    target_is p q = (target_to p q, target_from_at p q (x.which q.node) refl)

-- and the other way round
module _ {N : Type 0} (c : Plan N) (x : Naming N) (t : Typed (built c x)) where
  pub plan_of : TypedPlan c
  plan_of =
      record {
        kinds = λ n. t.kinds (x.name n) (c.kind n) (kind_named c x n);
        wires = λ p q f.
            let w = t.wires (named c x p) (named c x q) (feeder_is c x p q f) in
            let target : w.to ≡ c.kind p.at = same_Some w.to (c.kind p.at) (sym w.is_to ∙ kind_named c x p.at) in
            let source : w.from ≡ c.kind q.at = same_Some w.from (c.kind q.at) (sym w.is_from ∙ kind_named c x q.at) in
            (w.shape, ap (λ k. port_get (ins k) p.port) (sym target) ∙ w.enters, ap (λ k. port_get (outs k) q.port) (sym source) ∙ w.leaves);
        inputs = λ p a e.
            let (q, f) = t.inputs (named c x p) (c.kind p.at) a (kind_named c x p.at) e in
            let (r, s, is) = source_at c x q (c.source p.at p.port) (sym (feeder_named c x p.at p.port) ∙ f) in
            (r, s);
        outputs = λ q a e.
            let (p, f) = t.outputs (named c x q) (c.kind q.at) a (kind_named c x q.at) e in
            let (m, r, at, s, is) = input_of c x p (named c x q) (x.which p.node) refl f in
            (record { at = m; port = p.port }, s ∙ ap Some (same_out c x r q is));
        once = λ p r q f g. same_out c x p r (t.once (named c x p) (named c x r) (named c x q) (feeder_is c x p q f) (feeder_is c x r q g));
      }

-- a bound on what stands at the places of a list
pub total : {A : Type 0} (xs : List A) → (Place xs → ℕ) → ℕ
total [] f = 0
total (x ∷ xs) f = f first + total xs (λ p. f (later p))

pub below_total : {A : Type 0} (xs : List A) (f : Place xs → ℕ) (p : Place xs) → f p ≤ total xs f
unfolding total
below_total [] f p = elim p [ ]
below_total (x ∷ xs) f first = omega arith
below_total (x ∷ xs) f (later p) = let k : f (later p) ≤ total xs (λ p. f (later p)) = below_total xs (λ p. f (later p)) p in omega (arith, k)
