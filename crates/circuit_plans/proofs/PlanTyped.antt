-- When the circuit of a plan is typed, and when two of them have the same ports.
use Rattle.std.proofs.Common.{◌≡◌, ℕ, ◌<◌, refl, sym, ap, subst, ◌∙◌, length, Option, Some, None}
use Rattle.std.proofs.lemmas.Option.{same_Some}
use Rattle.components.specs.declared.kind.Kind.{Kind}
use Rattle.components.specs.declared.kind.Kind.TheVariants.{Entry, Exit}
use Rattle.components.specs.Name.{Name, Port, port_get}
use Rattle.components.specs.Kind.{Shape, ins, outs, KindOk}
use Rattle.circuits.specs.Circuit.{Typed}
use Rattle.circuits.specs.Refines.{SamePorts}
use Rattle.circuits.proofs.Beside.{none_some}
use Rattle.circuit_plans.proofs.Plans.{Out, Plan, Naming, kind_by, out_by, feeder_by, built, name_inj}

abbrev pub ForSome : {A : Type 0} → Option A → (A → Type 0) → Type 0
ForSome None P = Unit {0}
ForSome (Some x) P = P x

pub for_some : {A : Type 0} (o : Option A) (P : A → Type 0) (x : A) → o ≡ Some x → ForSome o P → P x
for_some None P x e h = absurd (none_some None x refl e)
for_some (Some y) P x e h = subst P (same_Some y x e) h

-- a wire from output q to input i of n, at one shape
pub record PlanWire {N : Type 0} (c : Plan N) (sink : N → ℕ → Option (Out N)) (n : N) (i : ℕ) (q : Out N) : Type 0 where
  pub back : sink q.at q.port ≡ Some (record { at = n; port = i })
  pub shape : Shape
  pub enters : port_get (ins (c.kind n)) i ≡ Some shape
  pub leaves : port_get (outs (c.kind q.at)) q.port ≡ Some shape

-- each input has its source and each output its sink
pub record PlanTyped {N : Type 0} (c : Plan N) : Type 0 where
  pub kinds : (n : N) → KindOk (c.kind n)
  pub sink : N → ℕ → Option (Out N)
  pub wires : (n : N) (i : ℕ) → ForSome (c.source n i) (PlanWire c sink n i)
  pub sinks : (n : N) (i : ℕ) → ForSome (sink n i) (λ p. c.source p.at p.port ≡ Some (record { at = n; port = i }))
  pub inputs : (n : N) (i : ℕ) → ForSome (port_get (ins (c.kind n)) i) (λ a. (q : Out N) × (c.source n i ≡ Some q))
  pub outputs : (n : N) (i : ℕ) → ForSome (port_get (outs (c.kind n)) i) (λ a. (p : Out N) × (sink n i ≡ Some p))

module _ {N : Type 0} (c : Plan N) (x : Naming N) where
  who_at : (k : Kind) (o : Option N) → kind_by c o ≡ Some k → (n : N) × (o ≡ Some n) × (c.kind n ≡ k)
  who_at k None e = absurd (none_some None k refl e)
  who_at k (Some n) e = (n, refl, same_Some (c.kind n) k e)

  pub who : (m : Name) (k : Kind) → (built c x).kind_at m ≡ Some k → (n : N) × (x.which m ≡ Some n) × (c.kind n ≡ k)
  who m k e = who_at k (x.which m) e

  pub record Fed (p q : Port) (o : Option N) : Type 0 where
    pub node : N
    pub is_node : o ≡ Some node
    pub out : Out N
    pub source : c.source node p.port ≡ Some out
    pub is : record { node = x.name out.at; port = out.port } ≡ q

  fed_out : (p q : Port) (n : N) (o : Option (Out N)) → c.source n p.port ≡ o → out_by x o ≡ Some q → Fed p q (Some n)
  fed_out p q n None e f = absurd (none_some None q refl f)
  fed_out p q n (Some r) e f = record { node = n; is_node = refl; out = r; source = e; is = same_Some _ q f }

  fed_at : (p q : Port) (o : Option N) → feeder_by c x o p.port ≡ Some q → Fed p q o
  fed_at p q None e = absurd (none_some None q refl e)
  fed_at p q (Some n) e = fed_out p q n (c.source n p.port) refl e

  pub fed : (p q : Port) → (built c x).feeder p ≡ Some q → Fed p q (x.which p.node)
  fed p q e = fed_at p q (x.which p.node) e

  module _ (t : PlanTyped c) where
    once_at : (p r q : Port) (a : Fed p q (x.which p.node)) (b : Fed r q (x.which r.node)) → p ≡ r
    once_at p r q a b =
        let same : record { node = x.name a.out.at; port = a.out.port } ≡ record { node = x.name b.out.at; port = b.out.port } = a.is ∙ sym b.is in
        let node : a.out.at ≡ b.out.at = name_inj c x a.out.at b.out.at (ap (λ (z : Port). z.node) same) in
        let port : a.out.port ≡ b.out.port = ap (λ (z : Port). z.port) same in
        let one = for_some (c.source a.node p.port) (PlanWire c t.sink a.node p.port) a.out a.source (t.wires a.node p.port) in
        let two = for_some (c.source b.node r.port) (PlanWire c t.sink b.node r.port) b.out b.source (t.wires b.node r.port) in
        let into : record { at = a.node; port = p.port } ≡ record { at = b.node; port = r.port } =
        same_Some _ _ (sym one.back ∙ (λ j. t.sink (node j) (port j)) ∙ two.back) in
        let names : p.node ≡ r.node = x.named p.node a.node a.is_node ∙ ap (λ (z : Out N). x.name z.at) into ∙ sym (x.named r.node b.node b.is_node) in
        λ j. record { node = names j; port = ap (λ (z : Out N). z.port) into j }

    pub plan_typed : (size : ℕ) → ((n : N) → length (x.name n) < size) → Typed (built c x)
    plan_typed size short =
        record {
          kinds = λ m k e. let (n, is, ek) = who m k e in subst KindOk ek (t.kinds n);
          wires = λ p q e.
              let f = fed p q e in
              let w = for_some (c.source f.node p.port) (PlanWire c t.sink f.node p.port) f.out f.source (t.wires f.node p.port) in
              record {
                to = c.kind f.node;
                from = c.kind f.out.at;
                shape = w.shape;
                is_to = ap (kind_by c) f.is_node;
                is_from = ap (λ (z : Port). kind_by c (x.which z.node)) (sym f.is) ∙ ap (kind_by c) (x.known f.out.at);
                enters = w.enters;
                leaves = ap (λ (z : Port). port_get (outs (c.kind f.out.at)) z.port) (sym f.is) ∙ w.leaves;
              };
          inputs = λ p k a ek ea.
              let (n, is, en) = who p.node k ek in
              let (q, eq) = for_some (port_get (ins (c.kind n)) p.port) (λ a. (q : Out N) × (c.source n p.port ≡ Some q)) a (ap (λ z. port_get (ins z) p.port) en ∙ ea) (t.inputs n p.port) in
              (record { node = x.name q.at; port = q.port }, ap (λ o. feeder_by c x o p.port) is ∙ ap (out_by x) eq);
          outputs = λ q k a ek ea.
              let (n, is, en) = who q.node k ek in
              let (p, ep) = for_some (port_get (outs (c.kind n)) q.port) (λ a. (p : Out N) × (t.sink n q.port ≡ Some p)) a (ap (λ z. port_get (outs z) q.port) en ∙ ea) (t.outputs n q.port) in
              let src : c.source p.at p.port ≡ Some (record { at = n; port = q.port }) = for_some (t.sink n q.port) (λ p. c.source p.at p.port ≡ Some (record { at = n; port = q.port })) p ep (t.sinks n q.port) in
              let named : q.node ≡ x.name n = x.named q.node n is in (
                record { node = x.name p.at; port = p.port },
                ap (λ o. feeder_by c x o p.port) (x.known p.at) ∙ ap (out_by x) src ∙ (λ j. Some (record { node = sym named j; port = q.port })),
              );
          once = λ p r q e f. once_at p r q (fed p q e) (fed r q f);
          names = (size, λ m k e. let (n, is, en) = who m k e in subst (λ z. length z < size) (sym (x.named m n is)) (short n));
        }

-- the ends of two plans have the same names and shapes
pub record PlanPorts {N M : Type 0} (h : Plan N) (g : Plan M) (hx : Naming N) (gx : Naming M) : Type 0 where
  pub entry : (n : N) (a : Shape) → h.kind n ≡ Entry a → (m : M) × (hx.name n ≡ gx.name m) × (g.kind m ≡ Entry a)
  pub entry_back : (m : M) (a : Shape) → g.kind m ≡ Entry a → (n : N) × (hx.name n ≡ gx.name m) × (h.kind n ≡ Entry a)
  pub exit : (n : N) (a : Shape) → h.kind n ≡ Exit a → (m : M) × (hx.name n ≡ gx.name m) × (g.kind m ≡ Exit a)
  pub exit_back : (m : M) (a : Shape) → g.kind m ≡ Exit a → (n : N) × (hx.name n ≡ gx.name m) × (h.kind n ≡ Exit a)

named_kind : {N : Type 0} (c : Plan N) (x : Naming N) (m : Name) (n : N) (k : Kind) → m ≡ x.name n → c.kind n ≡ k → (built c x).kind_at m ≡ Some k
named_kind c x m n k e f = ap (λ z. kind_by c (x.which z)) e ∙ ap (kind_by c) (x.known n) ∙ ap Some f

pub plan_ports : {N M : Type 0} (h : Plan N) (g : Plan M) (hx : Naming N) (gx : Naming M) → PlanPorts h g hx gx → SamePorts (built h hx) (built g gx)
plan_ports h g hx gx p =
    record {
      entries = λ m a. (
        λ e. let (n, is, ek) = who h hx m (Entry a) e in let (k, name, ke) = p.entry n a ek in named_kind g gx m k (Entry a) (hx.named m n is ∙ name) ke,
        λ e. let (n, is, ek) = who g gx m (Entry a) e in let (k, name, ke) = p.entry_back n a ek in named_kind h hx m k (Entry a) (gx.named m n is ∙ sym name) ke,
      );
      exits = λ m a. (
        λ e. let (n, is, ek) = who h hx m (Exit a) e in let (k, name, ke) = p.exit n a ek in named_kind g gx m k (Exit a) (hx.named m n is ∙ name) ke,
        λ e. let (n, is, ek) = who g gx m (Exit a) e in let (k, name, ke) = p.exit_back n a ek in named_kind h hx m k (Exit a) (gx.named m n is ∙ sym name) ke,
      );
    }
