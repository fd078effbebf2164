-- The wires of a circuit with a part replaced: where each comes from, and which wire of the old circuit and of the new part it is.
use Rattle.std.proofs.Common.{◌≡◌, ◌↔◌, inl, inr, refl, sym, ap, subst, ◌∙◌, true, false, Bool, Option, Some, None, true≢false}
use Rattle.components.specs.Kind.{Shape, ins, outs}
use Rattle.components.specs.Name.{Name, Port, port_get}
use Rattle.components.specs.declared.kind.Kind.TheVariants.{Entry, Exit}
use Rattle.circuits.specs.Circuit.{Circuit}
use Rattle.circuits.specs.Replacing.{is_inner, IsPart}
use Rattle.circuits.proofs.Beside.{none_some}
use Rattle.std.proofs.lemmas.Option.{same_Some}
use Rattle.part_drains.proofs.Carries.{Carries}
use Rattle.part_drains.specs.Part.{inside}
use Rattle.part_drains.proofs.Sorts.{bool_cases, inner_some_at}
use Rattle.part_drains.proofs.PartInside.{listed, enters, source_of, listed_in, leaves_at, target_of, Stands}

pub clash : {A : Type 0} (b : Bool) → b ≡ true → b ≡ false → A
clash b e f = absurd (true≢false (sym e ∙ f))

-- the part in the old circuit
module _ (g left : Circuit) (target : Port → Option Port) (pt : IsPart g left target) where
  entry_not_inside : (n : Name) (a : Shape) → left.kind_at n ≡ Some (Entry a) → inside left n ≡ false
  entry_not_inside n a e = ap is_inner e

  -- what feeds a wire of the part that comes from outside
  pub left_enters : (p q : Port) → inside left p.node ≡ true → inside left q.node ≡ false → g.feeder p ≡ Some q → (r : Port) × (a : Shape) × (left.feeder p ≡ Some r) × (left.kind_at r.node ≡ Some (Entry a))
  left_enters p q ip oq f =
      let v = pt.whole.wires p q f in
      let (k, e, ik) = inner_some_at (left.kind_at p.node) ip in
      let same : v.to ≡ k = same_Some v.to k (sym v.is_to ∙ pt.nodes p.node k e ik) in
      let (r, lf) = pt.part.inputs p k v.shape e (ap (λ z. port_get (ins z) p.port) (sym same) ∙ v.enters) in
      elim (source_of left pt.part p r lf) [
        | listed ir ↦
            let is : r ≡ q = same_Some r q (sym ((pt.wires p r ip ir).1 lf) ∙ f) in
            clash (inside left r.node) ir (ap (λ (z : Port). inside left z.node) is ∙ oq)
        | enters a er port ↦ (r, a, lf, er)
      ]

  pub left_stands : Stands g left
  left_stands = record { nodes = pt.nodes; wires = pt.wires; enters = left_enters }

  -- what an Entry of the part feeds is in the part, and fed from outside
  pub entry_feeds : (p r : Port) (a : Shape) → left.feeder p ≡ Some r → left.kind_at r.node ≡ Some (Entry a) → inside left p.node ≡ true
  entry_feeds p r a lf er =
      elim (target_of left pt.part p r lf) [
        | listed_in ip ↦ ip
        | leaves_at b e port ↦ absurd (pt.no_through p r b a lf e er)
      ]

  pub entry_from : (p r q : Port) (a : Shape) → left.feeder p ≡ Some r → left.kind_at r.node ≡ Some (Entry a) → g.feeder p ≡ Some q → inside left q.node ≡ false
  entry_from p r q a lf er f =
      elim (bool_cases (inside left q.node)) [
        | inr oq ↦ oq
        | inl iq ↦
            let is : q ≡ r = same_Some q r (sym ((pt.wires p q (entry_feeds p r a lf er) iq).0 f) ∙ lf) in
            clash (inside left q.node) iq (ap (λ (z : Port). inside left z.node) is ∙ entry_not_inside r.node a er)
      ]

  -- the Exit that stands for a wire out of the part
  pub record Leaves (q : Port) : Type 0 where
    pub at : Port
    pub shape : Shape
    pub is_exit : left.kind_at at.node ≡ Some (Exit shape)
    pub first : at ≡ record { node = at.node; port = 1 }
    pub feeds : left.feeder at ≡ Some q
    pub targets : target q ≡ Some at

  pub left_leaves : (p q : Port) → inside left p.node ≡ false → inside left q.node ≡ true → g.feeder p ≡ Some q → Leaves q
  left_leaves p q op iq f =
      let v = pt.whole.wires p q f in
      let (k, e, ik) = inner_some_at (left.kind_at q.node) iq in
      let same : v.from ≡ k = same_Some v.from k (sym v.is_from ∙ pt.nodes q.node k e ik) in
      let (x, lf) = pt.part.outputs q k v.shape e (ap (λ z. port_get (outs z) q.port) (sym same) ∙ v.leaves) in
      elim (target_of left pt.part x q lf) [
        | listed_in ix ↦
            let is : x ≡ p = pt.whole.once x p q ((pt.wires x q ix iq).1 lf) f in
            clash (inside left x.node) ix (ap (λ (z : Port). inside left z.node) is ∙ op)
        | leaves_at b ex port ↦ record { at = x; shape = b; is_exit = ex; first = port; feeds = lf; targets = (pt.target_is x q).0 lf }
      ]

  -- the wire of g that an Exit of the part stands for
  pub record Out (x q : Port) : Type 0 where
    pub to : Port
    pub feeds : g.feeder to ≡ Some q
    pub away : inside left to.node ≡ false

  pub exit_source : (x q : Port) → inside left x.node ≡ false → left.feeder x ≡ Some q → inside left q.node ≡ true
  exit_source x q ox lf =
      elim (source_of left pt.part x q lf) [
        | listed iq ↦ iq
        | enters a eq port ↦ clash (inside left x.node) (entry_feeds x q a lf eq) ox
      ]

  out_at : (x q : Port) → inside left x.node ≡ false → left.feeder x ≡ Some q → Out x q
  out_at x q ox lf =
      let iq : inside left q.node ≡ true = exit_source x q ox lf in
      let w = pt.part.wires x q lf in
      let (k, e, ik) = inner_some_at (left.kind_at q.node) iq in
      let same : w.from ≡ k = same_Some w.from k (sym w.is_from ∙ e) in
      let (p, f) = pt.whole.outputs q k w.shape (pt.nodes q.node k e ik) (ap (λ z. port_get (outs z) q.port) (sym same) ∙ w.leaves) in
      record {
        to = p;
        feeds = f;
        away = elim (bool_cases (inside left p.node)) [
          | inr op ↦ op
          | inl ip ↦
              let is : p ≡ x = pt.part.once p x q ((pt.wires p q ip iq).0 f) lf in
              clash (inside left p.node) ip (ap (λ (z : Port). inside left z.node) is ∙ ox)
        ];
      }

  -- the wires of the part, as wires of g
  out_wire : (x : Port) → inside left x.node ≡ false → (o : Option Port) → left.feeder x ≡ o → Option Port
  out_wire x ox None e = None
  out_wire x ox (Some q) e = Some ((out_at x q ox e).to)

  part_wire_at : (x : Port) (b : Bool) → inside left x.node ≡ b → Option Port
  part_wire_at x true i = Some x
  part_wire_at x false o = out_wire x o (left.feeder x) refl

  pub part_wire : Port → Option Port
  part_wire x = part_wire_at x (inside left x.node) refl

  pub data PartWire (x : Port) : Option Port → Type 0 where
    own : inside left x.node ≡ true → PartWire x (Some x)
    out : (q : Port) (o : Out x q) → left.feeder x ≡ Some q → inside left q.node ≡ true → (a : Shape) → left.kind_at x.node ≡ Some (Exit a) → x ≡ record { node = x.node; port = 1 } → PartWire x (Some o.to)
    dead : inside left x.node ≡ false → left.feeder x ≡ None → PartWire x None

  out_wire_is : (x : Port) (ox : inside left x.node ≡ false) (o : Option Port) (e : left.feeder x ≡ o) → PartWire x (out_wire x ox o e)
  unfolding out_wire
  out_wire_is x ox None e = dead ox e
  out_wire_is x ox (Some q) e =
      elim (target_of left pt.part x q e) [
        | listed_in ix ↦ clash (inside left x.node) ix ox
        | leaves_at b ex port ↦ out q (out_at x q ox e) e (exit_source x q ox e) b ex port
      ]

  part_wire_is_at : (x : Port) (b : Bool) (e : inside left x.node ≡ b) → PartWire x (part_wire_at x b e)
  unfolding part_wire_at
  part_wire_is_at x true e = own e
  part_wire_is_at x false e = out_wire_is x e (left.feeder x) refl

  pub part_wire_is : (x : Port) → PartWire x (part_wire x)
  unfolding part_wire
  part_wire_is x = part_wire_is_at x (inside left x.node) refl

  own_at : (x : Port) (o : Option Port) → PartWire x o → inside left x.node ≡ true → o ≡ Some x
  own_at x _ (own i) h = refl
  own_at x _ (out q o lf iq a e port) h = clash (inside left x.node) h (ap is_inner e)
  own_at x _ (dead o lf) h = clash (inside left x.node) h o

  other_at : (x p : Port) (o : Option Port) → PartWire x o → o ≡ Some p → inside left x.node ≡ false → inside left p.node ≡ false
  other_at x p _ (own i) e h = clash (inside left x.node) i h
  other_at x p _ (out q o lf iq a ex port) e h = ap (λ (z : Port). inside left z.node) (sym (same_Some o.to p e)) ∙ o.away
  other_at x p _ (dead o lf) e h = absurd (none_some None p refl e)

  feeds_at : (x p q : Port) (o : Option Port) → PartWire x o → o ≡ Some p → inside left q.node ≡ true → (g.feeder p ≡ Some q) ↔ (left.feeder x ≡ Some q)
  feeds_at x p q _ (own i) e iq = subst (λ (z : Port). (g.feeder z ≡ Some q) ↔ (left.feeder x ≡ Some q)) (same_Some x p e) (pt.wires x q i iq)
  feeds_at x p q _ (out r o lf ir a ex port) e iq =
      let f : g.feeder p ≡ Some r = ap g.feeder (sym (same_Some o.to p e)) ∙ o.feeds in
      ((λ h. lf ∙ sym f ∙ h), (λ h. f ∙ sym lf ∙ h))
  feeds_at x p q _ (dead o lf) e iq = absurd (none_some None p refl e)

  unfed_at : (x q : Port) (o : Option Port) → PartWire x o → o ≡ None → inside left q.node ≡ true → left.feeder x ≡ Some q → ⊥
  unfed_at x q _ (own i) e iq lf = none_some None x refl (sym e)
  unfed_at x q _ (out r o f ir a ex port) e iq lf = none_some None o.to refl (sym e)
  unfed_at x q _ (dead o f) e iq lf = none_some (left.feeder x) q f lf

  -- the part's firings in g are firings of the part
  pub part_carries : Carries g left (inside left) part_wire
  part_carries =
      record {
        nodes = λ n k i e. let (j, f, ij) = inner_some_at (left.kind_at n) i in f ∙ ap Some (same_Some j k (sym (pt.nodes n j f ij) ∙ e));
        own = λ x h. own_at x (part_wire x) (part_wire_is x) h;
        other = λ x p e h. other_at x p (part_wire x) (part_wire_is x) e h;
        feeds = λ x p q e h. feeds_at x p q (part_wire x) (part_wire_is x) e h;
        unfed = λ x q e h f. unfed_at x q (part_wire x) (part_wire_is x) e h f;
      }
