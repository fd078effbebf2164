-- A circuit without a Buffer is typed; each refines the other.
use Rattle.std.proofs.Common.{◌≡◌, ◌≢◌, inl, inr, refl, sym, ap, subst, ◌∙◌, if◌then◌else◌, [], ◌∷◌, Option, Some, None}
use Rattle.std.proofs.lemmas.Option.{same_Some}
use Rattle.circuits.specs.Values.{ValuesFit}
use Rattle.components.specs.declared.kind.Kind.{Kind}
use Rattle.components.specs.declared.kind.Kind.TheVariants.{Entry, Exit, Buffer, Fork}
use Rattle.components.specs.Name.{Name, Port, port_get}
use Rattle.components.specs.Kind.{Shape, ins, outs}
use Rattle.components.specs.Orders.{same_bytes, other_bytes}
use Rattle.components.specs.Numbered.{single_port}
use Rattle.circuits.specs.Circuit.{Circuit, Wire, Typed}
use Rattle.circuits.specs.Refines.{SamePorts, Refines}
use Rattle.circuits.specs.Buffers.{first_port, bypass, drop_node, IsBufferLike, CanDropBuffer}
use Rattle.circuits.proofs.Names.{name_cases}
use Rattle.circuits.proofs.Matching.{matches_refines}
use Rattle.circuits.proofs.Buffers.Steps.{CanDrop, IsPlain, buffer_plain, fork_plain, kind_dropped, kind_gone, feeder_dropped, feeder_gone, out_port, drop_matches, undrop_matches}

-- what feeds an input without b: what fed it, or what fed b
pub data Fed (c : Circuit) (b : Name) (p q : Port) : Type 0 where
  straight : c.feeder p ≡ Some q → q.node ≢ b → Fed c b p q
  across : (r : Port) → c.feeder p ≡ Some r → r.node ≡ b → c.feeder (first_port b) ≡ Some q → Fed c b p q

module _ (c : Circuit) (b : Name) (can : CanDrop c b) (ty : Typed c) where
  pub node_kept : (n : Name) (k : Kind) → (drop_node b c).kind_at n ≡ Some k → n ≢ b
  node_kept n k e is = let z : None ≡ Some k = sym (kind_gone c b can n is) ∙ e in cc

  pub kind_kept : (n : Name) (k : Kind) → (drop_node b c).kind_at n ≡ Some k → c.kind_at n ≡ Some k
  kind_kept n k e = sym (kind_dropped c b can n (node_kept n k e)) ∙ e

  fed_at : (p q : Port) (o : Option Port) → c.feeder p ≡ o → bypass b (c.feeder (first_port b)) o ≡ Some q → Fed c b p q
  fed_at p q None f e = let z : None ≡ Some q = e in cc
  fed_at p q (Some r) f e =
      elim (name_cases r.node b) [
        | inl is ↦ across r f is.is (ap (λ z. if z then c.feeder (first_port b) else Some r) (sym is.test) ∙ e)
        | inr ne ↦
            let same : Some r ≡ Some q = ap (λ z. if z then c.feeder (first_port b) else Some r) (sym ne.test) ∙ e in
            straight (f ∙ same) (λ x. ne.is_not (ap (λ (z : Port). z.node) (same_Some r q same) ∙ x))
      ]

  port_kept : (p q : Port) → (drop_node b c).feeder p ≡ Some q → p.node ≢ b
  port_kept p q e is = let z : None ≡ Some q = sym (feeder_gone c b can p is) ∙ e in cc

  pub fed : (p q : Port) → (drop_node b c).feeder p ≡ Some q → Fed c b p q
  fed p q e = fed_at p q (c.feeder p) refl (sym (feeder_dropped c b can p (port_kept p q e)) ∙ e)

  pub fed_straight : (p q : Port) → p.node ≢ b → c.feeder p ≡ Some q → q.node ≢ b → (drop_node b c).feeder p ≡ Some q
  fed_straight p q away f ne =
      feeder_dropped c b can p away ∙ ap (bypass b (c.feeder (first_port b))) f
      ∙ ap (λ z. if z then c.feeder (first_port b) else Some q) (other_bytes q.node b ne)

  pub fed_across : (p r : Port) → p.node ≢ b → c.feeder p ≡ Some r → r.node ≡ b → (drop_node b c).feeder p ≡ c.feeder (first_port b)
  fed_across p r away f is =
      feeder_dropped c b can p away ∙ ap (bypass b (c.feeder (first_port b))) f
      ∙ ap (λ z. if z then c.feeder (first_port b) else Some r) (same_bytes r.node b is)

  source_kind : (p q : Port) (f : c.feeder p ≡ Some q) → q.node ≡ b → (ty.wires p q f).from ≡ can.kind
  source_kind p q f is = same_Some _ can.kind (sym (ty.wires p q f).is_from ∙ ap c.kind_at is ∙ can.is_kind)

  target_kind : (p q : Port) (f : c.feeder p ≡ Some q) → p.node ≡ b → (ty.wires p q f).to ≡ can.kind
  target_kind p q f is = same_Some _ can.kind (sym (ty.wires p q f).is_to ∙ ap c.kind_at is ∙ can.is_kind)

  -- a port of b is its one port
  pub out_is : (p q : Port) → c.feeder p ≡ Some q → q.node ≡ b → q ≡ first_port b
  out_is p q f is = λ i. record { node = is i; port = out_port c b can ty p q f is i }

  pub in_is : (p q : Port) → c.feeder p ≡ Some q → p.node ≡ b → p ≡ first_port b
  in_is p q f is =
      let w = ty.wires p q f in
      let e : p.port ≡ 1 = single_port can.shape w.shape p.port (ap (λ z. port_get z p.port) (sym (ap ins (target_kind p q f is) ∙ can.plain.input)) ∙ w.enters) in
      λ i. record { node = is i; port = e i }

  before_is : (q : Port) → c.feeder (first_port b) ≡ Some q → can.before ≡ q
  before_is q f = same_Some can.before q (sym can.is_before ∙ f)

  wire_of : (p q : Port) → p.node ≢ b → Fed c b p q → Wire (drop_node b c) q p
  wire_of p q away (straight f ne) =
      let w = ty.wires p q f in
      record {
        to = w.to;
        from = w.from;
        shape = w.shape;
        is_to = kind_dropped c b can p.node away ∙ w.is_to;
        is_from = kind_dropped c b can q.node ne ∙ w.is_from;
        enters = w.enters;
        leaves = w.leaves;
      }
  wire_of p q away (across r f is g) =
      let w = ty.wires p r f in
      let v = ty.wires (first_port b) q g in
      let ne : q.node ≢ b = λ x. can.other (ap (λ (z : Port). z.node) (before_is q g) ∙ x) in
      let one : w.shape ≡ can.shape = same_Some w.shape can.shape (sym w.leaves ∙ (λ i. port_get ((ap outs (source_kind p r f is) ∙ can.plain.output) i) (out_port c b can ty p r f is i))) in
      let two : v.shape ≡ can.shape = same_Some v.shape can.shape (sym v.enters ∙ ap (λ z. port_get z 1) (ap ins (target_kind (first_port b) q g refl) ∙ can.plain.input)) in
      record {
        to = w.to;
        from = v.from;
        shape = w.shape;
        is_to = kind_dropped c b can p.node away ∙ w.is_to;
        is_from = kind_dropped c b can q.node ne ∙ v.is_from;
        enters = w.enters;
        leaves = v.leaves ∙ ap Some (two ∙ sym one);
      }

  input_of : (p q : Port) → p.node ≢ b → c.feeder p ≡ Some q → (r : Port) × ((drop_node b c).feeder p ≡ Some r)
  input_of p q away f =
      elim (name_cases q.node b) [
        | inl is ↦ (can.before, fed_across p q away f is.is ∙ can.is_before)
        | inr ne ↦ (q, fed_straight p q away f ne.is_not)
      ]

  output_of : (p q : Port) → q.node ≢ b → c.feeder p ≡ Some q → (r : Port) × ((drop_node b c).feeder r ≡ Some q)
  output_of p q away f =
      elim (name_cases p.node b) [
        | inl is ↦
            let at : c.feeder (first_port b) ≡ Some q = ap c.feeder (sym (in_is p q f is.is)) ∙ f in
            let (r, g) = ty.outputs (first_port b) can.kind can.shape can.is_kind (ap (λ z. port_get z 1) can.plain.output) in
            let ne : r.node ≢ b = λ x. can.other (ap (λ (z : Port). z.node) (same_Some can.before (first_port b) (sym can.is_before ∙ ap c.feeder (sym (in_is r (first_port b) g x)) ∙ g))) in
            (r, fed_across r (first_port b) ne g refl ∙ at)
        | inr ne ↦ (p, fed_straight p q ne.is_not f away)
      ]

  once_of : (p r q : Port) → p.node ≢ b → r.node ≢ b → Fed c b p q → Fed c b r q → p ≡ r
  once_of p r q np nr (straight f x) (straight g y) = ty.once p r q f g
  once_of p r q np nr (straight f x) (across s g is h) = absurd (np (ap (λ (z : Port). z.node) (ty.once p (first_port b) q f h)))
  once_of p r q np nr (across s f is h) (straight g y) = absurd (nr (ap (λ (z : Port). z.node) (ty.once r (first_port b) q g h)))
  once_of p r q np nr (across s f is h) (across s' f' is' h') =
      ty.once p r (first_port b) (f ∙ ap Some (out_is p s f is)) (f' ∙ ap Some (out_is r s' f' is'))

  pub drop_typed : Typed (drop_node b c)
  drop_typed =
      record {
        kinds = λ n k e. ty.kinds n k (kind_kept n k e);
        wires = λ p q e. wire_of p q (port_kept p q e) (fed p q e);
        inputs = λ p k a e f. let (q, g) = ty.inputs p k a (kind_kept p.node k e) f in input_of p q (node_kept p.node k e) g;
        outputs = λ q k a e f. let (p, g) = ty.outputs q k a (kind_kept q.node k e) f in output_of p q (node_kept q.node k e) g;
        once = λ p r q e f. once_of p r q (port_kept p q e) (port_kept r q f) (fed p q e) (fed r q f);
        names = (ty.names.0, λ n k e. ty.names.1 n k (kind_kept n k e));
      }

  not_port : (n : Name) (k : Kind) → c.kind_at n ≡ Some k → n ≡ b → k ≡ can.kind
  not_port n k e is = same_Some k can.kind (sym e ∙ ap c.kind_at is ∙ can.is_kind)

  pub drop_ports : SamePorts (drop_node b c) c
  drop_ports =
      record {
        entries = λ n a.
            (kind_kept n (Entry a), λ e. kind_dropped c b can n (λ is. let z : [] ≡ can.shape ∷ [] = ap ins (not_port n (Entry a) e is) ∙ can.plain.input in cc) ∙ e);
        exits = λ n a.
            (kind_kept n (Exit a), λ e. kind_dropped c b can n (λ is. let z : [] ≡ can.shape ∷ [] = ap outs (not_port n (Exit a) e is) ∙ can.plain.output in cc) ∙ e);
      }

  pub drop_refines : ValuesFit → Refines (drop_node b c) c
  drop_refines values = matches_refines values (drop_node b c) c drop_typed ty drop_ports (drop_matches c b can ty)

  pub undrop_refines : ValuesFit → Refines c (drop_node b c)
  undrop_refines values =
      matches_refines values c (drop_node b c) ty drop_typed
      (record { entries = λ n a. ((drop_ports.entries n a).1, (drop_ports.entries n a).0); exits = λ n a. ((drop_ports.exits n a).1, (drop_ports.exits n a).0) })
      (undrop_matches c b can ty)

plain_of : (k : Kind) → IsBufferLike k → (a : Shape) × IsPlain k a
plain_of (Buffer a) h = (a, buffer_plain a)
plain_of (Fork a k) h = (a, subst (λ z. IsPlain (Fork a z) a) (sym h) (fork_plain a))
plain_of _ h = absurd h

pub can_drop_of : (c : Circuit) (b : Name) → CanDropBuffer c b → CanDrop c b
can_drop_of c b can =
    let (a, plain) = plain_of can.kind can.passes in
    record { kind = can.kind; shape = a; is_kind = can.is_kind; plain = plain; before = can.before; is_before = can.is_before; other = can.other }

-- a Buffer dropped, and put
pub dropped : ValuesFit → (c : Circuit) (b : Name) → Typed c → CanDropBuffer c b → Refines (drop_node b c) c
dropped values c b ty can = drop_refines c b (can_drop_of c b can) ty values

pub put : ValuesFit → (c : Circuit) (b : Name) → Typed c → CanDropBuffer c b → Refines c (drop_node b c)
put values c b ty can = undrop_refines c b (can_drop_of c b can) ty values
