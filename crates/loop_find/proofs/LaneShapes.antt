-- A lane's Mux and its Branch have one shape.
use Rattle.std.proofs.Common.{◌≡◌, true, false, Bool, refl, sym, ap, ◌∙◌, List, [], ◌∷◌, Some}
use Rattle.std.proofs.lemmas.Option.{same_Some}
use Rattle.components.specs.declared.kind.Kind.{Kind}
use Rattle.components.specs.declared.kind.Kind.TheVariants.{Buffer, Mux, Branch}
use Rattle.components.specs.Name.{Name, Port, port_get}
use Rattle.components.specs.Kind.{Shape, ins, outs}
use Rattle.circuits.specs.Circuit.{Circuit, Typed}
use Rattle.circuits.specs.Buffers.{first_port}
use Rattle.loop_laws.specs.Polarity.{back_in, back_out}
use Rattle.loop_laws.specs.BackPath.{IsBuffer, Through, BranchOf}

-- the input is one of this shape
record Enters (c : Circuit) (p : Port) (a : Shape) : Type 0 where
  kind : Kind
  is_kind : c.kind_at p.node ≡ Some kind
  enters : port_get (ins kind) p.port ≡ Some a

module _ (c : Circuit) (typed : Typed c) where
  by_wire : (p q : Port) (k : Kind) (a : Shape) → c.kind_at q.node ≡ Some k → port_get (outs k) q.port ≡ Some a → c.feeder p ≡ Some q → Enters c p a
  by_wire p q k a is leaves fed =
      let w = typed.wires p q fed in
      let same : k ≡ w.from = same_Some k w.from (sym is ∙ w.is_from) in
      record { kind = w.to; is_kind = w.is_to; enters = w.enters ∙ sym w.leaves ∙ ap (λ z. port_get (outs z) q.port) (sym same) ∙ leaves }

  through_buffer : (b : Name) (k : Kind) (a : Shape) → IsBuffer k → c.kind_at b ≡ Some k → Enters c (first_port b) a → port_get (outs k) 1 ≡ Some a
  through_buffer b (Buffer shape) a here is e = ap (λ z. port_get (ins z) 1) (same_Some (Buffer shape) e.kind (sym is ∙ e.is_kind)) ∙ e.enters
  through_buffer b _ a here is e = elim here [ ]

  through : (bs : List Name) (p q : Port) (k : Kind) (a : Shape) → c.kind_at q.node ≡ Some k → port_get (outs k) q.port ≡ Some a → Through c q bs p → Enters c p a
  through [] p q k a is leaves fed = by_wire p q k a is leaves fed
  through (b ∷ bs) p q k a is leaves path =
      let buffer = path.0 in
      through bs p (first_port b) buffer.0 a buffer.1 (through_buffer b buffer.0 a buffer.2 buffer.1 (by_wire (first_port b) q k a is leaves path.1)) path.2

  at_back : (goes_back : Bool) (shape : Shape) → port_get (outs (Branch shape)) (back_out goes_back) ≡ Some shape
  at_back true shape = refl
  at_back false shape = refl

  at_mux : (goes_back : Bool) (shape : Shape) → port_get (ins (Mux shape)) (back_in goes_back) ≡ Some shape
  at_mux true shape = refl
  at_mux false shape = refl

  pub lane_shape : (m : Name) (goes_back : Bool) (lane r : Name) (its : BranchOf c m goes_back lane r) → its.is_lane.shape ≡ its.shape
  lane_shape m goes_back lane r its =
      let e = through its.back (record { node = lane; port = back_in goes_back }) (record { node = r; port = back_out goes_back }) (Branch its.shape) its.shape its.is_branch (at_back goes_back its.shape) its.path in
      same_Some its.is_lane.shape its.shape
      (sym (at_mux goes_back its.is_lane.shape) ∙ ap (λ z. port_get (ins z) (back_in goes_back)) (same_Some (Mux its.is_lane.shape) e.kind (sym its.is_lane.is_mux ∙ e.is_kind)) ∙ e.enters)
