-- A typed graph without one of its Buffers.
use Rattle.std.proofs.Common.{◌≡◌, ◌≢◌, ◌⊎◌, Bool, true, false, cond, not, ◌||◌, inl, inr, refl, sym, ap, subst, ◌∙◌, Option, Some, None, IsSomeAnd, bytes_eq, true≢false}
use Rattle.std.proofs.lemmas.Bool.{not-true, not_from_false, or_from, or_parts}
use Rattle.std.proofs.lemmas.Option.{none-some, same_Some}
use Rattle.std.specs.FinMap as map
use Rattle.components.specs.declared.kind.Kind.{Kind}
use Rattle.components.specs.declared.kind.Kind.TheVariants.{Buffer}
use Rattle.components.specs.Name.{Name, Port, port_get}
use Rattle.components.specs.Kind.{Shape, ins, outs}
use Rattle.components.specs.Node.{Body}
use Rattle.components.specs.NamedGraph.{NamedGraph, IsTyped, IsWire, is_of, with_wire, without_node}
use Rattle.circuits.specs.Buffers.{CanDropBuffer, first_port}
use Rattle.circuits.specs.Circuit.{circuit_of, kind_of_body}
use Rattle.rewrite.specs.Stripped.{IsBufferKind, IsBuffer}
use Rattle.rewrite.specs.Strips.{Drops, Turn}
use Rattle.components.specs.Numbered.{single_port}
use Rattle.components.specs.Lookups.{get_inserted, get_not_inserted, get_removed, get_not_removed, get_retained, found_if}
use Rattle.components.specs.Orders.{name_total, name_same, port_total, port_same, name_cases, port_cases, same_bytes, other_bytes}

-- a Buffer with its node
pub record BufferAt (g : NamedGraph) (name : Name) : Type 0 where
  pub body : Body
  pub shape : Shape
  pub is : map.get g.nodes name ≡ Some body
  pub kind : body.kind ≡ Buffer shape

buffer_kind : (kind : Kind) → IsBufferKind kind → (shape : Shape) × (kind ≡ Buffer shape)
buffer_kind (Buffer shape) h = (shape, refl)
buffer_kind _ h = absurd h

buffer_in : (found : Option Body) → IsSomeAnd found (λ body. IsBufferKind body.kind) → (body : Body) × (found ≡ Some body) × IsBufferKind body.kind
buffer_in None h = absurd h
buffer_in (Some body) h = (body, refl, h)

pub buffer_at : (g : NamedGraph) (name : Name) → IsBuffer g name → BufferAt g name
buffer_at g name buffer =
    let (body, is, of_kind) = buffer_in (map.get g.nodes name) buffer in
    let (shape, kind) = buffer_kind body.kind of_kind in
    record { body = body; shape = shape; is = is; kind = kind }

-- what is left of a Buffer that is taken out, where what fed it is joined to what it fed
pub drops : (g : NamedGraph) (name : Name) → IsBuffer g name → (source target : Port) → map.get g.feeders (first_port name) ≡ Some source → map.get g.feeders target ≡ Some (first_port name) → source.node ≢ name →
    (h : NamedGraph) → h ≡ with_wire (without_node g name) source target → Drops g name h
drops g name buffer source target fed feeds other h is =
    let at = buffer_at g name buffer in
    let can : CanDropBuffer (circuit_of g) name =
    record { kind = Buffer at.shape; is_kind = ap kind_of_body at.is ∙ ap (λ (k : Kind). Some k) at.kind; passes = tt; before = source; is_before = fed; other = other } in
    record { buffer = buffer; without = record { can = can; target = target; after = feeds; is = is } }

is_buffer_kind : (kind : Kind) → IsBufferKind kind ⊎ ¬ (IsBufferKind kind)
is_buffer_kind (Buffer shape) = inl tt
is_buffer_kind _ = inr (λ h. h)

is_buffer_in : (found : Option Body) → IsSomeAnd found (λ body. IsBufferKind body.kind) ⊎ ¬ (IsSomeAnd found (λ body. IsBufferKind body.kind))
is_buffer_in None = inr (λ h. h)
is_buffer_in (Some body) = is_buffer_kind body.kind

pub buffer_cases : (g : NamedGraph) (name : Name) → IsBuffer g name ⊎ ¬ (IsBuffer g name)
buffer_cases g name = is_buffer_in (map.get g.nodes name)

-- what stands at the name in both graphs is the same
pub same_buffer : (g h : NamedGraph) (name : Name) → map.get g.nodes name ≡ map.get h.nodes name → IsBuffer g name → IsBuffer h name
same_buffer g h name e = subst (λ found. IsSomeAnd found (λ body. IsBufferKind body.kind)) e

at_first : (p : Port) (name : Name) → p.node ≡ name → p.port ≡ 1 → p ≡ first_port name
at_first p name e f = λ i. record { node = e i; port = f i }

module _ (g : NamedGraph) (typed : IsTyped g) where
  -- a Buffer's only input and only output are its first ports
  pub buffer_input : (name : Name) → IsBuffer g name → (p q : Port) → map.get g.feeders p ≡ Some q → p.node ≡ name → p ≡ first_port name
  buffer_input name buffer p q wired at =
      let b = buffer_at g name buffer in
      let w = typed.wires p q wired in
      let same : w.to ≡ b.body = same_Some w.to b.body (sym w.is_to ∙ ap (map.get g.nodes) at ∙ b.is) in
      at_first p name at (single_port b.shape w.shape p.port (ap (λ kind. port_get (ins kind) p.port) (sym b.kind) ∙ ap (λ body. port_get (ins body.kind) p.port) (sym same) ∙ w.enters))

  pub buffer_output : (name : Name) → IsBuffer g name → (p q : Port) → map.get g.feeders p ≡ Some q → q.node ≡ name → q ≡ first_port name
  buffer_output name buffer p q wired at =
      let b = buffer_at g name buffer in
      let w = typed.wires p q wired in
      let same : w.from ≡ b.body = same_Some w.from b.body (sym w.is_from ∙ ap (map.get g.nodes) at ∙ b.is) in
      at_first q name at (single_port b.shape w.shape q.port (ap (λ kind. port_get (outs kind) q.port) (sym b.kind) ∙ ap (λ body. port_get (outs body.kind) q.port) (sym same) ∙ w.leaves))

  pub buffer_feeds : (name : Name) → IsBuffer g name → (target : Port) × (map.get g.feeders target ≡ Some (first_port name))
  buffer_feeds name buffer =
      let b = buffer_at g name buffer in
      typed.outputs (first_port name) b.body b.shape b.is (ap (λ kind. port_get (outs kind) 1) b.kind)

  pub buffer_fed : (name : Name) → IsBuffer g name → (source : Port) × (map.get g.feeders (first_port name) ≡ Some source)
  buffer_fed name buffer =
      let b = buffer_at g name buffer in
      typed.inputs (first_port name) b.body b.shape b.is (ap (λ kind. port_get (ins kind) 1) b.kind)

-- h is g without the Buffer b: what fed it feeds what it fed
pub record Bypasses (g : NamedGraph) (b : Name) (h : NamedGraph) : Type 0 where
  pub buffer : IsBuffer g b
  pub source : Port
  pub target : Port
  pub fed : map.get g.feeders (first_port b) ≡ Some source
  pub feeds : map.get g.feeders target ≡ Some (first_port b)
  pub other_source : source.node ≢ b
  pub node_gone : map.get h.nodes b ≡ None
  pub node_kept : (name : Name) → name ≢ b → map.get h.nodes name ≡ map.get g.nodes name
  pub wire_kept : (p q : Port) → p.node ≢ b → q.node ≢ b → map.get g.feeders p ≡ Some q → map.get h.feeders p ≡ Some q
  pub wire_moved : (p : Port) → map.get g.feeders p ≡ Some (first_port b) → map.get h.feeders p ≡ Some source
  pub wire_from : (p q : Port) → map.get h.feeders p ≡ Some q →
      (p.node ≢ b) × (q.node ≢ b) × ((map.get g.feeders p ≡ Some q) ⊎ ((map.get g.feeders p ≡ Some (first_port b)) × (q ≡ source)))

pub node_other : {g : NamedGraph} {b : Name} {h : NamedGraph} → Bypasses g b h → (name : Name) (body : Body) → map.get h.nodes name ≡ Some body → name ≢ b
node_other {h = h} past name body found is = none-some body (sym past.node_gone ∙ ap (map.get h.nodes) (sym is) ∙ found)

module _ (g : NamedGraph) (typed : IsTyped g) (b : Name) (h : NamedGraph) (drop : Drops g b h) where
  is_far : Port → Bool
  is_far p = not (is_of b (Some p) || is_of b (map.get g.feeders p))

  feeder_after : (p : Port) → p ≢ drop.without.target → map.get h.feeders p ≡ cond (is_far p) (map.get g.feeders p) None
  unfolding is_far
  feeder_after p apart =
      ap (λ (z : NamedGraph). map.get z.feeders p) drop.without.is
      ∙ get_not_inserted port_total port_same (without_node g b).feeders drop.without.target drop.without.can.before p apart
      ∙ get_retained port_total port_same g.feeders _ p

  feeder_moved : (p : Port) → p ≡ drop.without.target → map.get h.feeders p ≡ Some drop.without.can.before
  feeder_moved p is =
      ap (λ (z : NamedGraph). map.get z.feeders p) drop.without.is ∙ get_inserted port_total port_same (without_node g b).feeders drop.without.target drop.without.can.before p is

  other_name : (name : Name) → bytes_eq name b ≡ false → name ≢ b
  other_name name e is = true≢false (sym (same_bytes name b is) ∙ e)

  moved_away : drop.without.target.node ≢ b
  moved_away is =
      let first : drop.without.target ≡ first_port b = buffer_input g typed b drop.buffer drop.without.target (first_port b) drop.without.after is in
      let same : first_port b ≡ drop.without.can.before = same_Some (first_port b) drop.without.can.before (sym drop.without.after ∙ ap (map.get g.feeders) first ∙ drop.without.can.is_before) in
      drop.without.can.other (sym (ap (λ (p : Port). p.node) same))

  kept : (p q : Port) → p.node ≢ b → q.node ≢ b → map.get g.feeders p ≡ Some q → map.get h.feeders p ≡ Some q
  unfolding is_far
  kept p q other_p other_q wired =
      let apart : p ≢ drop.without.target = λ is. other_q (ap (λ (z : Port). z.node) (same_Some q (first_port b) (sym wired ∙ ap (map.get g.feeders) is ∙ drop.without.after))) in
      let far : is_far p ≡ true = not_from_false (is_of b (Some p) || is_of b (map.get g.feeders p)) (or_from (is_of b (Some p)) (is_of b (map.get g.feeders p)) (other_bytes p.node b other_p) (ap (is_of b) wired ∙ other_bytes q.node b other_q)) in
      feeder_after p apart ∙ ap (λ t. cond t (map.get g.feeders p) None) far ∙ wired

  from_far : (p q : Port) → (is_far p ≡ true) × (map.get g.feeders p ≡ Some q) → (p.node ≢ b) × (q.node ≢ b)
  unfolding is_far
  from_far p q far =
      let tests = or_parts (is_of b (Some p)) (is_of b (map.get g.feeders p)) (not-true (is_of b (Some p) || is_of b (map.get g.feeders p)) far.0) in
      (other_name p.node tests.0, other_name q.node (sym (ap (is_of b) far.1) ∙ tests.1))

  comes_from : (p q : Port) → map.get h.feeders p ≡ Some q →
      (p.node ≢ b) × (q.node ≢ b) × ((map.get g.feeders p ≡ Some q) ⊎ ((map.get g.feeders p ≡ Some (first_port b)) × (q ≡ drop.without.can.before)))
  comes_from p q wired =
      elim (port_cases p drop.without.target) [
        | inl is ↦
            let same : q ≡ drop.without.can.before = same_Some q drop.without.can.before (sym wired ∙ feeder_moved p is) in
            (λ e. moved_away (sym (ap (λ (z : Port). z.node) is) ∙ e), λ e. drop.without.can.other (sym (ap (λ (z : Port). z.node) same) ∙ e), inr (ap (map.get g.feeders) is ∙ drop.without.after, same))
        | inr apart ↦
            let far = found_if (is_far p) (map.get g.feeders p) q (sym (feeder_after p apart) ∙ wired) in
            let others = from_far p q far in
            (others.0, others.1, inl far.1)
      ]

  pub drops_bypasses : Bypasses g b h
  drops_bypasses =
      record {
        buffer = drop.buffer;
        source = drop.without.can.before;
        target = drop.without.target;
        fed = drop.without.can.is_before;
        feeds = drop.without.after;
        other_source = drop.without.can.other;
        node_gone = ap (λ (z : NamedGraph). map.get z.nodes b) drop.without.is ∙ get_removed name_total name_same g.nodes b;
        node_kept = λ name other. ap (λ (z : NamedGraph). map.get z.nodes name) drop.without.is ∙ get_not_removed name_total name_same g.nodes b name other;
        wire_kept = kept;
        wire_moved = λ p feeds. feeder_moved p (typed.once p drop.without.target (first_port b) feeds drop.without.after);
        wire_from = comes_from;
      }

-- what the Buffer takes and what it gives have one shape
one_shape : (kind : Kind) (shape taken given : Shape) → kind ≡ Buffer shape → port_get (ins kind) 1 ≡ Some taken → port_get (outs kind) 1 ≡ Some given → taken ≡ given
one_shape kind shape taken given is e f =
    let e' : Some shape ≡ Some taken = ap (λ k. port_get (ins k) 1) (sym is) ∙ e in
    let f' : Some shape ≡ Some given = ap (λ k. port_get (outs k) 1) (sym is) ∙ f in
    same_Some taken given (sym e' ∙ f')

module _ (g : NamedGraph) (typed : IsTyped g) (b : Name) (h : NamedGraph) (past : Bypasses g b h) where
  was_node : (name : Name) (body : Body) → map.get h.nodes name ≡ Some body → map.get g.nodes name ≡ Some body
  was_node name body found = sym (past.node_kept name (node_other past name body found)) ∙ found

  wire_past : (target : Port) → target.node ≢ b → map.get g.feeders target ≡ Some (first_port b) → IsWire h past.source target
  wire_past target other feeds =
      let buffer = buffer_at g b past.buffer in
      let w = typed.wires (first_port b) past.source past.fed in
      let v = typed.wires target (first_port b) feeds in
      let same_w : w.to ≡ buffer.body = same_Some w.to buffer.body (sym w.is_to ∙ buffer.is) in
      let same_v : v.from ≡ buffer.body = same_Some v.from buffer.body (sym v.is_from ∙ buffer.is) in
      let shapes : w.shape ≡ v.shape = one_shape buffer.body.kind buffer.shape w.shape v.shape buffer.kind
      (ap (λ (z : Body). port_get (ins z.kind) 1) (sym same_w) ∙ w.enters)
      (ap (λ (z : Body). port_get (outs z.kind) 1) (sym same_v) ∙ v.leaves) in
      record {
        from = w.from;
        to = v.to;
        shape = v.shape;
        is_from = past.node_kept past.source.node past.other_source ∙ w.is_from;
        is_to = past.node_kept target.node other ∙ v.is_to;
        leaves = w.leaves ∙ ap Some shapes;
        enters = v.enters;
      }

  wires_after : (target source : Port) → map.get h.feeders target ≡ Some source → IsWire h source target
  wires_after target source wired =
      let was = past.wire_from target source wired in
      elim (was.2) [
        | inl e ↦
            let w = typed.wires target source e in
            record {
              from = w.from;
              to = w.to;
              shape = w.shape;
              is_from = past.node_kept source.node was.1 ∙ w.is_from;
              is_to = past.node_kept target.node was.0 ∙ w.is_to;
              leaves = w.leaves;
              enters = w.enters;
            }
        | inr e ↦ subst (λ z. IsWire h z target) (sym e.1) (wire_past target was.0 e.0)
      ]

  inputs_after : (p : Port) (body : Body) (shape : Shape) → map.get h.nodes p.node ≡ Some body → port_get (ins body.kind) p.port ≡ Some shape → (source : Port) × (map.get h.feeders p ≡ Some source)
  inputs_after p body shape found has =
      let (source, wired) = typed.inputs p body shape (was_node p.node body found) has in
      elim (name_cases source.node b) [
        | inl is ↦ (past.source, past.wire_moved p (wired ∙ ap Some (buffer_output g typed b past.buffer p source wired is)))
        | inr other ↦ (source, past.wire_kept p source (node_other past p.node body found) other wired)
      ]

  outputs_after : (p : Port) (body : Body) (shape : Shape) → map.get h.nodes p.node ≡ Some body → port_get (outs body.kind) p.port ≡ Some shape → (target : Port) × (map.get h.feeders target ≡ Some p)
  outputs_after p body shape found has =
      let (target, wired) = typed.outputs p body shape (was_node p.node body found) has in
      elim (name_cases target.node b) [
        | inl is ↦
            let first = buffer_input g typed b past.buffer target p wired is in
            (past.target, past.wire_moved past.target past.feeds ∙ sym past.fed ∙ ap (map.get g.feeders) (sym first) ∙ wired)
        | inr other ↦ (target, past.wire_kept target p other (node_other past p.node body found) wired)
      ]

  -- only the Buffer's input is fed by what feeds it
  only_fed : (p q source : Port) → map.get h.feeders p ≡ Some source → map.get g.feeders p ≡ Some source → source ≡ past.source → p ≡ q
  only_fed p q source after wired is =
      let first : p ≡ first_port b = typed.once p (first_port b) source wired (past.fed ∙ ap Some (sym is)) in
      absurd ((past.wire_from p source after).0 (ap (λ (z : Port). z.node) first))

  once_after : (p q source : Port) → map.get h.feeders p ≡ Some source → map.get h.feeders q ≡ Some source → p ≡ q
  once_after p q source at_p at_q =
      elim ((past.wire_from p source at_p).2) [
        | inl e ↦
            elim ((past.wire_from q source at_q).2) [
              | inl f ↦ typed.once p q source e f
              | inr f ↦ only_fed p q source at_p e f.1
            ]
        | inr e ↦
            elim ((past.wire_from q source at_q).2) [
              | inl f ↦ sym (only_fed q p source at_q f e.1)
              | inr f ↦ typed.once p q (first_port b) e.0 f.0
            ]
      ]

  pub typed_after : IsTyped h
  typed_after =
      record {
        kinds = λ name body found. typed.kinds name body (was_node name body found);
        wires = wires_after;
        inputs = inputs_after;
        outputs = outputs_after;
        once = once_after;
      }

-- the turn of one node keeps a graph typed
pub turn_typed : (g h : NamedGraph) (name : Name) → IsTyped g → Turn g name h → IsTyped h
turn_typed g h name typed (inl stays) = subst IsTyped stays.1 typed
turn_typed g h name typed (inr drop) = typed_after g typed name h (drops_bypasses g typed name h drop)
