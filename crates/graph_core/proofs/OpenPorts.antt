-- When a node has no open port, which of its open ports is the first, and when a graph is typed.
use Rattle.std.proofs.Common.{◌≡◌, inl, inr, ℕ, ◌<◌, length, Some, None, is_some, Result, Ok, Err, IsOk, IsErr, refl, sym, ap, subst, ◌∙◌, true≢false}
use Rattle.std.specs.FinMap as finite
use Rattle.port_types.specs.declared.side.Side.{Side}
use Rattle.port_types.specs.declared.side.Side.TheVariants.{Ins, Outs}
use Rattle.components.specs.declared.node.Node.{Node}
use Rattle.components.specs.Name.{Port, port_get}
use Rattle.components.specs.Kind.{Shape, ins, outs, ports}
use Rattle.components.specs.Node.{Body, body_of}
use Rattle.components.specs.NamedGraph.{IsTyped}
use Rattle.std.proofs.lemmas.Option.{same_Some, none-some}
use Rattle.components.specs.Numbered.{Within, within, there}
use Rattle.graph_core.specs.declared.graph.PortOpen.{PortOpen}
use Rattle.graph_core.specs.declared.place.NodeId.{NodeId}
use Rattle.graph_core.specs.GraphValue.{GraphValue, Denotes, IsGraph, IsNodeAt, port_of}
use Rattle.graph_core.specs.Wiring.{HasShape, IsWired}
use Rattle.graph_core.specs.Open.{port_at, ComesBefore, IsOpen, IsFirstOpen, AreWired, IsFirstFree, IsClosed, IsFirstOpenAt}
use Rattle.graph_core.specs.Denoting.{port_denoted, denoted_by}
use Rattle.graph_core.proofs.Link.{there_is}

module _ (g : GraphValue) (id : NodeId) (node : Node) (at : IsNodeAt g id node) where
  named : (k : ℕ) → port_of g (port_at id k) ≡ record { node = node.name; port = k }
  named k = port_denoted g (port_at id k) node.name at.denotes

  number : (side : Side) (k : ℕ) (shape : Shape) → HasShape g.graph side (port_of g (port_at id k)) shape → Within (ports node.kind side) k
  number side k shape (body, found, shaped) =
      let is : body ≡ body_of node = same_Some _ _ (sym found ∙ ap (λ (p : Port). finite.get g.graph.nodes p.node) (named k) ∙ at.body) in
      within (ports node.kind side) k (ap is_some (sym (ap (λ (b : Body). port_get (ports b.kind side) k) is) ∙ shaped))

  wired_each : AreWired g Ins id (length (ins node.kind)) → AreWired g Outs id (length (outs node.kind)) → (side : Side) → AreWired g side id (length (ports node.kind side))
  wired_each wired_ins wired_outs Ins = wired_ins
  wired_each wired_ins wired_outs Outs = wired_outs

  pub is_closed : AreWired g Ins id (length (ins node.kind)) → AreWired g Outs id (length (outs node.kind)) → IsClosed g id
  is_closed wired_ins wired_outs side k shape shaped = let n = number side k shape shaped in wired_each wired_ins wired_outs side k n.some n.few

  is_open_at : (side : Side) (port : ℕ) → IsFirstFree g side id (length (ports node.kind side)) port → IsOpen g (record { node = id; side = side; port = port })
  is_open_at side port found =
      let (shape, shaped) = there_is (port_get (ports node.kind side) port) (there (ports node.kind side) port (record { some = found.some; few = found.few })) in
      record { shape = shape; there = (body_of node, ap (λ (p : Port). finite.get g.graph.nodes p.node) (named port) ∙ at.body, shaped); free = found.free }

  free_at : (p : PortOpen) → p.node ≡ id → IsOpen g p → (¬ (IsWired g.graph p.side (port_of g (port_at id p.port)))) × Within (ports node.kind p.side) p.port
  free_at p is is_open = (
    subst (λ i. ¬ (IsWired g.graph p.side (port_of g (port_at i p.port)))) is is_open.free,
    number p.side p.port is_open.shape (subst (λ i. HasShape g.graph p.side (port_of g (port_at i p.port)) is_open.shape) is is_open.there),
  )

  pub is_first_in : (port : ℕ) → IsFirstFree g Ins id (length (ins node.kind)) port → IsFirstOpenAt g id (record { node = id; side = Ins; port = port })
  is_first_in port found = record { at = refl; is_open = is_open_at Ins port found; first = λ other is is_open before. let f = free_at other is is_open in first other.side other.port f.0 f.1 before }
    where
      first : (side : Side) (k : ℕ) → ¬ (IsWired g.graph side (port_of g (port_at id k))) → Within (ports node.kind side) k → ¬ (ComesBefore side k Ins port)
      first Ins k free number before = free (found.first k number.some before)
      first Outs k free number before = before

  pub is_first_out : (port : ℕ) → AreWired g Ins id (length (ins node.kind)) → IsFirstFree g Outs id (length (outs node.kind)) port → IsFirstOpenAt g id (record { node = id; side = Outs; port = port })
  is_first_out port wired found = record { at = refl; is_open = is_open_at Outs port found; first = λ other is is_open before. let f = free_at other is is_open in first other.side other.port f.0 f.1 before }
    where
      first : (side : Side) (k : ℕ) → ¬ (IsWired g.graph side (port_of g (port_at id k))) → Within (ports node.kind side) k → ¬ (ComesBefore side k Outs port)
      first Ins k free number before = free (wired k number.some number.few)
      first Outs k free number before = free (found.first k number.some before)

module _ (g : GraphValue) (is : IsGraph g) where
  -- a port that is there is one of a live id
  there_denoted : (side : Side) (id : NodeId) (k : ℕ) (shape : Shape) → HasShape g.graph side (port_of g (port_at id k)) shape → Denotes g id (port_of g (port_at id k)).node
  there_denoted side id k shape (body, found, shaped) = denoted_by g is (port_at id k) (port_of g (port_at id k)).node body found refl

  -- no port of an id that is not live is there
  pub dead_closed : (id : NodeId) → finite.get g.ids id ≡ None → IsClosed g id
  dead_closed id dead side k shape shaped = absurd (none-some _ (sym (sym (there_denoted side id k shape shaped) ∙ dead)))

  pub typed_where_closed : ((id : NodeId) → id.index < g.slots → IsClosed g id) → IsTyped g.graph
  typed_where_closed closed =
      record {
        kinds = is.graph.kinds;
        wires = is.graph.wires;
        inputs = λ p body shape found shaped. wired Ins p body shape found shaped;
        outputs = λ p body shape found shaped. wired Outs p body shape found shaped;
        once = is.graph.once;
      }
    where
      wired : (side : Side) (p : Port) (body : Body) (shape : Shape) → finite.get g.graph.nodes p.node ≡ Some body → port_get (ports body.kind side) p.port ≡ Some shape → IsWired g.graph side p
      wired side p body shape found shaped =
          let (id, denotes) = is.live p.node body found in
          let same : port_of g (port_at id p.port) ≡ p = port_denoted g (port_at id p.port) p.node denotes in
          subst (IsWired g.graph side) same (closed id (is.within id p.node denotes) side p.port shape (subst (λ q. HasShape g.graph side q shape) (sym same) (body, found, shaped)))

  pub no_open_port : IsTyped g.graph → (p : PortOpen) → ¬ (IsOpen g p)
  no_open_port typed p is_open = is_open.free (wired p.side (port_of g (port_at p.node p.port)) is_open.there)
    where
      wired : (side : Side) (q : Port) → HasShape g.graph side q is_open.shape → IsWired g.graph side q
      wired Ins q (body, found, shaped) = typed.inputs q body is_open.shape found shaped
      wired Outs q (body, found, shaped) = typed.outputs q body is_open.shape found shaped

  pub first_of_all : (id : NodeId) (p : PortOpen) → ((other : NodeId) → other.index < id.index → IsClosed g other) → IsFirstOpenAt g id p → IsFirstOpen g p
  first_of_all id p closed found =
      record {
        is_open = found.is_open;
        first = λ other is_open before. elim before [
          | inl lower ↦ is_open.free (closed other.node (subst (λ (i : NodeId). other.node.index < i.index) found.at lower) other.side other.port is_open.shape is_open.there)
          | inr same ↦ found.first other (same.0 ∙ found.at) is_open same.1
        ];
      }

pub not_both : {A E : Type 0} (r : Result A E) → IsErr r → IsOk r → ⊥
not_both (Ok x) err ok = true≢false (sym err)
not_both (Err e) err ok = true≢false (sym ok)
