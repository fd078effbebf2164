-- An Exit that is taken out, with a Buffer put in its place.
use Rattle.std.proofs.Common.{◌≡◌, ◌≢◌, inl, inr, Bool, true, false, cond, not, ◌||◌, Option, Some, None, refl, sym, ap, ◌∙◌, true≢false}
use Rattle.std.proofs.lemmas.Bool.{not-true, not_from_false, or_from, or_parts}
use Rattle.std.proofs.lemmas.Option.{none-some, same_Some}
use Rattle.std.specs.FinMap as finite
use Rattle.components.specs.declared.kind.Kind.TheVariants.{Exit}
use Rattle.components.specs.Kind.{Shape, ins, outs}
use Rattle.components.specs.Lookups.{found_if, get_inserted, get_not_inserted, get_not_removed, get_retained}
use Rattle.components.specs.Name.{Name, Port, port_get}
use Rattle.components.specs.Node.{Body}
use Rattle.components.specs.NamedGraph.{NamedGraph, CanWire, IsTyped, is_of, with_node, with_wire, without_node}
use Rattle.components.specs.Numbered.{single_port}
use Rattle.components.specs.Orders.{name_total, name_same, port_total, port_same, name_cases, port_cases, same_bytes, other_bytes}
use Rattle.circuits.specs.Buffers.{first_port}
use Rattle.circuits.specs.PluggedGraph.{buffer_body, buffer_kind}

-- wires of a graph without a node
module _ (g : NamedGraph) (name : Name) where
  is_far : Port → Bool
  is_far p = not (is_of name (Some p) || is_of name (finite.get g.feeders p))

  get_left : (p : Port) → finite.get (without_node g name).feeders p ≡ cond (is_far p) (finite.get g.feeders p) None
  unfolding is_far
  get_left p = get_retained port_total port_same g.feeders _ p

  -- a wire away from the node stays
  pub wire_left : (p source : Port) → finite.get g.feeders p ≡ Some source → p.node ≢ name → source.node ≢ name → finite.get (without_node g name).feeders p ≡ Some source
  unfolding is_far
  wire_left p source fed away other =
      let far : is_far p ≡ true = not_from_false _ (or_from (is_of name (Some p)) (is_of name (finite.get g.feeders p)) (other_bytes p.node name away) (ap (is_of name) fed ∙ other_bytes source.node name other)) in
      get_left p ∙ ap (λ t. cond t (finite.get g.feeders p) None) far ∙ fed

  -- and no other does
  pub was_wire : (p source : Port) → finite.get (without_node g name).feeders p ≡ Some source → (finite.get g.feeders p ≡ Some source) × (p.node ≢ name) × (source.node ≢ name)
  unfolding is_far
  was_wire p source found =
      let (far, was) = found_if (is_far p) (finite.get g.feeders p) source (sym (get_left p) ∙ found) in
      let (a, b) = or_parts (is_of name (Some p)) (is_of name (finite.get g.feeders p)) (not-true _ far) in (
        was,
        λ here. true≢false (sym (same_bytes p.node name here) ∙ a),
        λ here. true≢false (sym (same_bytes source.node name here) ∙ sym (ap (is_of name) was) ∙ b),
      )

  pub none_left : (p : Port) → finite.get g.feeders p ≡ None → finite.get (without_node g name).feeders p ≡ None
  none_left p none = get_left p ∙ either (is_far p) (finite.get g.feeders p) none
    where
      either : (b : Bool) (o : Option Port) → o ≡ None → cond b o None ≡ None
      either true o e = e
      either false o e = refl

  none_by : (p : Port) → ((source : Port) → finite.get (without_node g name).feeders p ≡ Some source → ⊥) → finite.get (without_node g name).feeders p ≡ None
  none_by p nothing = at (finite.get (without_node g name).feeders p) refl
    where
      at : (o : Option Port) → finite.get (without_node g name).feeders p ≡ o → o ≡ None
      at None e = refl
      at (Some source) e = absurd (nothing source e)

  pub none_into : (p : Port) → p.node ≡ name → finite.get (without_node g name).feeders p ≡ None
  none_into p here = none_by p (λ source found. (was_wire p source found).1 here)

  pub none_from : (p source : Port) → finite.get g.feeders p ≡ Some source → source.node ≡ name → finite.get (without_node g name).feeders p ≡ None
  none_from p source fed here =
      none_by p (λ other found. let (was, _, away) = was_wire p other found in away (ap (λ (q : Port). q.node) (same_Some other source (sym was ∙ fed)) ∙ here))

module _ (g : NamedGraph) (typed : IsTyped g) (name : Name) (body : Body) (found : finite.get g.nodes name ≡ Some body) (shape : Shape) (kind : body.kind ≡ Exit shape) where
  -- an Exit has one input and no output
  pub exit_input : (p source : Port) → finite.get g.feeders p ≡ Some source → p.node ≡ name → p ≡ first_port name
  exit_input p source fed here =
      let wire = typed.wires p source fed in
      let same : wire.to ≡ body = same_Some _ _ (sym wire.is_to ∙ ap (finite.get g.nodes) here ∙ found) in
      let port : p.port ≡ 1 = single_port shape wire.shape p.port (ap (λ k. port_get (ins k) p.port) (sym kind) ∙ ap (λ (b : Body). port_get (ins b.kind) p.port) (sym same) ∙ wire.enters) in
      λ i. record { node = here i; port = port i }

  pub exit_output : (p source : Port) → finite.get g.feeders p ≡ Some source → source.node ≢ name
  exit_output p source fed here =
      let wire = typed.wires p source fed in
      let same : wire.from ≡ body = same_Some _ _ (sym wire.is_from ∙ ap (finite.get g.nodes) here ∙ found) in
      none-some wire.shape (ap (λ k. port_get (outs k) source.port) (sym kind) ∙ ap (λ (b : Body). port_get (outs b.kind) source.port) (sym same) ∙ wire.leaves)

  abbrev pub buffered : NamedGraph
  buffered = with_node (without_node g name) name (buffer_body body)

  module _ (source : Port) (fed : finite.get g.feeders (first_port name) ≡ Some source) where
    -- what fed the Exit can feed the Buffer
    pub can_refeed : CanWire buffered source (first_port name)
    can_refeed =
        let wire = typed.wires (first_port name) source fed in
        let same : wire.to ≡ body = same_Some _ _ (sym wire.is_to ∙ found) in
        let shapes : shape ≡ wire.shape = same_Some shape wire.shape (ap (λ k. port_get (ins k) 1) (sym kind) ∙ ap (λ (b : Body). port_get (ins b.kind) 1) (sym same) ∙ wire.enters) in
        let away = exit_output (first_port name) source fed in
        record {
          wire = record {
            from = wire.from;
            to = buffer_body body;
            shape = wire.shape;
            is_from = get_not_inserted name_total name_same (without_node g name).nodes name (buffer_body body) source.node away ∙ get_not_removed name_total name_same g.nodes name source.node away ∙ wire.is_from;
            is_to = get_inserted name_total name_same (without_node g name).nodes name (buffer_body body) name refl;
            leaves = wire.leaves;
            enters = ap (λ k. port_get (ins (buffer_kind k)) 1) kind ∙ ap Some shapes;
          };
          target_free = none_into g name (first_port name) refl;
          source_free = λ p wired.
              let (was, other, _) = was_wire g name p source wired in
              other (ap (λ (q : Port). q.node) (typed.once p (first_port name) source was fed));
        }

    -- so all wires are back
    pub refed : with_wire buffered source (first_port name) ≡ with_node g name (buffer_body body)
    refed =
        let nodes : (with_wire buffered source (first_port name)).nodes ≡ (with_node g name (buffer_body body)).nodes =
        finite.same_map name_total name_same _ _ (λ n. elim (name_cases n name) [
          | inl one ↦ get_inserted name_total name_same (without_node g name).nodes name (buffer_body body) n one ∙ sym (get_inserted name_total name_same g.nodes name (buffer_body body) n one)
          | inr two ↦
              get_not_inserted name_total name_same (without_node g name).nodes name (buffer_body body) n two ∙ get_not_removed name_total name_same g.nodes name n two
              ∙ sym (get_not_inserted name_total name_same g.nodes name (buffer_body body) n two)
        ]) in
        let feeders : (with_wire buffered source (first_port name)).feeders ≡ g.feeders =
        finite.same_map port_total port_same _ _ (λ p. elim (port_cases p (first_port name)) [
          | inl one ↦ get_inserted port_total port_same (without_node g name).feeders (first_port name) source p one ∙ sym fed ∙ ap (finite.get g.feeders) (sym one)
          | inr two ↦ get_not_inserted port_total port_same (without_node g name).feeders (first_port name) source p two ∙ elsewhere p two (finite.get g.feeders p) refl
        ]) in
        λ i. record { nodes = nodes i; feeders = feeders i }
      where
        elsewhere : (p : Port) → p ≢ first_port name → (o : Option Port) → finite.get g.feeders p ≡ o → finite.get (without_node g name).feeders p ≡ o
        elsewhere p other None e = none_left g name p e
        elsewhere p other (Some q) e = wire_left g name p q e (λ here. other (exit_input p q e here)) (exit_output p q e)
