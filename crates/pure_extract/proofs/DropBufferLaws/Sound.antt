-- The rule drop_buffer meets what a rule owes, matches where it was made, and there leaves out its node.
use Rattle.std.proofs.Common.{◌≡◌, ◌≢◌, inl, inr, ℕ, false, if◌then◌else◌, [], ◌∷◌, Option, Some, None, refl, sym, ap, subst, ◌∙◌}
use Rattle.std.specs.FinMap as map
use Rattle.std.proofs.lemmas.Option.{none-some, same_Some}
use Rattle.port_types.specs.Shape.{IsShape}
use Rattle.components.specs.declared.kind.Kind.{Kind}
use Rattle.components.specs.declared.kind.Kind.TheVariants.{Entry, Exit, Buffer, Fork}
use Rattle.components.specs.Name.{Name, Port, name_cmp, port_cmp, port_get}
use Rattle.components.specs.Kind.{Shape, ins, outs, KindOk}
use Rattle.components.specs.Node.{Body}
use Rattle.components.specs.NamedGraph.{NamedGraph, IsWire, IsTyped, with_wire, without_node}
use Rattle.components.specs.Lookups.{get_inserted, get_not_inserted}
use Rattle.components.specs.Numbered.{single_port}
use Rattle.components.specs.Orders.{name_total, name_same, name_cases, port_total, port_same, port_cases, same_bytes, other_bytes}
use Rattle.circuits.specs.Circuit.{circuit_of, kind_of_body}
use Rattle.circuits.specs.Refines.{Refines}
use Rattle.circuits.specs.Buffers.{first_port, drop_node, IsBufferLike, CanDropBuffer, IsWithoutBuffer}
use Rattle.circuits.specs.BufferRule.{bare, straight, passing}
use Rattle.circuits.specs.Replacing.{is_inner}
use Rattle.circuits.specs.ReplacedGraph.{has_inner, replaced_graph, Matches, IsRule}
use Rattle.circuits.specs.Laws.{CircuitIsTyped, GraphIsTyped, DropRefines, BufferRuleMatches, DropIsReplacement}
use Rattle.subst_engine.specs.Rule.{NamedRule}
use Rattle.pure_extract.specs.DropBuffer.{passed_shape, entry_name, exit_name, DropBufferIsSound, DropBufferMatches, DropBufferLeavesOut, DropBufferTakesOne}
use Rattle.pure_extract.proofs.Inserted.{each_empty, each_inserted}
use Rattle.pure_extract.proofs.DropBufferLaws.EndNames.{entry_other, exit_other, ends_apart}

-- what a node that passes tokens on has at its ports
pub record OnePort (kind : Kind) (shape : Shape) : Type 0 where
  pub input : ins kind ≡ shape ∷ []
  pub output : outs kind ≡ shape ∷ []
  pub like : IsBufferLike kind
  pub ok : KindOk kind
  pub is_shape : IsShape shape

pub one_port : (kind : Kind) → IsBufferLike kind → KindOk kind → OnePort kind (passed_shape kind)
one_port (Buffer shape) like ok = record { input = refl; output = refl; like = like; ok = ok; is_shape = ok }
one_port (Fork shape count) like ok = record { input = refl; output = ap (λ n. outs (Fork shape n)) like; like = like; ok = ok; is_shape = ok.0 }
one_port _ like ok = absurd like

module _ (entry b exit : Name) (kind : Kind) (shape : Shape) (one : OnePort kind shape) (before : entry ≢ b) (after : exit ≢ b) (apart : exit ≢ entry) where
  abbrev left : NamedGraph
  left = passing entry b exit kind shape

  abbrev right : NamedGraph
  right = straight entry exit shape

  -- its nodes
  abbrev last : map.FinMap name_cmp Body
  last = map.insert map.empty exit (bare (Exit shape))

  abbrev last_two : map.FinMap name_cmp Body
  last_two = map.insert last b (bare kind)

  entry_at : map.get left.nodes entry ≡ Some (bare (Entry shape))
  entry_at = get_inserted name_total name_same last_two entry (bare (Entry shape)) entry refl

  b_at : map.get left.nodes b ≡ Some (bare kind)
  b_at = get_not_inserted name_total name_same last_two entry (bare (Entry shape)) b (λ e. before (sym e)) ∙ get_inserted name_total name_same last b (bare kind) b refl

  exit_at : map.get left.nodes exit ≡ Some (bare (Exit shape))
  exit_at =
      get_not_inserted name_total name_same last_two entry (bare (Entry shape)) exit apart
      ∙ get_not_inserted name_total name_same last b (bare kind) exit after ∙ get_inserted name_total name_same map.empty exit (bare (Exit shape)) exit refl

  each_node : (P : Name → Body → Type 0) → P entry (bare (Entry shape)) → P b (bare kind) → P exit (bare (Exit shape)) →
      (n : Name) (body : Body) → map.get left.nodes n ≡ Some body → P n body
  each_node P at_entry at_b at_exit =
      each_inserted P name_total name_same last_two entry (bare (Entry shape)) at_entry
      (each_inserted P name_total name_same last b (bare kind) at_b
      (each_inserted P name_total name_same map.empty exit (bare (Exit shape)) at_exit (each_empty name_cmp P)))

  -- its wires
  abbrev out_of_b : map.FinMap port_cmp Port
  out_of_b = map.insert map.empty (first_port exit) (first_port b)

  name_of : (n m : Name) → first_port n ≡ first_port m → n ≡ m
  name_of n m e = ap (λ (p : Port). p.node) e

  b_fed : map.get left.feeders (first_port b) ≡ Some (first_port entry)
  b_fed = get_inserted port_total port_same out_of_b (first_port b) (first_port entry) (first_port b) refl

  exit_fed : map.get left.feeders (first_port exit) ≡ Some (first_port b)
  exit_fed =
      get_not_inserted port_total port_same out_of_b (first_port b) (first_port entry) (first_port exit) (λ e. after (name_of exit b e))
      ∙ get_inserted port_total port_same map.empty (first_port exit) (first_port b) (first_port exit) refl

  each_wire : (P : Port → Port → Type 0) → P (first_port b) (first_port entry) → P (first_port exit) (first_port b) →
      (p q : Port) → map.get left.feeders p ≡ Some q → P p q
  each_wire P into_b into_exit =
      each_inserted P port_total port_same out_of_b (first_port b) (first_port entry) into_b
      (each_inserted P port_total port_same map.empty (first_port exit) (first_port b) into_exit (each_empty port_cmp P))

  pub wire_in : IsWire left (first_port entry) (first_port b)
  wire_in =
      record { from = bare (Entry shape); to = bare kind; shape = shape; is_from = entry_at; is_to = b_at; leaves = refl; enters = ap (λ x. port_get x 1) one.input }

  pub wire_out : IsWire left (first_port b) (first_port exit)
  wire_out =
      record { from = bare kind; to = bare (Exit shape); shape = shape; is_from = b_at; is_to = exit_at; leaves = ap (λ x. port_get x 1) one.output; enters = refl }

  -- each port is on one of them
  abbrev IsFed : Name → Body → Type 0
  IsFed n body = (i : ℕ) (a : Shape) → port_get (ins body.kind) i ≡ Some a → (q : Port) × (map.get left.feeders (record { node = n; port = i }) ≡ Some q)

  fed : (n : Name) (body : Body) → ins body.kind ≡ shape ∷ [] → (q : Port) → map.get left.feeders (first_port n) ≡ Some q → IsFed n body
  fed n body has q wired i a e =
      (q, ap (λ j. map.get left.feeders (record { node = n; port = j })) (single_port shape a i (ap (λ x. port_get x i) (sym has) ∙ e)) ∙ wired)

  abbrev Feeds : Name → Body → Type 0
  Feeds n body = (i : ℕ) (a : Shape) → port_get (outs body.kind) i ≡ Some a → (p : Port) × (map.get left.feeders p ≡ Some (record { node = n; port = i }))

  feeds : (n : Name) (body : Body) → outs body.kind ≡ shape ∷ [] → (p : Port) → map.get left.feeders p ≡ Some (first_port n) → Feeds n body
  feeds n body has p wired i a e =
      (p, wired ∙ ap (λ j. Some (record { node = n; port = j })) (sym (single_port shape a i (ap (λ x. port_get x i) (sym has) ∙ e))))

  left_typed : IsTyped left
  left_typed =
      record {
        kinds = each_node (λ n body. KindOk body.kind) one.is_shape one.ok one.is_shape;
        wires = each_wire (λ p q. IsWire left q p) wire_in wire_out;
        inputs = λ p body a e f.
            each_node IsFed (λ i x none. absurd (none-some x none)) (fed b (bare kind) one.input (first_port entry) b_fed) (fed exit (bare (Exit shape)) refl (first_port b) exit_fed)
            p.node body e p.port a f;
        outputs = λ p body a e f.
            each_node Feeds (feeds entry (bare (Entry shape)) refl (first_port b) b_fed) (feeds b (bare kind) one.output (first_port exit) exit_fed) (λ i x none. absurd (none-some x none))
            p.node body e p.port a f;
        once = λ p r q e f. each_wire (λ x y. (z : Port) → map.get left.feeders z ≡ Some y → x ≡ z) from_entry from_b p q e r f;
      }
    where
      from_entry : (r : Port) → map.get left.feeders r ≡ Some (first_port entry) → first_port b ≡ r
      from_entry r e = each_wire (λ x y. y ≡ first_port entry → first_port b ≡ x) (λ _. refl) (λ is. absurd (before (name_of entry b (sym is)))) r (first_port entry) e refl

      from_b : (r : Port) → map.get left.feeders r ≡ Some (first_port b) → first_port exit ≡ r
      from_b r e = each_wire (λ x y. y ≡ first_port b → first_port exit ≡ x) (λ is. absurd (before (name_of entry b is))) (λ _. refl) r (first_port b) e refl

  no_through : (p q : Port) (x y : Shape) → map.get left.feeders p ≡ Some q → (circuit_of left).kind_at p.node ≡ Some (Exit x) → (circuit_of left).kind_at q.node ≡ Some (Entry y) → ⊥
  no_through p q x y e =
      each_wire (λ p q. (circuit_of left).kind_at p.node ≡ Some (Exit x) → (circuit_of left).kind_at q.node ≡ Some (Entry y) → ⊥)
      (λ to from. subst IsBufferLike (same_Some kind (Exit x) (sym (ap kind_of_body b_at) ∙ to)) one.like)
      (λ to from. subst IsBufferLike (same_Some kind (Entry y) (sym (ap kind_of_body b_at) ∙ from)) one.like) p q e

  -- without b, the Entry is wired to the Exit
  can_drop : CanDropBuffer (circuit_of left) b
  can_drop = record { kind = kind; is_kind = ap kind_of_body b_at; passes = one.like; before = first_port entry; is_before = b_fed; other = before }

  node_kept : (n : Name) → n ≢ b → map.get right.nodes n ≡ map.get left.nodes n
  node_kept n other =
      elim (name_cases n entry) [
        | inl is ↦ get_inserted name_total name_same last entry (bare (Entry shape)) n is ∙ sym (get_inserted name_total name_same last_two entry (bare (Entry shape)) n is)
        | inr no_entry ↦
            get_not_inserted name_total name_same last entry (bare (Entry shape)) n no_entry
            ∙ sym (get_not_inserted name_total name_same last_two entry (bare (Entry shape)) n no_entry ∙ get_not_inserted name_total name_same last b (bare kind) n other)
      ]

  node_gone : (n : Name) → n ≡ b → map.get right.nodes n ≡ None
  node_gone n is =
      get_not_inserted name_total name_same last entry (bare (Entry shape)) n (λ e. before (sym e ∙ is))
      ∙ get_not_inserted name_total name_same map.empty exit (bare (Exit shape)) n (λ e. after (sym e ∙ is)) ∙ map.get-empty name_cmp n

  kind_without : (n : Name) → (circuit_of right).kind_at n ≡ (drop_node b (circuit_of left)).kind_at n
  kind_without n =
      elim (name_cases n b) [
        | inl is ↦ ap kind_of_body (node_gone n is) ∙ sym (ap (λ t. if t then None else (circuit_of left).kind_at n) (same_bytes n b is))
        | inr other ↦ ap kind_of_body (node_kept n other) ∙ sym (ap (λ t. if t then None else (circuit_of left).kind_at n) (other_bytes n b other))
      ]

  fed_without : (p : Port) → p ≢ first_port exit → p.node ≢ b → map.get left.feeders p ≡ None
  fed_without p other away =
      get_not_inserted port_total port_same out_of_b (first_port b) (first_port entry) p (λ e. away (ap (λ (z : Port). z.node) e))
      ∙ get_not_inserted port_total port_same map.empty (first_port exit) (first_port b) p other ∙ map.get-empty port_cmp p

  feeder_without : (p : Port) → map.get right.feeders p ≡ (drop_node b (circuit_of left)).feeder p
  feeder_without p =
      elim (port_cases p (first_port exit)) [
        | inl is ↦
            let away : p.node ≢ b = λ e. after (sym (ap (λ (z : Port). z.node) is) ∙ e) in
            let was : map.get left.feeders p ≡ Some (first_port b) = ap (map.get left.feeders) is ∙ exit_fed in
            get_inserted port_total port_same map.empty (first_port exit) (first_port entry) p is
            ∙ rw (other_bytes p.node b away, was, same_bytes b b refl) (sym b_fed)
        | inr other ↦
            get_not_inserted port_total port_same map.empty (first_port exit) (first_port entry) p other ∙ map.get-empty port_cmp p
            ∙ elim (name_cases p.node b) [
              | inl is ↦ rw (same_bytes p.node b is)
              | inr away ↦ rw (other_bytes p.node b away, fed_without p other away)
            ]
      ]

  without_b : circuit_of right ≡ drop_node b (circuit_of left)
  without_b = λ i. record { kind_at = λ n. kind_without n i; feeder = λ p. feeder_without p i }

  module _ (circuit : CircuitIsTyped) (graph : GraphIsTyped) (drop : DropRefines) where
    refines : Refines (circuit_of right) (circuit_of left)
    refines = subst (λ c. Refines c (circuit_of left)) (sym without_b) (drop (circuit_of left) b (circuit left left_typed) can_drop)

    is_rule : IsRule left right
    is_rule = record { old_typed = left_typed; new_typed = graph right refines.new_typed; ports = refines.ports; no_through = no_through }

-- The laws

pub sound : CircuitIsTyped → GraphIsTyped → DropRefines → DropBufferIsSound
sound circuit graph drop b kind like ok =
    let one = one_port kind like ok in
    record {
      is_rule = is_rule (entry_name b) b (exit_name b) kind (passed_shape kind) one (entry_other b) (exit_other b) (ends_apart b) circuit graph drop;
      refines = refines (entry_name b) b (exit_name b) kind (passed_shape kind) one (entry_other b) (exit_other b) (ends_apart b) circuit graph drop;
    }

pub matches : BufferRuleMatches → DropBufferMatches
matches law g b rule typed is =
    subst (λ (r : NamedRule). Matches g r.left r.right) (sym is.is)
    (law g (entry_name b) b (exit_name b) (passed_shape is.can.kind) (entry_other b) (exit_other b) typed is.can)

-- what the node fed
feeds_one : CircuitIsTyped → (g : NamedGraph) (b : Name) → IsTyped g → (can : CanDropBuffer (circuit_of g) b) → (p : Port) × (map.get g.feeders p ≡ Some (first_port b))
feeds_one circuit g b typed can =
    let one = one_port can.kind can.passes ((circuit g typed).kinds b can.kind can.is_kind) in
    (circuit g typed).outputs (first_port b) can.kind (passed_shape can.kind) can.is_kind (ap (λ x. port_get x 1) one.output)

pub leaves_out : CircuitIsTyped → DropIsReplacement → DropBufferLeavesOut
leaves_out circuit law g b rule typed is =
    let (target, after) = feeds_one circuit g b typed is.can in
    let without : IsWithoutBuffer (with_wire (without_node g b) is.can.before target) g b = record { can = is.can; target = target; after = after; is = refl } in
    record {
      can = is.can;
      target = target;
      after = after;
      is = ap (λ (r : NamedRule). replaced_graph g r.left r.right) is.is
          ∙ sym (law (with_wire (without_node g b) is.can.before target) g (entry_name b) b (exit_name b) (passed_shape is.can.kind) (entry_other b) (exit_other b) typed without);
    }

-- the node is the one inner node
module _ (entry b exit : Name) (kind : Kind) (shape : Shape) where
  abbrev nodes : map.FinMap name_cmp Body
  nodes = (passing entry b exit kind shape).nodes

  abbrev IsNoInner : Name → Body → Type 0
  IsNoInner n body = n ≢ b → is_inner (Some body.kind) ≡ false

  each_other : (n : Name) (body : Body) → map.get nodes n ≡ Some body → IsNoInner n body
  each_other =
      each_inserted IsNoInner name_total name_same _ entry (bare (Entry shape)) (λ _. refl)
      (each_inserted IsNoInner name_total name_same _ b (bare kind) (λ away. absurd (away refl))
      (each_inserted IsNoInner name_total name_same map.empty exit (bare (Exit shape)) (λ _. refl) (each_empty name_cmp IsNoInner)))

  inner_alone : (n : Name) → n ≢ b → is_inner (kind_of_body (map.get nodes n)) ≡ false
  inner_alone n other = by_node (map.get nodes n) refl
    where
      by_node : (found : Option Body) → map.get nodes n ≡ found → is_inner (kind_of_body (map.get nodes n)) ≡ false
      by_node None e = ap (λ o. is_inner (kind_of_body o)) e
      by_node (Some body) e = ap (λ o. is_inner (kind_of_body o)) e ∙ each_other n body e other

pub takes_one : DropBufferTakesOne
takes_one g b rule is n other =
    subst (λ (r : NamedRule). has_inner r.left n ≡ false) (sym is.is) (inner_alone (entry_name b) b (exit_name b) is.can.kind (passed_shape is.can.kind) n other)
