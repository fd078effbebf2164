-- A Buffer that is dropped, or a Fork of one output, is replaced by the rule that leaves it out, and the rule matches there.
use Rattle.std.proofs.Common.{◌≡◌, ◌≢◌, ◌⊎◌, inl, inr, refl, sym, ap, ◌∙◌, true, false, bytes_eq, if◌then◌else◌, Option, Some, None, true≢false}
use Rattle.std.specs.FinMap as map
use Rattle.std.proofs.lemmas.Option.{none-some, same_Some}
use Rattle.components.specs.declared.kind.Kind.{Kind}
use Rattle.components.specs.declared.kind.Kind.TheVariants.{Entry, Exit, Buffer, Fork}
use Rattle.components.specs.Name.{Name, Port, name_cmp, port_cmp}
use Rattle.components.specs.Kind.{Shape}
use Rattle.components.specs.Node.{Body}
use Rattle.components.specs.NamedGraph.{NamedGraph, IsTyped}
use Rattle.components.specs.Lookups.{get_inserted, get_not_inserted, get_removed, get_not_removed}
use Rattle.components.specs.Orders.{name_total, name_same, port_total, port_same, port_cases, other_bytes}
use Rattle.circuits.specs.Circuit.{Circuit, circuit_of, kind_of_body}
use Rattle.circuits.specs.Buffers.{first_port, bypass, IsBufferLike, CanDropBuffer, IsWithoutBuffer}
use Rattle.circuits.specs.Replacing.{is_inner, is_entry, follow}
use Rattle.circuits.specs.ReplacedGraph.{has_inner, consumer, new_source, kept_source, replaced_graph, Matches}
use Rattle.circuits.specs.BufferRule.{bare, straight, passing}
use Rattle.circuits.proofs.Names.{name_cases}
use Rattle.circuits.proofs.GraphCircuits.{circuit_typed}
use Rattle.circuits.proofs.Buffers.Circuits.{out_is, in_is, can_drop_of}
use Rattle.circuits.proofs.Buffers.Graphs.{without_circuit}
use Rattle.circuits.proofs.ReplacedGraph.Lookups.{node_at, feeder_at}
use Rattle.circuits.proofs.ReplacedGraph.Consumers.{found_consumer}

-- the kind of a node that is found
abbrev kind_in : map.FinMap name_cmp Body → Name → Option Kind
kind_in m n = kind_of_body (map.get m n)

put_here : (m : map.FinMap name_cmp Body) (k : Name) (body : Body) (n : Name) → n ≡ k → kind_in (map.insert m k body) n ≡ Some body.kind
put_here m k body n is = ap kind_of_body (get_inserted name_total name_same m k body n is)

put_elsewhere : (m : map.FinMap name_cmp Body) (k : Name) (body : Body) (n : Name) → n ≢ k → kind_in (map.insert m k body) n ≡ kind_in m n
put_elsewhere m k body n other = ap kind_of_body (get_not_inserted name_total name_same m k body n other)

is_inner_kind : (k : Kind) → IsBufferLike k → is_inner (Some k) ≡ true
is_inner_kind (Buffer a) h = refl
is_inner_kind (Fork a count) h = refl
is_inner_kind _ h = absurd h

module _ (entry b exit : Name) (kind : Kind) (shape : Shape) (passes : IsBufferLike kind) (before : entry ≢ b) (after : exit ≢ b) where
  abbrev left : NamedGraph
  left = passing entry b exit kind shape

  abbrev right : NamedGraph
  right = straight entry exit shape

  -- the node b is the one inner node

  abbrev last : map.FinMap name_cmp Body
  last = map.insert map.empty exit (bare (Exit shape))

  abbrev last_two : map.FinMap name_cmp Body
  last_two = map.insert last b (bare kind)

  exit_no_inner : (n : Name) → is_inner (kind_in last n) ≡ false
  exit_no_inner n =
      elim (name_cases n exit) [
        | inl same ↦ ap is_inner (put_here map.empty exit (bare (Exit shape)) n same.is)
        | inr other ↦ ap is_inner (put_elsewhere map.empty exit (bare (Exit shape)) n other.is_not ∙ ap kind_of_body (map.get-empty name_cmp n))
      ]

  no_inner : (n : Name) → has_inner right n ≡ false
  no_inner n =
      elim (name_cases n entry) [
        | inl same ↦ ap is_inner (put_here last entry (bare (Entry shape)) n same.is)
        | inr other ↦ ap is_inner (put_elsewhere last entry (bare (Entry shape)) n other.is_not) ∙ exit_no_inner n
      ]

  b_inner : (n : Name) → is_inner (kind_in last_two n) ≡ bytes_eq n b
  b_inner n =
      elim (name_cases n b) [
        | inl same ↦ ap is_inner (put_here last b (bare kind) n same.is) ∙ is_inner_kind kind passes ∙ sym same.test
        | inr other ↦ ap is_inner (put_elsewhere last b (bare kind) n other.is_not) ∙ exit_no_inner n ∙ sym other.test
      ]

  one_inner : (n : Name) → has_inner left n ≡ bytes_eq n b
  one_inner n =
      elim (name_cases n entry) [
        | inl same ↦ ap is_inner (put_here last_two entry (bare (Entry shape)) n same.is) ∙ sym (other_bytes n b (λ is. before (sym same.is ∙ is)))
        | inr other ↦ ap is_inner (put_elsewhere last_two entry (bare (Entry shape)) n other.is_not) ∙ b_inner n
      ]

  -- the two wires of left

  abbrev out_of_b : map.FinMap port_cmp Port
  out_of_b = map.insert map.empty (first_port exit) (first_port b)

  abbrev TheWires : Port → Port → Type 0
  TheWires p q = ((p ≡ first_port b) × (q ≡ first_port entry)) ⊎ ((p ≡ first_port exit) × (q ≡ first_port b))

  second_wire : (p q : Port) → map.get out_of_b p ≡ Some q → TheWires p q
  second_wire p q e =
      elim (port_cases p (first_port exit)) [
        | inl same ↦ inr (same, sym (same_Some (first_port b) q (sym (get_inserted port_total port_same map.empty (first_port exit) (first_port b) p same) ∙ e)))
        | inr other ↦ absurd (none-some q (sym (map.get-empty port_cmp p) ∙ sym (get_not_inserted port_total port_same map.empty (first_port exit) (first_port b) p other) ∙ e))
      ]

  the_wires : (p q : Port) → map.get left.feeders p ≡ Some q → TheWires p q
  the_wires p q e =
      elim (port_cases p (first_port b)) [
        | inl same ↦ inl (same, sym (same_Some (first_port entry) q (sym (get_inserted port_total port_same out_of_b (first_port b) (first_port entry) p same) ∙ e)))
        | inr other ↦ second_wire p q (sym (get_not_inserted port_total port_same out_of_b (first_port b) (first_port entry) p other) ∙ e)
      ]

  name_of : (n m : Name) → first_port n ≡ first_port m → n ≡ m
  name_of n m e = ap (λ (p : Port). p.node) e

  one_target : (p r q : Port) → TheWires p q → TheWires r q → p ≡ r
  one_target p r q (inl x) (inl y) = x.0 ∙ sym y.0
  one_target p r q (inl x) (inr y) = absurd (before (name_of entry b (sym x.1 ∙ y.1)))
  one_target p r q (inr x) (inl y) = absurd (before (name_of entry b (sym y.1 ∙ x.1)))
  one_target p r q (inr x) (inr y) = x.0 ∙ sym y.0

  fed : (p q : Port) → map.get left.feeders p ≡ Some q → consumer left q ≡ Some p
  fed p q = (found_consumer left (λ x y z e f. one_target x y z (the_wires x z e) (the_wires y z f)) p q).0

  b_feeds : consumer left (first_port b) ≡ Some (first_port exit)
  b_feeds =
      fed (first_port exit) (first_port b)
      (get_not_inserted port_total port_same out_of_b (first_port b) (first_port entry) (first_port exit) (λ e. after (name_of exit b e))
      ∙ get_inserted port_total port_same map.empty (first_port exit) (first_port b) (first_port exit) refl)

  entry_feeds : consumer left (first_port entry) ≡ Some (first_port b)
  entry_feeds = fed (first_port b) (first_port entry) (get_inserted port_total port_same out_of_b (first_port b) (first_port entry) (first_port b) refl)

  exit_fed : map.get right.feeders (first_port exit) ≡ Some (first_port entry)
  exit_fed = get_inserted port_total port_same map.empty (first_port exit) (first_port entry) (first_port exit) refl

  entry_is : is_entry ((circuit_of right).kind_at entry) ≡ true
  entry_is = ap is_entry (put_here last entry (bare (Entry shape)) entry refl)

  -- what feeds what b fed is what feeds b
  module _ (h g : NamedGraph) (ty : IsTyped g) (w : IsWithoutBuffer h g b) where
    past_b : new_source g left right (follow (circuit_of right) (consumer left (first_port b))) ≡ map.get g.feeders (first_port b)
    past_b =
        ap (λ o. new_source g left right (follow (circuit_of right) o)) b_feeds
        ∙ ap (new_source g left right) exit_fed
        ∙ ap (λ t. if t then follow (circuit_of g) (consumer left (first_port entry)) else Some (first_port entry)) entry_is
        ∙ ap (follow (circuit_of g)) entry_feeds

    source_at : (p q : Port) → map.get g.feeders p ≡ Some q →
        kept_source g left right (Some q) ≡ bypass b (map.get g.feeders (first_port b)) (Some q)
    source_at p q e =
        elim (name_cases q.node b) [
          | inl same ↦
              ap (λ t. if t then new_source g left right (follow (circuit_of right) (consumer left q)) else Some q) (one_inner q.node ∙ same.test)
              ∙ ap (λ z. new_source g left right (follow (circuit_of right) (consumer left z)))
              (out_is (circuit_of g) b (can_drop_of (circuit_of g) b w.can) (circuit_typed g ty) p q e same.is)
              ∙ past_b ∙ sym (ap (λ t. if t then map.get g.feeders (first_port b) else Some q) same.test)
          | inr other ↦
              ap (λ t. if t then new_source g left right (follow (circuit_of right) (consumer left q)) else Some q) (one_inner q.node ∙ other.test)
              ∙ sym (ap (λ t. if t then map.get g.feeders (first_port b) else Some q) other.test)
        ]

    source : (p : Port) (o : Option Port) → map.get g.feeders p ≡ o →
        kept_source g left right o ≡ bypass b (map.get g.feeders (first_port b)) o
    source p None e = refl
    source p (Some q) e = source_at p q e

    same_feeder : (p : Port) → map.get (replaced_graph g left right).feeders p ≡ map.get h.feeders p
    same_feeder p =
        feeder_at g left right p
        ∙ ap (λ t. if t then new_source g left right (map.get right.feeders p) else (if has_inner left p.node then None else kept_source g left right (map.get g.feeders p))) (no_inner p.node)
        ∙ (λ i. if one_inner p.node i then None else source p (map.get g.feeders p) refl i)
        ∙ sym (ap (λ (c : Circuit). c.feeder p) (without_circuit h g b ty w))

    kept : (n : Name) → (if bytes_eq n b then None else map.get g.nodes n) ≡ map.get (map.remove g.nodes b) n
    kept n =
        elim (name_cases n b) [
          | inl same ↦ ap (λ t. if t then None else map.get g.nodes n) same.test ∙ sym (ap (map.get (map.remove g.nodes b)) same.is ∙ get_removed name_total name_same g.nodes b)
          | inr other ↦ ap (λ t. if t then None else map.get g.nodes n) other.test ∙ sym (get_not_removed name_total name_same g.nodes b n other.is_not)
        ]

    same_node : (n : Name) → map.get (replaced_graph g left right).nodes n ≡ map.get h.nodes n
    same_node n =
        node_at g left right n
        ∙ ap (λ t. if t then map.get right.nodes n else (if has_inner left n then None else map.get g.nodes n)) (no_inner n)
        ∙ ap (λ t. if t then None else map.get g.nodes n) (one_inner n)
        ∙ kept n ∙ sym (ap (λ (x : NamedGraph). map.get x.nodes n) w.is)

    -- so the graph without b is the replaced one
    pub dropped_is_replaced : h ≡ replaced_graph g left right
    dropped_is_replaced =
        let nodes = map.same_map name_total name_same h.nodes (replaced_graph g left right).nodes (λ n. sym (same_node n)) in
        let feeders = map.same_map port_total port_same h.feeders (replaced_graph g left right).feeders (λ p. sym (same_feeder p)) in
        λ i. record { nodes = nodes i; feeders = feeders i }

  -- the rule matches where b can be dropped
  b_named : (n : Name) → has_inner left n ≡ true → n ≡ b
  b_named n i =
      elim (name_cases n b) [
        | inl same ↦ same.is
        | inr other ↦ absurd (true≢false (sym i ∙ one_inner n ∙ other.test))
      ]

  b_is : (circuit_of left).kind_at b ≡ Some kind
  b_is = put_elsewhere last_two entry (bare (Entry shape)) b (λ e. before (sym e)) ∙ put_here last b (bare kind) b refl

  no_ring : (p q : Port) → TheWires p q → q.node ≡ b → p.node ≡ b → ⊥
  no_ring p q (inl x) from to = before (sym (ap (λ (z : Port). z.node) x.1) ∙ from)
  no_ring p q (inr x) from to = after (sym (ap (λ (z : Port). z.node) x.0) ∙ to)

  module _ (g : NamedGraph) (ty : IsTyped g) (is_kind : (circuit_of g).kind_at b ≡ Some kind) (can : CanDropBuffer (circuit_of g) b) where
    ring : (p q : Port) → map.get g.feeders p ≡ Some q → p.node ≡ b → q.node ≡ b → ⊥
    ring p q e to from =
        let there : p ≡ first_port b = in_is (circuit_of g) b (can_drop_of (circuit_of g) b can) (circuit_typed g ty) p q e to in
        can.other (ap (λ (z : Port). z.node) (same_Some can.before q (sym can.is_before ∙ ap (map.get g.feeders) (sym there) ∙ e)) ∙ from)

    pub rule_matches : Matches g left right
    rule_matches =
        record {
          nodes = λ n i. let is = b_named n i in ap (circuit_of g).kind_at is ∙ is_kind ∙ sym (ap (circuit_of left).kind_at is ∙ b_is);
          wires = λ p q ip iq. (
            (λ e. absurd (ring p q e (b_named p.node ip) (b_named q.node iq))),
            (λ e. absurd (no_ring p q (the_wires p q e) (b_named q.node iq) (b_named p.node ip))),
          );
          new = λ n k e i. absurd (true≢false (sym (ap is_inner e ∙ i) ∙ no_inner n));
        }
