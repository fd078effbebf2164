-- The part that a rule looks for is found where each of its inner nodes is.
use Rattle.std.proofs.Common.{◌≡◌, ◌↔◌, ℕ, ◌≤◌, true, cond, length, Option, Some, None, is_some, refl, sym, ap, subst, ◌∙◌}
use Rattle.std.specs.FinMap as map
use Rattle.std.proofs.lemmas.Option.{none-some, same_Some, cond_some}
use Rattle.components.specs.declared.kind.Kind.{Kind}
use Rattle.components.specs.Name.{Name, Port, port_get}
use Rattle.components.specs.Kind.{ins}
use Rattle.components.specs.NamedGraph.{NamedGraph}
use Rattle.components.specs.Numbered.{Within, within}
use Rattle.circuits.specs.Circuit.{circuit_of, kind_of_body}
use Rattle.circuits.specs.Replacing.{is_inner, IsNew}
use Rattle.circuits.specs.ReplacedGraph.{has_inner, Matches}
use Rattle.graph_core.specs.declared.place.NodeId.{NodeId}
use Rattle.graph_core.specs.Denoting.{port_denoted}
use Rattle.graph_core.specs.GraphValue.{GraphValue, Denotes, IsGraph, port_of}
use Rattle.graph_core.specs.Open.{port_at}
use Rattle.subst_engine.proofs.Ends.{inner_there}
use Rattle.subst_engine.specs.Matching.{inner_source, AreFedAlike, NodeMatches, IdMatches, StandsIn, IdHasRoom}

-- Sources that are inner nodes of left

inner_is : (left : NamedGraph) (o : Option Port) (q : Port) → has_inner left q.node ≡ true → o ≡ Some q → inner_source left o ≡ Some q
inner_is left o q inner is = ap (inner_source left) is ∙ ap (λ b. cond b (Some q) None) inner

inner_was : (left : NamedGraph) (o : Option Port) (q : Port) → inner_source left o ≡ Some q → (o ≡ Some q) × (has_inner left q.node ≡ true)
inner_was left None q is = absurd (none-some q is)
inner_was left (Some p) q is =
    let parts = cond_some (has_inner left p.node) p q is in
    (ap (λ x. Some x) parts.1, subst (λ x. has_inner left x.node ≡ true) parts.1 parts.0)

module _ (g left : NamedGraph) where
  wire_alike : (p q : Port) → AreFedAlike g left p p → has_inner left q.node ≡ true → (map.get g.feeders p ≡ Some q) ↔ (map.get left.feeders p ≡ Some q)
  wire_alike p q same inner = (
    λ fed. (inner_was left (map.get left.feeders p) q (sym same ∙ inner_is left (map.get g.feeders p) q inner fed)).0,
    λ fed. (inner_was left (map.get g.feeders p) q (same ∙ inner_is left (map.get left.feeders p) q inner fed)).0,
  )

  pub matches_from : (right : NamedGraph) → StandsIn left g → IsNew (circuit_of g) (circuit_of left) (circuit_of right) → Matches g left right
  matches_from right stands new = record {
    nodes = λ n inner. (stands n inner).kind;
    wires = λ p q inner source. wire_alike p q ((stands p.node inner).inputs p.port) source;
    new = new;
  }

-- By ids

pub stands_by_ids : (g : NamedGraph) (left : GraphValue) → IsGraph left → ((id : NodeId) → IdMatches g left id) → StandsIn left.graph g
stands_by_ids g left is each name inner =
    let (body, found) = inner_there left.graph name inner in
    let (id, denotes) = is.live name body found in
    each id name denotes inner

pub room_by_ids : (g left : NamedGraph) (right : GraphValue) → IsGraph right → ((id : NodeId) → IdHasRoom g left right id) → IsNew (circuit_of g) (circuit_of left) (circuit_of right.graph)
room_by_ids g left right is each name kind found inner =
    let is_inner_there : has_inner right.graph name ≡ true = ap is_inner found ∙ inner in
    let (body, there) = inner_there right.graph name is_inner_there in
    let (id, denotes) = is.live name body there in
    each id name denotes is_inner_there

-- By numbers of inputs

-- a wire enters at an input that the node has
fed_within : (g : GraphValue) → IsGraph g → (name : Name) (kind : Kind) → (circuit_of g.graph).kind_at name ≡ Some kind → (port : ℕ) (q : Port) → map.get g.graph.feeders (record { node = name; port = port }) ≡ Some q → Within (ins kind) port
fed_within g is name kind found port q fed =
    let wire = is.graph.wires (record { node = name; port = port }) q fed in
    let same : wire.to.kind ≡ kind = same_Some _ _ (sym (ap kind_of_body wire.is_to) ∙ found) in
    within (ins kind) port (ap is_some (subst (λ k. port_get (ins k) port ≡ Some wire.shape) same wire.enters))

module _ (g left : GraphValue) (is_g : IsGraph g) (is_left : IsGraph left) (id twin : NodeId) (name : Name) (kind : Kind) (count : ℕ)
    (at : Denotes left id name) (named : Denotes g twin name) (here : (circuit_of left.graph).kind_at name ≡ Some kind) (there : (circuit_of g.graph).kind_at name ≡ Some kind) (counted : count ≡ length (ins kind)) where
  abbrev by_name : ℕ → Port
  by_name k = record { node = name; port = k }

  abbrev FedAlike : ℕ → Type 0
  FedAlike k = AreFedAlike g.graph left.graph (port_of g (port_at twin k)) (port_of left (port_at id k))

  abbrev InputMatches : ℕ → Type 0
  InputMatches k = AreFedAlike g.graph left.graph (by_name k) (by_name k)

  alike_by_name : (k : ℕ) → FedAlike k → InputMatches k
  alike_by_name k alike =
      ap (λ p. inner_source left.graph (map.get g.graph.feeders p)) (sym (port_denoted g (port_at twin k) name named))
      ∙ alike ∙ ap (λ p. inner_source left.graph (map.get left.graph.feeders p)) (port_denoted left (port_at id k) name at)

  alike_by_id : (k : ℕ) → InputMatches k → FedAlike k
  alike_by_id k alike =
      ap (λ p. inner_source left.graph (map.get g.graph.feeders p)) (port_denoted g (port_at twin k) name named)
      ∙ alike ∙ ap (λ p. inner_source left.graph (map.get left.graph.feeders p)) (sym (port_denoted left (port_at id k) name at))

  abbrev AllAlike : Type 0
  AllAlike = (k : ℕ) → 1 ≤ k → k ≤ count → FedAlike k

  alike_at : AllAlike → (k : ℕ) → Within (ins kind) k → InputMatches k
  alike_at all k number = alike_by_name k (all k number.some (subst (λ n. k ≤ n) (sym counted) number.few))

  input_alike : AllAlike → (k : ℕ) → InputMatches k
  input_alike all k = by (map.get g.graph.feeders (by_name k)) refl (map.get left.graph.feeders (by_name k)) refl
    where
      by : (a : Option Port) → map.get g.graph.feeders (by_name k) ≡ a → (b : Option Port) → map.get left.graph.feeders (by_name k) ≡ b → InputMatches k
      by (Some q) is b it = alike_at all k (fed_within g is_g name kind there k q is)
      by None is (Some q) it = alike_at all k (fed_within left is_left name kind here k q it)
      by None is None it = ap (inner_source left.graph) is ∙ sym (ap (inner_source left.graph) it)

  -- a node matches where its inputs do
  pub node_by_inputs : AllAlike ↔ NodeMatches g.graph left.graph name
  node_by_inputs = (
    λ all. record { kind = there ∙ sym here; inputs = input_alike all },
    λ matches k some few. alike_by_id k (matches.inputs k),
  )
