-- The ports of Entries, Exits and inner nodes that a rule's graphs and the graph have in common.
use Rattle.std.proofs.Common.{◌≡◌, true, false, Some, refl, sym, ap, subst, ◌∙◌}
use Rattle.std.specs.FinMap as map
use Rattle.port_types.specs.declared.side.Side.TheVariants.{Ins, Outs}
use Rattle.components.specs.declared.kind.Kind.{Kind}
use Rattle.components.specs.declared.kind.Kind.TheVariants.{Entry, Exit}
use Rattle.components.specs.Name.{Name, Port, port_get}
use Rattle.components.specs.Kind.{Shape, ins, outs}
use Rattle.components.specs.Node.{Body}
use Rattle.components.specs.NamedGraph.{NamedGraph}
use Rattle.circuits.specs.Circuit.{circuit_of, kind_of_body}
use Rattle.circuits.specs.ReplacedGraph.{has_inner}
use Rattle.graph_core.specs.declared.place.PortAt.{PortAt}
use Rattle.graph_core.specs.Denoting.{denoted_by}
use Rattle.graph_core.specs.GraphValue.{GraphValue, IsGraph, Denotes, port_of}
use Rattle.graph_core.specs.Wiring.{HasPort}
use Rattle.subst_engine.specs.EndPorts.{IsEntryPort, IsExitPort}
use Rattle.subst_engine.specs.NewWires.{CanReplace}
use Rattle.subst_engine.proofs.Ends.{found_body}
use Rattle.subst_engine.proofs.NewWires.{behind_entry, before_exit, before_entry, after_exit}

-- a port of a node that is looked up by its kind
has_output : (g : NamedGraph) (q : Port) (kind : Kind) (shape : Shape) → (circuit_of g).kind_at q.node ≡ Some kind → port_get (outs kind) q.port ≡ Some shape → HasPort g Outs q
has_output g q kind shape found there =
    let (body, is, same) = found_body (map.get g.nodes q.node) kind found in
    (shape, (body, is, subst (λ k. port_get (outs k) q.port ≡ Some shape) (sym same) there))

has_input : (g : NamedGraph) (p : Port) (kind : Kind) (shape : Shape) → (circuit_of g).kind_at p.node ≡ Some kind → port_get (ins kind) p.port ≡ Some shape → HasPort g Ins p
has_input g p kind shape found there =
    let (body, is, same) = found_body (map.get g.nodes p.node) kind found in
    (shape, (body, is, subst (λ k. port_get (ins k) p.port ≡ Some shape) (sym same) there))

module _ (g left right : NamedGraph) (can : CanReplace g left right) where
  pub entry_output : (q : Port) → IsEntryPort right q → HasPort left Outs q
  entry_output q entry = has_output left q (Entry entry.shape) entry.shape ((can.is_rule.ports.entries q.node entry.shape).0 entry.kind) entry.there

  pub exit_input : (p : Port) → IsExitPort right p → HasPort left Ins p
  exit_input p exit = has_input left p (Exit exit.shape) exit.shape ((can.is_rule.ports.exits p.node exit.shape).0 exit.kind) exit.there

  -- the inputs and outputs of inner nodes of left are those of g
  part_input : (p q : Port) → map.get left.feeders p ≡ Some q → has_inner left p.node ≡ true → HasPort g Ins p
  part_input p q fed inner =
      let wire = can.is_rule.old_typed.wires p q fed in
      has_input g p wire.to.kind wire.shape (can.matches.nodes p.node inner ∙ ap kind_of_body wire.is_to) wire.enters

  part_output : (p q : Port) → map.get left.feeders p ≡ Some q → has_inner left q.node ≡ true → HasPort g Outs q
  part_output p q fed inner =
      let wire = can.is_rule.old_typed.wires p q fed in
      has_output g q wire.from.kind wire.shape (can.matches.nodes q.node inner ∙ ap kind_of_body wire.is_from) wire.leaves

  -- what an Entry feeds in left is an input of g, and what feeds an Exit there is an output
  pub behind : (q t : Port) → IsEntryPort right q → map.get left.feeders t ≡ Some q → HasPort g Ins t
  behind q t entry fed = part_input t q fed (behind_entry g left right can t q entry.shape fed ((can.is_rule.ports.entries q.node entry.shape).0 entry.kind))

  pub before : (p q : Port) → IsExitPort right p → map.get left.feeders p ≡ Some q → HasPort g Outs q
  before p q exit fed = part_output p q fed (before_exit g left right can p q exit.shape fed ((can.is_rule.ports.exits p.node exit.shape).0 exit.kind))

-- a port that is there is of a node
pub port_node : (g : NamedGraph) (q : Port) → HasPort g Outs q → (body : Body) × (map.get g.nodes q.node ≡ Some body)
port_node g q (shape, (body, is, there)) = (body, is)

pub port_node_in : (g : NamedGraph) (p : Port) → HasPort g Ins p → (body : Body) × (map.get g.nodes p.node ≡ Some body)
port_node_in g p (shape, (body, is, there)) = (body, is)

-- The nodes of g at these ports stay

module _ (g : GraphValue) (left right : NamedGraph) (is : IsGraph g) (can : CanReplace g.graph left right) where
  pub source_stays : (q t : Port) (s : PortAt) (shape : Shape) → (circuit_of right).kind_at q.node ≡ Some (Entry shape) → map.get left.feeders t ≡ Some q → map.get g.graph.feeders t ≡ Some (port_of g s) →
      (name : Name) × Denotes g s.node name × (has_inner left name ≡ false)
  source_stays q t s shape entry fed feeds =
      let wire = can.typed.wires t (port_of g s) feeds in (
        (port_of g s).node,
        denoted_by g is s (port_of g s).node wire.from wire.is_from refl,
        before_entry g.graph left right can t q (port_of g s) shape fed ((can.is_rule.ports.entries q.node shape).0 entry) feeds,
      )

  pub target_stays : (p q : Port) (t : PortAt) (shape : Shape) → (circuit_of right).kind_at p.node ≡ Some (Exit shape) → map.get left.feeders p ≡ Some q → map.get g.graph.feeders (port_of g t) ≡ Some q →
      (name : Name) × Denotes g t.node name × (has_inner left name ≡ false)
  target_stays p q t shape exit fed feeds =
      let wire = can.typed.wires (port_of g t) q feeds in (
        (port_of g t).node,
        denoted_by g is t (port_of g t).node wire.to wire.is_to refl,
        after_exit g.graph left right can p q (port_of g t) shape fed ((can.is_rule.ports.exits p.node shape).0 exit) feeds,
      )
