-- The two graphs of the rule can be made of their nodes and wires.
use Rattle.std.proofs.Common.{◌≢◌, List, [], ◌∷◌, refl, sym, ap, subst, ◌∙◌, arith}
use Rattle.std.specs.FinMap as map
use Rattle.std.proofs.lemmas.List.Elements.{All-nil}
use Rattle.components.specs.declared.kind.Kind.{Kind}
use Rattle.components.specs.declared.kind.Kind.TheVariants.{Entry, Exit}
use Rattle.components.specs.declared.node.Node.{Node}
use Rattle.components.specs.Name.{Name, Port, IsName}
use Rattle.components.specs.Kind.{Shape, KindOk}
use Rattle.components.specs.Node.{NodeOk}
use Rattle.components.specs.NamedGraph.{IsWire}
use Rattle.components.specs.Lookups.{get_inserted, get_not_inserted}
use Rattle.components.specs.Orders.{name_total, name_same}
use Rattle.port_types.specs.Shape.{IsShape}
use Rattle.graph_core.specs.declared.exchange.End.{End}
use Rattle.graph_core.specs.declared.exchange.End.TheVariants.{Fresh}
use Rattle.circuits.specs.Buffers.{first_port}
use Rattle.circuits.specs.BufferRule.{bare, straight}
use Rattle.subst_engine.specs.Making.{bare_node, CanMake}
use Rattle.pure_extract.specs.DropBuffer.{Passes, entry_name, exit_name}
use Rattle.pure_extract.proofs.DropBufferLaws.EndNames.{entry_other, exit_other, ends_apart, entry_is_name, exit_is_name}
use Rattle.pure_extract.proofs.DropBufferLaws.Sound.{OnePort, one_port, wire_in, wire_out}

node_ok : (n : Name) (k : Kind) → IsName n → KindOk k → NodeOk (bare_node n k)
node_ok n k name ok = record { kind = ok; name = name; kept = record { distinct = λ i j d before within. absurd (omega arith); unowned = All-nil _ } }

first_differ : (n m : Name) → n ≢ m → first_port n ≢ first_port m
first_differ n m apart e = apart (ap (λ (p : Port). p.node) e)

-- the nodes and the wires of the left graph, and of the right one
abbrev pub left_nodes : Name → Name → Name → Kind → Shape → List Node
left_nodes entry b exit kind shape = bare_node exit (Exit shape) ∷ bare_node b kind ∷ bare_node entry (Entry shape) ∷ []

abbrev pub left_wires : List (End × End)
left_wires = (Fresh 1 1, Fresh 0 1) ∷ (Fresh 2 1, Fresh 1 1) ∷ []

abbrev pub right_nodes : Name → Name → Shape → List Node
right_nodes entry exit shape = bare_node exit (Exit shape) ∷ bare_node entry (Entry shape) ∷ []

abbrev pub right_wires : List (End × End)
right_wires = (Fresh 1 1, Fresh 0 1) ∷ []

module _ (entry exit : Name) (shape : Shape) (apart : exit ≢ entry) (entry_ok : IsName entry) (exit_ok : IsName exit) where
  can_make_left : (b : Name) (kind : Kind) → entry ≢ b → exit ≢ b → IsName b → OnePort kind shape → CanMake (left_nodes entry b exit kind shape) left_wires
  can_make_left b kind before after b_ok one =
      record {
        are_ok = (node_ok exit (Exit shape) exit_ok one.is_shape, (node_ok b kind b_ok one.ok, (node_ok entry (Entry shape) entry_ok one.is_shape, tt)));
        names = ((after, (apart, tt)), (((λ e. before (sym e)), tt), (tt, tt)));
        ends = ((omega arith, omega arith), ((omega arith, omega arith), tt));
        fit = (wire_out entry b exit kind shape one before after apart, (wire_in entry b exit kind shape one before after apart, tt));
        outputs = ((first_differ b entry (λ e. before (sym e)), tt), (tt, tt));
        inputs = ((first_differ exit b after, tt), (tt, tt));
      }

  straight_wire : IsWire (straight entry exit shape) (first_port entry) (first_port exit)
  straight_wire =
      let last = map.insert map.empty exit (bare (Exit shape)) in
      record {
        from = bare (Entry shape);
        to = bare (Exit shape);
        shape = shape;
        is_from = get_inserted name_total name_same last entry (bare (Entry shape)) entry refl;
        is_to = get_not_inserted name_total name_same last entry (bare (Entry shape)) exit apart ∙ get_inserted name_total name_same map.empty exit (bare (Exit shape)) exit refl;
        leaves = refl;
        enters = refl;
      }

  pub can_make_right : IsShape shape → CanMake (right_nodes entry exit shape) right_wires
  can_make_right ok =
      record {
        are_ok = (node_ok exit (Exit shape) exit_ok ok, (node_ok entry (Entry shape) entry_ok ok, tt));
        names = ((apart, tt), (tt, tt));
        ends = ((omega arith, omega arith), tt);
        fit = (straight_wire, tt);
        outputs = (tt, tt);
        inputs = (tt, tt);
      }

-- with the names that the rule has beside a node
pub left_made : (node : Node) (shape : Shape) → Passes node shape →
    CanMake (left_nodes (entry_name node.name) node.name (exit_name node.name) node.kind shape) left_wires
left_made node shape p =
    can_make_left (entry_name node.name) (exit_name node.name) shape (ends_apart node.name) (entry_is_name node.name) (exit_is_name node.name)
    node.name node.kind (entry_other node.name) (exit_other node.name) p.ok.name (subst (OnePort node.kind) (sym p.is_shape) (one_port node.kind p.like p.ok.kind))

pub right_made : (b : Name) (shape : Shape) → IsShape shape → CanMake (right_nodes (entry_name b) (exit_name b) shape) right_wires
right_made b shape ok = can_make_right (entry_name b) (exit_name b) shape (ends_apart b) (entry_is_name b) (exit_is_name b) ok
