use Rattle.std.proofs.Common.{◌≡◌, Some, sym, ◌∙◌}
use Rattle.std.specs.FinMap as map
use Rattle.std.proofs.lemmas.Option.{none-some}
use Rattle.components.specs.Name.{Name, Port, name_cmp, port_cmp}
use Rattle.components.specs.Node.{Body}
use Rattle.components.specs.NamedGraph.{IsTyped, no_graph}
use Rattle.circuits.specs.Circuit.{circuit_of}
use Rattle.subst_engine_tests.proofs.rules.NothingRule.right.Goals as goal

no_node : (name : Name) (body : Body) → map.get no_graph.nodes name ≡ Some body → ⊥
no_node name body found = none-some body (sym (map.get-empty name_cmp name) ∙ found)

no_wire : (p q : Port) → map.get no_graph.feeders p ≡ Some q → ⊥
no_wire p q fed = none-some q (sym (map.get-empty port_cmp p) ∙ fed)

empty_typed : IsTyped no_graph
empty_typed = record {
  kinds = λ name body found. absurd (no_node name body found);
  wires = λ p q fed. absurd (no_wire p q fed);
  inputs = λ p body shape found. absurd (no_node p.node body found);
  outputs = λ q body shape found. absurd (no_node q.node body found);
  once = λ p r q fed. absurd (no_wire p q fed);
}

pub returns-clause-sound : goal.returns-clause-sound
returns-clause-sound c = record {
  is_rule = record {
    old_typed = empty_typed;
    new_typed = empty_typed;
    ports = record { entries = λ n a. ((λ e. e), (λ e. e)); exits = λ n a. ((λ e. e), (λ e. e)) };
    no_through = λ p q a b fed. absurd (no_wire p q fed);
  };
  refines = c.refines_itself.ensures (circuit_of no_graph) (c.graph_typed_as_circuit.ensures.circuit no_graph empty_typed);
}
