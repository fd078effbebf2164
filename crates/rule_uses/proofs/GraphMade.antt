-- What replacement makes of a graph is what it makes of its circuit.
use Rattle.std.proofs.Common.{◌≡◌, ap, subst, ◌∙◌}
use Rattle.components.specs.NamedGraph.{NamedGraph, IsTyped}
use Rattle.circuits.specs.Circuit.{Circuit, circuit_of}
use Rattle.circuits.specs.Laws.{CircuitIsTyped, ConsumerIsFed, ReplacedGraphIsCircuit}
use Rattle.circuits.specs.Replacing.{is_inner, replaced, IsPart}
use Rattle.circuits.specs.ReplacedGraph.{consumer, replaced_graph, Matches, IsRule}
use Rattle.circuit_plans.specs.Plans.{Plan, Naming, built}
use Rattle.rule_uses.proofs.Made.{IsMade, made_is}

module _ (typed : CircuitIsTyped) (fed : ConsumerIsFed) (as_circuit : ReplacedGraphIsCircuit) where
  part_of : (g left right : NamedGraph) → IsTyped g → IsRule left right → Matches g left right → IsPart (circuit_of g) (circuit_of left) (consumer left)
  part_of g left right is rule at =
      record {
        whole = typed g is;
        part = typed left rule.old_typed;
        target_is = fed left rule.old_typed;
        nodes = λ n k e inner. at.nodes n (ap is_inner e ∙ inner) ∙ e;
        wires = at.wires;
        no_through = rule.no_through;
      }

  module _ {N M : Type 0} (g left right : NamedGraph) (l : Plan N) (old : Naming N) (r : Plan M) (new : Naming M) (is : IsTyped g) (rule : IsRule left right) (at : Matches g left right)
      (left_is : circuit_of left ≡ built l old) (right_is : circuit_of right ≡ built r new) where
    pub graph_part : IsPart (circuit_of g) (built l old) (consumer left)
    graph_part = subst (λ c. IsPart (circuit_of g) c (consumer left)) left_is (part_of g left right is rule at)

    pub graph_made : (made : Circuit) → IsMade (circuit_of g) l old r new made → circuit_of (replaced_graph g left right) ≡ made
    graph_made made h =
        as_circuit g left right ∙ (λ i. replaced (circuit_of g) (left_is i) (right_is i) (consumer left))
        ∙ made_is (circuit_of g) l old r new (consumer left) graph_part made h
