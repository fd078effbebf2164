-- A graph with a part replaced is typed, refines the graph where the new part refines the old one, and has allowed names where both have.
use Rattle.std.proofs.Common.{◌≡◌, sym, ap, subst, ◌∙◌, true, false, Bool, if◌then◌else◌, Some, None}
use Rattle.std.specs.FinMap as map
use Rattle.std.proofs.lemmas.Option.{none-some}
use Rattle.components.specs.Name.{IsName}
use Rattle.components.specs.NamedGraph.{NamedGraph, IsTyped, HasAllowedNames}
use Rattle.circuits.specs.Values.{ValuesFit}
use Rattle.circuits.specs.Circuit.{Typed, circuit_of}
use Rattle.circuits.specs.Refines.{Refines}
use Rattle.circuits.specs.Replacing.{is_inner, IsPart}
use Rattle.circuits.specs.ReplacedGraph.{has_inner, consumer, replaced_graph, Matches, IsRule}
use Rattle.circuits.proofs.GraphCircuits.{circuit_typed, graph_typed}
use Rattle.circuits.proofs.Replacing.Anywhere.{typed_anywhere, replaced_anywhere}
use Rattle.circuits.proofs.ReplacedGraph.Lookups.{node_at, circuit_is}
use Rattle.circuits.proofs.ReplacedGraph.Consumers.{fed_is_consumer}
use Rattle.circuits.proofs.ReplacedGraph.EndNames.{names_of, graph_ends}

module _ (g left right : NamedGraph) (ty : IsTyped g) (rule : IsRule left right) (m : Matches g left right) where
  new_typed : Typed (circuit_of right)
  new_typed = circuit_typed right rule.new_typed

  is_part : IsPart (circuit_of g) (circuit_of left) (consumer left)
  is_part =
      record {
        whole = circuit_typed g ty;
        part = circuit_typed left rule.old_typed;
        target_is = fed_is_consumer left rule.old_typed;
        nodes = λ n k is inner. m.nodes n (ap is_inner is ∙ inner) ∙ is;
        wires = m.wires;
        no_through = rule.no_through;
      }

  pub replaced_typed : IsTyped (replaced_graph g left right)
  replaced_typed =
      graph_typed (replaced_graph g left right)
      (subst Typed (sym (circuit_is g left right))
      (typed_anywhere (circuit_of g) (circuit_of left) (circuit_of right) (consumer left) (names_of left) is_part (graph_ends left) m.new new_typed rule.ports))

  pub replaced_refines : ValuesFit → Refines (circuit_of right) (circuit_of left) → Refines (circuit_of (replaced_graph g left right)) (circuit_of g)
  replaced_refines fits r =
      subst (λ c. Refines c (circuit_of g)) (sym (circuit_is g left right))
      (replaced_anywhere (circuit_of g) (circuit_of left) (circuit_of right) (consumer left) (names_of left) is_part (graph_ends left) m.new new_typed rule.ports fits r)

module _ (g left right : NamedGraph) (old : HasAllowedNames g) (new : HasAllowedNames right) where
  pub replaced_names : HasAllowedNames (replaced_graph g left right)
  replaced_names n body is = of (has_inner right n) (has_inner left n) (sym (node_at g left right n) ∙ is)
    where
      of : (b a : Bool) → (if b then map.get right.nodes n else (if a then None else map.get g.nodes n)) ≡ Some body → IsName n
      of true a e = new n body e
      of false true e = absurd (none-some body e)
      of false false e = old n body e
