-- The ports of a node that are on wires.
use Rattle.std.proofs.Common.{◌≡◌, ◌≤◌, sym, ap, subst, ◌∙◌, length, Some}
use Rattle.std.specs.FinMap as finite
use Rattle.std.proofs.lemmas.Option.{same_Some}
use Rattle.components.specs.Name.{Name, Port, port_get}
use Rattle.components.specs.Kind.{ins, outs}
use Rattle.components.specs.Node.{Body}
use Rattle.graph_core.specs.GraphValue.{GraphValue, IsGraph}
use Rattle.loop_find.proofs.Walking.{port_within}

module _ (g : GraphValue) (is : IsGraph g) (n : Name) (body : Body) (found : finite.get g.graph.nodes n ≡ Some body) where
  pub input_within : (p q : Port) → p.node ≡ n → finite.get g.graph.feeders p ≡ Some q → (1 ≤ p.port) × (p.port ≤ length (ins body.kind))
  input_within p q same fed =
      let w = is.graph.wires p q fed in
      let is_body : w.to ≡ body = same_Some w.to body (sym w.is_to ∙ ap (finite.get g.graph.nodes) same ∙ found) in
      port_within (ins body.kind) p.port w.shape (subst (λ (b : Body). port_get (ins b.kind) p.port ≡ Some w.shape) is_body w.enters)

  pub output_within : (p q : Port) → q.node ≡ n → finite.get g.graph.feeders p ≡ Some q → (1 ≤ q.port) × (q.port ≤ length (outs body.kind))
  output_within p q same fed =
      let w = is.graph.wires p q fed in
      let is_body : w.from ≡ body = same_Some w.from body (sym w.is_from ∙ ap (finite.get g.graph.nodes) same ∙ found) in
      port_within (outs body.kind) q.port w.shape (subst (λ (b : Body). port_get (outs b.kind) q.port ≡ Some w.shape) is_body w.leaves)
