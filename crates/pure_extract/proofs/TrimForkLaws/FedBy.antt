-- Where no node has a name, no wire leads to it or from it.
use Rattle.std.proofs.Common.{◌≡◌, ◌≢◌, ℕ, Some, None, sym, ◌∙◌}
use Rattle.std.specs.FinMap as finite
use Rattle.std.proofs.lemmas.Option.{none-some}
use Rattle.components.specs.Name.{Name, Port}
use Rattle.graph_core.specs.GraphValue.{GraphValue, IsGraph}

module _ (g : GraphValue) (is : IsGraph g) (name : Name) (none : finite.get g.graph.nodes name ≡ None) where
  pub no_target : (i : ℕ) (q : Port) → finite.get g.graph.feeders (record { node = name; port = i }) ≢ Some q
  no_target i q e = let w = is.graph.wires (record { node = name; port = i }) q e in none-some w.to (sym none ∙ w.is_to)

  pub no_source : (p : Port) (i : ℕ) → finite.get g.graph.feeders p ≢ Some (record { node = name; port = i })
  no_source p i e = let w = is.graph.wires p (record { node = name; port = i }) e in none-some w.from (sym none ∙ w.is_from)
