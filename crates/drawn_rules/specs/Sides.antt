-- The nodes and the wires of a drawing as lists, where an end of a wire tells its node by its place.
use Rattle.std.specs.Prelude.{ℕ, List, map}
use Rattle.components.specs.declared.node.Node.{Node}
use Rattle.components.specs.Name.{Name}
use Rattle.graph_core.specs.declared.exchange.End.{End}
use Rattle.graph_core.specs.declared.exchange.End.TheVariants.{Fresh}
use Rattle.circuit_plans.specs.Plans.{Out}
use Rattle.circuit_plans.specs.Drawing.{Drawing}
use Rattle.subst_engine.specs.Making.{bare_node}

-- the nodes of a drawing, without kept attributes
abbrev pub nodes_of : {N : Type 0} → Drawing N → (N → Name) → List Node
nodes_of d name = map (λ n. bare_node (name n) (d.kind n)) d.nodes

-- a port by the place of its node
abbrev pub end_at : {N : Type 0} → (N → ℕ) → Out N → End
end_at place p = Fresh (place p.at) p.port

-- the wires of a drawing, where each node has its place
abbrev pub ends_of : {N : Type 0} → Drawing N → (N → ℕ) → List (End × End)
ends_of d place = map (λ w. (end_at place w.source, end_at place w.target)) d.wires
