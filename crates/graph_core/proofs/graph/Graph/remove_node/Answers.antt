use Rattle.std.proofs.Common.{◌≡◌, MatchOption, None, refl, sym, subst}
use Rattle.std.specs.FinMap as finite
use Rattle.components.specs.Name.{Name}
use Rattle.graph_core.specs.Arena.{without_wired}
use Rattle.graph_core.specs.GraphValue.{Denotes, IsNodeAt, without_id}
use Rattle.graph_core.specs.Inside.{value_of}
use Rattle.graph_core.proofs.Standing.{node_is}
use Rattle.graph_core.proofs.Take.{Taken, taken, taken_named}
use Rattle.graph_core.proofs.graph.Graph.remove_node.Goals as goal
use Rattle.graph_core.proofs.graph.Graph.remove_node.Goals.{After-take}

gone : (c : After-take) → Taken c.self.inside.cells c.self.inside.names.ids c.args.id (finite.get c.self.inside.cells.cells c.args.id) c.take.new.cells c.take.new.names.ids
gone c =
    subst (λ d. Taken c.self.inside.cells c.self.inside.names.ids c.args.id (finite.get c.self.inside.cells.cells c.args.id) d c.take.new.names.ids) (sym c.take.ensures.cells)
    (subst (Taken c.self.inside.cells c.self.inside.names.ids c.args.id (finite.get c.self.inside.cells.cells c.args.id) (without_wired c.self.inside.cells c.args.id (finite.get c.self.inside.cells.cells c.args.id))) (sym c.take.ensures.names)
    (taken c.self.inside.cells c.self.inside.names.ids c.self.invariant c.args.id (finite.get c.self.inside.cells.cells c.args.id) refl))

pub invariant_of-self : goal.invariant_of-self
invariant_of-self c = (gone c).ok

pub returns-clause-node : goal.returns-clause-node
returns-clause-node c =
    subst (λ v. MatchOption c.take.result (finite.get v.ids c.args.id ≡ None) (IsNodeAt v c.args.id)) c.self.view_is
    (node_is c.self.inside.cells c.self.inside.names.ids c.self.invariant c.args.id c.take.result (sym c.take.ensures.node))

pub returns-clause-gone : goal.returns-clause-gone
returns-clause-gone c =
    subst (λ v. (name : Name) → Denotes v c.args.id name → value_of c.take.new.cells c.take.new.names.ids ≡ without_id v c.args.id name) c.self.view_is
    (taken_named c.self.inside.cells c.self.inside.names.ids c.args.id (finite.get c.self.inside.cells.cells c.args.id) c.take.new.cells c.take.new.names.ids refl (gone c))
