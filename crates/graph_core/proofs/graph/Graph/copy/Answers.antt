use Rattle.std.proofs.Common.{◌≡◌, ◌∙◌, sym, subst}
use Rattle.graph_core.specs.Inside.{IsArena, value_of}
use Rattle.graph_core.proofs.graph.Graph.copy.Goals as goal
use Rattle.graph_core.proofs.graph.Graph.copy.Goals.{In_ok-names}

cells : (c : In_ok-names) → c.in_ok-cells.cells ≡ c.self.inside.cells
cells c = c.in_ok-cells.ensures

names : (c : In_ok-names) → c.in_ok-names.names.ids ≡ c.self.inside.names.ids
names c = c.in_ok-names.ensures

pub invariant_of-result : goal.invariant_of-result
invariant_of-result c =
    let at = (goal.at.invariant_of-result c).In_ok-names in
    subst (λ m. IsArena m c.in_ok-names.names.ids) (sym (cells at)) (subst (IsArena c.self.inside.cells) (sym (names at)) c.self.invariant)

pub returns : goal.returns
returns c = let at = (goal.at.returns c).In_ok-names in (λ i. value_of (cells at i) (names at i)) ∙ c.self.view_is
