use Rattle.std.proofs.Common.{◌≡◌, ◌∙◌, rules, sym, ap, subst}
use Rattle.graph_core.specs.Slots.{IsChained, shown}
use Rattle.graph_core.proofs.cells.Cells.copy.Goals as goal
use Rattle.graph_core.proofs.cells.Cells.copy.Goals.{In_ok-slots}

same : (c : In_ok-slots) → c.in_ok-slots.slots.items ≡ c.self.inside.slots.items
same c = search rules

pub invariant_of-result : goal.invariant_of-result
invariant_of-result c = subst (λ slots. IsChained slots c.self.inside.free) (sym (same (goal.at.invariant_of-result c).In_ok-slots)) c.self.invariant

pub returns : goal.returns
returns c = ap shown (same (goal.at.returns c).In_ok-slots) ∙ c.self.view_is
