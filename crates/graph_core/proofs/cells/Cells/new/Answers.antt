use Rattle.std.proofs.Common.{None, subst, sym}
use Rattle.graph_core.specs.Slots.{IsChained}
use Rattle.graph_core.proofs.SlotLemmas.{IsChained-empty}
use Rattle.graph_core.proofs.cells.Cells.new.Goals as goal

pub invariant_of-result : goal.invariant_of-result
invariant_of-result c = subst (λ slots. IsChained slots None) (sym c.new.ensures.items) IsChained-empty
