use Rattle.std.proofs.Common.{◌≡◌, ◌∙◌, ◌+◌, ◌<◌, ◌≤◌, length, arith, subst, ap}
use Rattle.std.specs.FinMap as map_of
use Rattle.graph_core.specs.Slots.{shown}
use Rattle.graph_core.proofs.SlotLemmas.{below_slots}
use Rattle.graph_core.proofs.cells.Cells.within.Goals as goal

pub returns-clause-within : goal.returns-clause-within
returns-clause-within c id cell found =
    subst (λ n. id.index < n) (ap (λ v. v.slots) c.self.view_is) (below_slots c.self.inside.slots.items id cell (ap (λ v. map_of.get v.cells id) c.self.view_is ∙ found))

pub returns-clause-room : goal.returns-clause-room
returns-clause-room c =
    let total : map_of.len (shown c.self.inside.slots.items).cells + c.self.invariant.free ≡ length c.self.inside.slots.items = c.self.invariant.total in
    let room : map_of.len (shown c.self.inside.slots.items).cells ≤ length c.self.inside.slots.items = omega arith in
    subst (λ v. map_of.len v.cells ≤ v.slots) c.self.view_is room
