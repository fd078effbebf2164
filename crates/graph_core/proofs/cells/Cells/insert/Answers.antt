use Rattle.std.proofs.Common.{◌≡◌, ◌∙◌, ◌∷◌, ◌++◌, [], length, max, slice_get, slice_set, rules, subst, sym, ap}
use Rattle.std.specs.FinMap as map_of
use Rattle.graph_core.specs.declared.cells.Slot.TheVariants.{Live}
use Rattle.graph_core.specs.Cells.{IsNext}
use Rattle.graph_core.specs.Place.{id_of}
use Rattle.graph_core.specs.Slots.{shown, next_in}
use Rattle.graph_core.proofs.SlotLemmas.{Added, pushed, filled_next, stands}
use Rattle.graph_core.proofs.cells.Cells.insert.Goals as goal
use Rattle.graph_core.proofs.cells.Cells.insert.Goals.{After-new, After-new-in-Some}

behind : (c : After-new) → Added c.self.inside.slots.items c.push_cell.new.slots.items c.self.inside.free c.new.result c.args.cell
behind c =
    let put : c.push_cell.new.slots.items ≡ c.self.inside.slots.items ++ Live c.args.cell ∷ [] = search rules in
    let at : c.new.result ≡ id_of (length c.self.inside.slots.items) = search rules in
    stands put at (pushed c.self.inside.slots.items c.self.inside.free c.args.cell c.self.invariant c.in-None.is)

pub invariant_of-self-in-None : goal.invariant_of-self-in-None
invariant_of-self-in-None c = (behind c).chained

pub returns-in_ok-push_cell-in-None-clause-vacant : goal.returns-in_ok-push_cell-in-None-clause-vacant
returns-in_ok-push_cell-in-None-clause-vacant c = ap (λ v. map_of.get v.cells c.new.result) (sym c.self.view_is) ∙ (behind c).vacant

pub returns-in_ok-push_cell-in-None-clause-next : goal.returns-in_ok-push_cell-in-None-clause-next
returns-in_ok-push_cell-in-None-clause-next c = subst (λ v. IsNext v c.new.result) c.self.view_is (behind c).next

pub returns-in_ok-push_cell-in-None-clause-cells : goal.returns-in_ok-push_cell-in-None-clause-cells
returns-in_ok-push_cell-in-None-clause-cells c = (behind c).cells ∙ ap (λ v. map_of.insert v.cells c.new.result c.args.cell) c.self.view_is

pub returns-in_ok-push_cell-in-None-clause-slots : goal.returns-in_ok-push_cell-in-None-clause-slots
returns-in_ok-push_cell-in-None-clause-slots c = (behind c).slots ∙ ap (λ v. max v.slots (map_of.len (shown c.push_cell.new.slots.items).cells)) c.self.view_is

within : (c : After-new-in-Some) → Added c.self.inside.slots.items c.put_at.new.slots.items c.next_at-self-inside.result c.new-in-Some.result c.args.cell
within c =
    let put : c.put_at.new.slots.items ≡ slice_set c.self.inside.slots.items c.in-Some.index (Live c.args.cell) = search rules in
    let next : c.next_at-self-inside.result ≡ next_in (slice_get c.self.inside.slots.items c.in-Some.index) = search rules in
    let filled = filled_next c.self.inside.slots.items c.in-Some.index c.args.cell c.self.inside.free c.self.invariant c.in-Some.is in
    stands put c.new-in-Some.ensures (subst (λ n. Added c.self.inside.slots.items (slice_set c.self.inside.slots.items c.in-Some.index (Live c.args.cell)) n (id_of c.in-Some.index) c.args.cell) (sym next) filled)

pub invariant_of-self-in-Some : goal.invariant_of-self-in-Some
invariant_of-self-in-Some c = (within c).chained

pub returns-in-Some-clause-vacant : goal.returns-in-Some-clause-vacant
returns-in-Some-clause-vacant c = ap (λ v. map_of.get v.cells c.new-in-Some.result) (sym c.self.view_is) ∙ (within c).vacant

pub returns-in-Some-clause-next : goal.returns-in-Some-clause-next
returns-in-Some-clause-next c = subst (λ v. IsNext v c.new-in-Some.result) c.self.view_is (within c).next

pub returns-in-Some-clause-cells : goal.returns-in-Some-clause-cells
returns-in-Some-clause-cells c = (within c).cells ∙ ap (λ v. map_of.insert v.cells c.new-in-Some.result c.args.cell) c.self.view_is

pub returns-in-Some-clause-slots : goal.returns-in-Some-clause-slots
returns-in-Some-clause-slots c = (within c).slots ∙ ap (λ v. max v.slots (map_of.len (shown c.put_at.new.slots.items).cells)) c.self.view_is
