use Rattle.std.proofs.Common.{◌≡◌, ◌∙◌, Some, None, slice_get, slice_set, rules, subst, sym, ap}
use Rattle.std.specs.FinMap as map_of
use Rattle.graph_core.specs.declared.cells.Slot.TheVariants.{Free}
use Rattle.graph_core.specs.Slots.{IsChained, shown, cell_in}
use Rattle.graph_core.specs.Cells.{without_cell}
use Rattle.graph_core.proofs.SlotLemmas.{Taken, taken, get_shown, no_cell}
use Rattle.graph_core.proofs.cells.Cells.remove.Goals as goal
use Rattle.graph_core.proofs.cells.Cells.remove.Goals.{After-cell_of}

pub returns-in_err-get-clause-gone : goal.returns-in_err-get-clause-gone
returns-in_err-get-clause-gone c =
    let none : map_of.get c.args.self.now.cells c.args.id ≡ None = search rules in
    sym (no_cell c.args.self.now c.args.id none)

gone : (c : After-cell_of) → Taken c.self.inside.slots.items (slice_set c.self.inside.slots.items c.args.id.index (Free c.self.inside.free)) (Some c.args.id.index) c.args.id.index
gone c =
    let live : map_of.get c.args.self.now.cells c.args.id ≡ Some c.in_ok-get.field-0.now = search rules in
    taken c.self.inside.slots.items c.args.id c.in_ok-get.field-0.now c.self.inside.free c.self.invariant (ap (λ v. map_of.get v.cells c.args.id) c.self.view_is ∙ live)

pub invariant_of-self : goal.invariant_of-self
invariant_of-self c =
    let put : c.put_at-taken.new.slots.items ≡ slice_set c.self.inside.slots.items c.args.id.index (Free c.self.inside.free) = search rules in
    let at : c.index-2.result ≡ c.args.id.index = search rules in
    subst (λ slots. IsChained slots (Some c.index-2.result)) (sym put) (subst (λ i. IsChained (slice_set c.self.inside.slots.items c.args.id.index (Free c.self.inside.free)) (Some i)) (sym at) (gone c).chained)

pub returns-clause-cell : goal.returns-clause-cell
returns-clause-cell c =
    let found : c.cell_of.result ≡ cell_in (slice_get c.self.inside.slots.items c.args.id.index) = search rules in
    found ∙ sym (get_shown c.self.inside.slots.items c.args.id) ∙ ap (λ v. map_of.get v.cells c.args.id) c.self.view_is

pub returns-clause-gone : goal.returns-clause-gone
returns-clause-gone c =
    let put : c.put_at-taken.new.slots.items ≡ slice_set c.self.inside.slots.items c.args.id.index (Free c.self.inside.free) = search rules in
    ap shown put ∙ (gone c).shows ∙ ap (λ v. without_cell v c.args.id) c.self.view_is
