use Rattle.std.proofs.Common.{◌≡◌, ◌∙◌, slice_get, rules, sym, ap}
use Rattle.std.specs.FinMap as map_of
use Rattle.std.specs.Option.{option_copied}
use Rattle.graph_core.specs.Slots.{cell_in}
use Rattle.graph_core.proofs.SlotLemmas.{get_shown}
use Rattle.graph_core.proofs.cells.Cells.get.Goals as goal

pub returns : goal.returns
returns c =
    let found : option_copied c.cell_at.result ≡ cell_in (slice_get c.self.inside.slots.items c.args.id.index) = search rules in
    found ∙ sym (get_shown c.self.inside.slots.items c.args.id) ∙ ap (λ v. map_of.get v.cells c.args.id) c.self.view_is
