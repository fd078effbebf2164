use Rattle.std.proofs.Common.{◌∙◌, slice_get, refl, subst, sym, ap}
use Rattle.graph_core.specs.Slots.{IsChained, shown}
use Rattle.graph_core.specs.Cells.{put_end, with_end}
use Rattle.graph_core.proofs.SlotLemmas.{rewritten, get_shown}
use Rattle.graph_core.proofs.cells.Cells.set_end.Goals as goal
use Rattle.graph_core.proofs.cells.Cells.set_end.Goals.{After-set_end_in}

pub invariant_of-self : goal.invariant_of-self
invariant_of-self c =
    subst (λ slots. IsChained slots c.self.inside.free) (sym c.set_end_in.ensures)
    (rewritten c.self.inside.slots.items c.args.side c.args.port c.args.end c.self.inside.free c.self.invariant (slice_get c.self.inside.slots.items c.args.port.node.index) refl).0

pub returns : goal.returns
returns c =
    ap shown c.set_end_in.ensures
    ∙ (rewritten c.self.inside.slots.items c.args.side c.args.port c.args.end c.self.inside.free c.self.invariant (slice_get c.self.inside.slots.items c.args.port.node.index) refl).1
    ∙ ap (put_end (shown c.self.inside.slots.items) c.args.side c.args.port c.args.end) (sym (get_shown c.self.inside.slots.items c.args.port.node))
    ∙ ap (λ v. with_end v c.args.side c.args.port c.args.end) c.self.view_is
