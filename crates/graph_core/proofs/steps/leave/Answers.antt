use Rattle.std.proofs.Common.{refl, sym, subst}
use Rattle.std.specs.FinMap as finite
use Rattle.graph_core.specs.Arena.{without_wired}
use Rattle.graph_core.proofs.Take.{Taken, taken, taken_named}
use Rattle.graph_core.proofs.steps.leave.Goals as goal

gone : (c : goal.Joined-take) → Taken c.args.cells.now c.args.names.now.ids c.args.id (finite.get c.args.cells.now.cells c.args.id) c.take.new.cells c.take.new.names.ids
gone c =
    subst (λ d. Taken c.args.cells.now c.args.names.now.ids c.args.id (finite.get c.args.cells.now.cells c.args.id) d c.take.new.names.ids) (sym c.take.ensures.cells)
    (subst (Taken c.args.cells.now c.args.names.now.ids c.args.id (finite.get c.args.cells.now.cells c.args.id) (without_wired c.args.cells.now c.args.id (finite.get c.args.cells.now.cells c.args.id))) (sym c.take.ensures.names)
    (taken c.args.cells.now c.args.names.now.ids c.requires c.args.id (finite.get c.args.cells.now.cells c.args.id) refl))

pub returns-clause-arena : goal.returns-clause-arena
returns-clause-arena c = (gone c).ok

pub returns-clause-gone : goal.returns-clause-gone
returns-clause-gone c = taken_named c.args.cells.now c.args.names.now.ids c.args.id (finite.get c.args.cells.now.cells c.args.id) c.take.new.cells c.take.new.names.ids refl (gone c)
