use Rattle.std.proofs.Common.{◌≡◌, ◌∙◌, None, rules, sym, ap}
use Rattle.std.specs.FinMap as finite
use Rattle.graph_core.specs.Arena.{without_wired}
use Rattle.graph_core.specs.Cells.{without_cell}
use Rattle.graph_core.proofs.SlotLemmas.{no_cell}
use Rattle.graph_core.proofs.arena.take.Goals as goal

pub returns-in_err-node-clause-cells : goal.returns-in_err-node-clause-cells
returns-in_err-node-clause-cells c =
    let none : finite.get c.args.cells.now.cells c.args.id ≡ None = search rules in
    let gone : c.remove.new.self ≡ without_cell c.args.cells.now c.args.id = search rules in
    gone ∙ no_cell c.args.cells.now c.args.id none ∙ sym (ap (without_wired c.args.cells.now c.args.id) none)
