use Rattle.std.proofs.Common.{◌≡◌, ◌∙◌, None, rules, sym, ap}
use Rattle.std.specs.FinMap as finite
use Rattle.std.specs.Option.{option_copied}
use Rattle.circuits.specs.Circuit.{kind_of_body}
use Rattle.module_sem.specs.EndShapes.{entry_shape}
use Rattle.module_sem.proofs.Ends.{nothing_dead}
use Rattle.module_sem.proofs.conditions.entry_shape.Goals as goal

pub returns-in_err-shape : goal.returns-in_err-shape
returns-in_err-shape c =
    let g = c.args.g.now in
    let dead : finite.get g.ids c.args.id ≡ None = search rules in
    let none : option_copied c.from_residual.result ≡ None = search rules in
    none ∙ sym (ap (λ o. entry_shape (kind_of_body o)) (nothing_dead g g c.is_graph.ensures c.args.id dead))
