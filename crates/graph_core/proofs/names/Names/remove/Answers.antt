use Rattle.std.proofs.Common.{◌≡◌, ◌∙◌, None, rules, ap}
use Rattle.std.specs.FinMap as finite
use Rattle.std.specs.Map.{lookup}
use Rattle.graph_core.proofs.NameLookups.{has, others_kept}
use Rattle.graph_core.proofs.NameTable.{table_without}
use Rattle.graph_core.proofs.names.Names.remove.Goals as goal

pub returns-clause-ids : goal.returns-clause-ids
returns-clause-ids c =
    let here : lookup (has (λ key. key.items) c.args.name.now) c.swap_remove.new.self.entries ≡ None = search rules in
    table_without (λ key. key.items) c.args.name.now c.self.inside.ids.entries c.swap_remove.new.self.entries
    (λ other apart. others_kept (λ key. key.items) c.args.name.now other _ _ c.swap_remove.ensures.updates.3 apart) here
    ∙ ap (λ m. finite.remove m.ids c.args.name.now) c.self.view_is
