use Rattle.std.proofs.Common.{◌≡◌, ◌∙◌, Some, rules, ap}
use Rattle.std.specs.FinMap as finite
use Rattle.std.specs.Map.{lookup}
use Rattle.graph_core.proofs.NameLookups.{has, others_kept}
use Rattle.graph_core.proofs.NameTable.{table_with}
use Rattle.graph_core.proofs.names.Names.put.Goals as goal

pub returns-clause-ok : goal.returns-clause-ok
returns-clause-ok c =
    let here : lookup (has (λ key. key.items) c.args.name.items) c.insert.new.self.entries ≡ Some c.args.id = search rules in
    table_with (λ key. key.items) c.args.name.items c.self.inside.ids.entries c.insert.new.self.entries
    (λ other apart. others_kept (λ key. key.items) c.args.name.items other _ _ c.in_ok-insert.ensures.updates.3 apart) c.args.id here
    ∙ ap (λ m. finite.insert m.ids c.args.name.items c.args.id) c.self.view_is
