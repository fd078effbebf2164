use Rattle.std.proofs.Common.{◌≡◌, ◌∙◌, rules, sym, ap}
use Rattle.std.specs.FinMap as finite
use Rattle.std.specs.Map.{lookup}
use Rattle.graph_core.proofs.NameLookups.{has}
use Rattle.graph_core.proofs.NameTable.{get_in_table}
use Rattle.graph_core.proofs.names.Names.get.Goals as goal

pub returns : goal.returns
returns c =
    let found : c.copied.result ≡ lookup (has (λ key. key.items) c.args.name.now) c.self.inside.ids.entries = search rules in
    found ∙ sym (get_in_table (λ key. key.items) c.args.name.now c.self.inside.ids.entries) ∙ ap (λ m. finite.get m.ids c.args.name.now) c.self.view_is
