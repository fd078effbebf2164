use Rattle.std.proofs.Common.{◌∙◌, is_some, sym, ap}
use Rattle.std.specs.FinMap as finite
use Rattle.graph_core.proofs.NameLookups.{others_kept}
use Rattle.graph_core.proofs.NameTable.{table_with, get_in_table}
use Rattle.graph_core.proofs.names.Names.set.Goals as goal

pub put_in-requires : goal.put_in-requires
put_in-requires c = ap is_some (sym (get_in_table (λ key. key.items) c.args.name.now c.self.inside.ids.entries)) ∙ ap (λ m. is_some (finite.get m.ids c.args.name.now)) c.self.view_is ∙ c.requires

pub returns : goal.returns
returns c =
    table_with (λ key. key.items) c.args.name.now c.self.inside.ids.entries c.put_in.new.ids.entries
    (λ other apart. others_kept (λ key. key.items) c.args.name.now other _ _ c.put_in.ensures.3 apart) c.args.id c.put_in.ensures.1
    ∙ ap (λ m. finite.insert m.ids c.args.name.now c.args.id) c.self.view_is
