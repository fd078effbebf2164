use Rattle.std.proofs.Common.{◌∙◌, sym, ap}
use Rattle.std.specs.FinMap as finite
use Rattle.std.specs.List.{each_same}
use Rattle.graph_core.proofs.NameLookups.{lookup_same}
use Rattle.components.specs.Orders.{name_total, name_same}
use Rattle.graph_core.proofs.NameTable.{get_in_table}
use Rattle.graph_core.proofs.names.Names.copy.Goals as goal

pub returns : goal.returns
returns c =
    finite.same_map name_total name_same _ _ (λ name.
    get_in_table (λ key. key.items) name c.in_ok-ids.ids.entries
    ∙ lookup_same (λ key. key.items) (λ k l equal. each_same k.items l.items equal.0) (λ x y equal. equal) name _ _ c.in_ok-ids.ensures.cases
    ∙ sym (get_in_table (λ key. key.items) name c.self.inside.ids.entries))
    ∙ ap (λ m. m.ids) c.self.view_is
