-- The table of the ids of nodes by their names.
use Rattle.std.specs.Prelude.{ℕ, refl}
use Rattle.std.specs.Coded.{Coded, code_by, coded×, coded_list, coded_ℕ}
use Rattle.std.specs.FinMap as finite
use Rattle.components.specs.Name.{name_cmp}
use Rattle.graph_core.specs.declared.place.NodeId.{NodeId}
use Rattle.graph_core.specs.contracts.place.NodeId as id

abbrev pub IdsByName : Type 0
IdsByName = finite.FinMap name_cmp NodeId

abbrev pub ids_by_name_code : Coded IdsByName
ids_by_name_code = finite.code (coded_list coded_ℕ) id.the_row.coded

-- the ids by name, and how many more names find room without new memory
pub record NamesValue : Type 0 where
  pub ids : IdsByName
  pub room : ℕ

abbrev pub names_code : Coded NamesValue
names_code = code_by (IdsByName × ℕ) (coded× ids_by_name_code coded_ℕ) (λ n. (n.ids, n.room)) (λ p. record { ids = p.0; room = p.1 }) (λ _. refl)
