-- Nodes by index.
use Rattle.std.specs.Prelude.{ℕ}
use Rattle.std.specs.Ordering.{nat_cmp}
use Rattle.std.specs.declared.cmp.Ordering.{Ordering}
use Rattle.graph_core.specs.declared.place.NodeId.{NodeId}

abbrev pub index_of : NodeId → ℕ
index_of id = id.index

abbrev pub id_of : ℕ → NodeId
id_of index = record { index = index }

abbrev pub id_cmp : NodeId → NodeId → Ordering
id_cmp i j = nat_cmp i.index j.index
