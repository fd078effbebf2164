-- Nodes in the byte order of their names.
use Rattle.std.specs.Prelude.{◌↔◌, List}
use Rattle.circuits.specs.Replacing.{In}
use Rattle.loop_laws.specs.BodyOrder.{Ascending}
use Rattle.graph_core.specs.declared.place.NodeId.{NodeId}
use Rattle.graph_core.specs.GraphValue.{GraphValue}
use Rattle.loop_find.specs.Marks.{names_by}

-- the nodes of the set in byte order of their names
pub record AreByName (g : GraphValue) (set ids : List NodeId) : Type 0 where
  pub same : (id : NodeId) → In id ids ↔ In id set
  pub by_name : Ascending (names_by g ids)
