-- The tree of a mark, by ids and in order.
use Rattle.std.specs.Prelude.{◌≢◌, ◌↔◌, List}
use Rattle.components.specs.Name.{Name}
use Rattle.circuits.specs.Circuit.{circuit_of}
use Rattle.circuits.specs.Replacing.{In}
use Rattle.loop_laws.specs.Reached.{OnTree}
use Rattle.loop_laws.specs.BodyOrder.{Ascending}
use Rattle.graph_core.specs.declared.place.NodeId.{NodeId}
use Rattle.graph_core.specs.GraphValue.{GraphValue}
use Rattle.loop_find.specs.Marks.{names_by}

-- the Forks and Buffers of the tree, without the mark, in byte order of their names
pub record IsTreeBy (g : GraphValue) (m : Name) (ids : List NodeId) : Type 0 where
  pub tree : (n : Name) → In n (names_by g ids) ↔ ((n ≢ m) × OnTree (circuit_of g.graph) m n)
  pub by_name : Ascending (names_by g ids)
