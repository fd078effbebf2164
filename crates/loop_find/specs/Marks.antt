-- The marks of a graph, by name.
use Rattle.std.specs.Prelude.{◌↔◌, Bool, false, List, map, Option, Some, nat_le}
use Rattle.std.specs.List.{AllByRecursion}
use Rattle.components.specs.declared.kind.Kind.{Kind}
use Rattle.components.specs.declared.kind.Kind.TheVariants.{Init}
use Rattle.components.specs.Name.{Name}
use Rattle.circuits.specs.Circuit.{circuit_of}
use Rattle.circuits.specs.Replacing.{In}
use Rattle.loop_laws.specs.Polarity.{IsMark}
use Rattle.loop_laws.specs.BodyOrder.{Ascending}
use Rattle.graph_core.specs.declared.place.NodeId.{NodeId}
use Rattle.graph_core.specs.GraphValue.{GraphValue, Denotes, name_by}

-- the names that ids denote
abbrev pub names_by : GraphValue → List NodeId → List Name
names_by g ids = map (name_by g.ids) ids

-- the ids of all marks, in byte order of their names
pub record AreMarks (g : GraphValue) (ids : List NodeId) : Type 0 where
  pub live : AllByRecursion (λ id. Denotes g id (name_by g.ids id)) ids
  pub marks : (n : Name) → In n (names_by g ids) ↔ IsMark (circuit_of g.graph) n
  pub by_name : Ascending (names_by g ids)

-- an Init that asks for tags
abbrev pub asks_for_tags : Option Kind → Bool
asks_for_tags (Some (Init value tags)) = nat_le 1 tags
asks_for_tags _ = false

-- the same of the node of an id
abbrev pub is_marked : GraphValue → NodeId → Bool
is_marked g id = asks_for_tags ((circuit_of g.graph).kind_at (name_by g.ids id))
