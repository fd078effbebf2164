-- The nodes of a graph that a use of a rule lists.
use Rattle.std.specs.Prelude.{◌≡◌, List, Some, IsSome}
use Rattle.std.specs.List.{AllByRecursion}
use Rattle.components.specs.declared.node.Node.{Node}
use Rattle.components.specs.Name.{Name}
use Rattle.components.specs.NamedGraph.{NamedGraph}
use Rattle.circuits.specs.Circuit.{circuit_of}
use Rattle.circuits.specs.Replacing.{NoneTwice}

-- the name is that of a node
abbrev pub IsNodeOf : NamedGraph → Name → Type 0
IsNodeOf g name = IsSome ((circuit_of g).kind_at name)

-- different names of nodes
pub record AreNodes (g : NamedGraph) (names : List Name) : Type 0 where
  pub differ : NoneTwice names
  pub nodes : AllByRecursion (IsNodeOf g) names

-- the node of this name
pub record IsNamed (g : NamedGraph) (name : Name) (node : Node) : Type 0 where
  pub is_name : node.name ≡ name
  pub is_kind : (circuit_of g).kind_at name ≡ Some node.kind
