-- What is read of the listed nodes of split_join, and when its graphs can be made. These serve contracts of private functions.
use Rattle.std.specs.Prelude.{◌≡◌, ◌≢◌, List, [], ◌∷◌, Some, length}
use Rattle.std.specs.List.{concat}
use Rattle.components.specs.declared.kind.Kind.TheVariants.{Entry, Exit, Split, Join}
use Rattle.components.specs.declared.node.Node.{Node}
use Rattle.components.specs.Name.{Name, IsName}
use Rattle.components.specs.Kind.{Shape, AreParts}
use Rattle.components.specs.NamedGraph.{NamedGraph}
use Rattle.circuits.specs.Circuit.{circuit_of}
use Rattle.lane_laws.specs.SplitJoin.{entry, exit}
use Rattle.graph_core.specs.declared.exchange.End.{End}
use Rattle.graph_core.specs.declared.exchange.End.TheVariants.{Fresh}
use Rattle.drawn_rules.specs.declared.rows.Row.TheVariants.{Ports}
use Rattle.drawn_rules.specs.Rows.{row_wires}
use Rattle.subst_engine.specs.Making.{bare_node}
use Rattle.pure_extract.specs.SplitJoin.{side_name}

-- s is a Split into these parts, and j a Join
pub record ReadsSplit (g : NamedGraph) (s j : Name) (parts : List Shape) : Type 0 where
  pub joined : List Shape
  pub is_split : (circuit_of g).kind_at s ≡ Some (Split parts)
  pub is_join : (circuit_of g).kind_at j ≡ Some (Join joined)

-- the two graphs can be made
pub record CanSplitSides (s j : Name) (parts : List Shape) : Type 0 where
  pub apart : s ≢ j
  pub split_name : IsName s
  pub join_name : IsName j
  pub are : AreParts parts

-- the nodes of the two graphs, as lists
abbrev pub split_nodes : Name → Name → List Shape → List Node
split_nodes s j parts =
    bare_node (side_name s j entry) (Entry (concat parts)) ∷ bare_node s (Split parts) ∷ bare_node j (Join parts) ∷ bare_node (side_name s j exit) (Exit (concat parts)) ∷ []

abbrev pub straight_nodes : Name → Name → List Shape → List Node
straight_nodes s j parts = bare_node (side_name s j exit) (Exit (concat parts)) ∷ bare_node (side_name s j entry) (Entry (concat parts)) ∷ []

-- the wires of the left graph: the Entry feeds the Split, which feeds the Join, and that the Exit
abbrev pub split_ends : List Shape → List (End × End)
split_ends parts = (Fresh 0 1, Fresh 1 1) ∷ (Fresh 2 1, Fresh 3 1) ∷ row_wires (Ports 1) (Ports 2) 0 (length parts)
