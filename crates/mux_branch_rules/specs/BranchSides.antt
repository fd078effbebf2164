-- What is read of the listed nodes of branch_combine, and when its graphs can be made. These serve contracts of private functions.
use Rattle.std.specs.Prelude.{◌≡◌, ℕ, suc, ◌+◌, ◌*◌, Bool, List, [], ◌∷◌, ◌++◌, Some, codes, length, if◌then◌else◌}
use Rattle.std.specs.List.{AllByRecursion, concat}
use Rattle.components.specs.declared.kind.Kind.TheVariants as kind
use Rattle.components.specs.declared.node.Node.{Node}
use Rattle.components.specs.Name.{Name}
use Rattle.components.specs.Kind.{Shape, field}
use Rattle.components.specs.NamedGraph.{NamedGraph}
use Rattle.circuits.specs.Circuit.{circuit_of}
use Rattle.graph_core.specs.declared.exchange.End.{End}
use Rattle.graph_core.specs.declared.exchange.End.TheVariants.{Fresh}
use Rattle.lane_laws.specs.CombineBranches.{CanCombine}
use Rattle.subst_engine.specs.Making.{bare_node}
use Rattle.subst_engine.specs.Prefix.{prefix_text}
use Rattle.drawn_rules.specs.declared.rows.Row.TheVariants.{Nodes, Ports}
use Rattle.drawn_rules.specs.declared.row_ends.EndKind.TheVariants.{Entry, Exit}
use Rattle.drawn_rules.specs.Labels.{AreFree}
use Rattle.drawn_rules.specs.RowEnds.{end_node, end_nodes}
use Rattle.drawn_rules.specs.Rows.{row_wires}

-- the names are those of Branches
abbrev pub AreBranches : NamedGraph → List Name → Type 0
AreBranches g names = AllByRecursion (λ n. (a : Shape) × ((circuit_of g).kind_at n ≡ Some (kind.Branch a))) names

-- the two graphs can be made
pub record CanBranchSides (prefix ends : ℕ) (f : Name) (names : List Name) (lanes : List Shape) : Type 0 where
  pub free : AreFree prefix ends (f ∷ names)
  pub long : length names ≡ length lanes
  pub can : CanCombine lanes

-- The nodes and wires of the two graphs, as lists

-- a Branch for each lane
abbrev pub branch_nodes : List Name → List Shape → List Node
branch_nodes [] lanes = []
branch_nodes (name ∷ names) [] = []
branch_nodes (name ∷ names) (lane ∷ lanes) = bare_node name (kind.Branch lane) ∷ branch_nodes names lanes

abbrev pub old_list : ℕ → Name → List Name → List Shape → List Node
old_list ends f names lanes =
    ((((end_node Entry ends (codes "e") 0 (field 1) ∷ bare_node f (kind.Fork (field 1) (suc (length lanes))) ∷ end_node Exit ends (codes "x") 0 (field 1) ∷ []) ++ end_nodes Entry ends (codes "p") 1 lanes)
    ++ branch_nodes names lanes) ++ end_nodes Exit ends (codes "y") 1 lanes) ++ end_nodes Exit ends (codes "z") 1 lanes

abbrev pub new_list : ℕ → ℕ → Bool → List Shape → List Node
new_list prefix ends goes_back lanes =
    (((end_node Entry ends (codes "e") 0 (field 1) ∷ bare_node (prefix_text prefix ++ codes "cond") (kind.Fork (field 1) 2) ∷ end_node Exit ends (codes "x") 0 (field 1) ∷
    bare_node (prefix_text prefix ++ codes "data") (kind.Join lanes) ∷ bare_node (prefix_text prefix ++ codes "branch") (kind.Branch (concat lanes)) ∷
    bare_node (prefix_text prefix ++ (if goes_back then codes "again" else codes "out")) (kind.Split lanes) ∷
    bare_node (prefix_text prefix ++ (if goes_back then codes "out" else codes "again")) (kind.Split lanes) ∷ [])
    ++ end_nodes Entry ends (codes "p") 1 lanes) ++ end_nodes Exit ends (codes "y") 1 lanes) ++ end_nodes Exit ends (codes "z") 1 lanes

-- of so many lanes
abbrev pub old_ends : ℕ → List (End × End)
old_ends lanes =
    (((((Fresh 0 1, Fresh 1 1) ∷ (Fresh 1 (lanes + 1), Fresh 2 1) ∷ []) ++ row_wires (Nodes 3 1) (Nodes (3 + lanes) 1) 0 lanes)
    ++ row_wires (Ports 1) (Nodes (3 + lanes) 2) 0 lanes)
    ++ row_wires (Nodes (3 + lanes) 1) (Nodes (3 + 2 * lanes) 1) 0 lanes)
    ++ row_wires (Nodes (3 + lanes) 2) (Nodes (3 + 3 * lanes) 1) 0 lanes

abbrev pub new_ends : ℕ → List (End × End)
new_ends lanes =
    ((((Fresh 0 1, Fresh 1 1) ∷ (Fresh 1 2, Fresh 2 1) ∷ (Fresh 3 1, Fresh 4 1) ∷ (Fresh 1 1, Fresh 4 2) ∷ (Fresh 4 1, Fresh 5 1) ∷ (Fresh 4 2, Fresh 6 1) ∷ [])
    ++ row_wires (Nodes 7 1) (Ports 3) 0 lanes)
    ++ row_wires (Ports 5) (Nodes (7 + lanes) 1) 0 lanes)
    ++ row_wires (Ports 6) (Nodes (7 + 2 * lanes) 1) 0 lanes
