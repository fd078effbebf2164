-- What is read of the listed nodes of mux_combine, and when its graphs can be made. These serve contracts of private functions.
use Rattle.std.specs.Prelude.{◌≡◌, ℕ, suc, ◌+◌, ◌*◌, ◌<◌, ◌^◌, Bool, List, [], ◌∷◌, ◌++◌, Option, Some, None, codes, drop, length, map, slice_index_or, take, if◌then◌else◌}
use Rattle.std.specs.List.{AllByRecursion, concat}
use Rattle.components.specs.declared.kind.Kind.{Kind}
use Rattle.components.specs.declared.kind.Kind.TheVariants as kind
use Rattle.components.specs.declared.node.Node.{Node}
use Rattle.components.specs.Name.{Name}
use Rattle.components.specs.Kind.{Shape, field}
use Rattle.components.specs.NamedGraph.{NamedGraph}
use Rattle.circuits.specs.Circuit.{circuit_of}
use Rattle.circuit_plans.specs.Places.{Place, before}
use Rattle.circuit_plans.specs.Plans.{Out}
use Rattle.graph_core.specs.declared.exchange.End.{End}
use Rattle.graph_core.specs.declared.exchange.End.TheVariants.{Fresh}
use Rattle.lane_laws.specs.CombineMuxes.{Stop, into, select, Tree, CanCombineMuxes}
use Rattle.subst_engine.specs.Making.{bare_node}
use Rattle.subst_engine.specs.Prefix.{prefix_text}
use Rattle.drawn_rules.specs.declared.rows.Row.TheVariants.{Nodes, Ports}
use Rattle.drawn_rules.specs.declared.row_ends.EndKind.TheVariants.{Entry, Exit}
use Rattle.drawn_rules.specs.Labels.{AreFree}
use Rattle.drawn_rules.specs.RowEnds.{end_node, end_nodes}
use Rattle.drawn_rules.specs.Rows.{row_wires}
use Rattle.mux_branch_rules.specs.declared.mux_tree.Source.{Source}
use Rattle.mux_branch_rules.specs.declared.mux_tree.Source.TheVariants.{Outside, Output}

-- Forks and Buffers, and Muxes behind them

abbrev pub kind_before : Option Kind → List Kind → List Kind
kind_before (Some (kind.Buffer a)) kinds = kind.Buffer a ∷ kinds
kind_before (Some (kind.Fork a count)) kinds = kind.Fork a count ∷ kinds
kind_before _ kinds = []

-- the kinds of the Forks and the Buffers at the front of a list
abbrev pub tree_kinds : NamedGraph → List Name → List Kind
tree_kinds g [] = []
tree_kinds g (n ∷ names) = kind_before ((circuit_of g).kind_at n) (tree_kinds g names)

abbrev pub mux_shape : Option Kind → Shape
mux_shape (Some (kind.Mux shape)) = shape
mux_shape _ = []

-- the lanes of Muxes of these names, by their shapes
abbrev pub mux_lanes : NamedGraph → List Name → List Shape
mux_lanes g names = map (λ n. mux_shape ((circuit_of g).kind_at n)) names

abbrev pub AreMuxes : NamedGraph → List Name → Type 0
AreMuxes g names = AllByRecursion (λ n. (a : Shape) × ((circuit_of g).kind_at n ≡ Some (kind.Mux a))) names

-- The tree as a list of sources

-- the place of the node that an input is of, in the list of the tree's nodes and the Muxes
abbrev pub stop_place : (kinds : List Kind) (lanes : List Shape) → Stop kinds lanes → ℕ
stop_place kinds lanes (into n) = before kinds n
stop_place kinds lanes (select l) = length kinds + before lanes l

abbrev pub source_of : (kinds : List Kind) → Option (Out (Place kinds)) → Source
source_of kinds None = Outside
source_of kinds (Some q) = Output (before kinds q.at) q.port

-- the list has what feeds each input in the tree
pub record HasSources {kinds : List Kind} {lanes : List Shape} (tree : Tree kinds lanes) (sources : List Source) : Type 0 where
  pub long : length sources ≡ length kinds + length lanes
  pub are : (x : Stop kinds lanes) → slice_index_or sources (stop_place kinds lanes x) Outside ≡ source_of kinds (tree.source x)

-- the places of nodes are within the range of their numbers
abbrev pub IsNear : Source → Type 0
IsNear Outside = Unit {0}
IsNear (Output place port) = place + 1 < 2 ^ 64

-- the two graphs can be made
pub record CanMuxSides (prefix ends : ℕ) (names : List Name) (kinds : List Kind) (lanes : List Shape) (sources : List Source) : Type 0 where
  pub free : AreFree prefix ends names
  pub long : length names ≡ length kinds + length lanes
  pub can : CanCombineMuxes kinds lanes
  pub tree : Tree kinds lanes
  pub has : HasSources tree sources
  pub near : AllByRecursion IsNear sources

-- The nodes and wires of the two graphs, as lists

-- a node of each of these kinds
abbrev pub tree_nodes : List Name → List Kind → List Node
tree_nodes [] kinds = []
tree_nodes (name ∷ names) [] = []
tree_nodes (name ∷ names) (k ∷ kinds) = bare_node name k ∷ tree_nodes names kinds

-- a Mux for each lane
abbrev pub mux_nodes : List Name → List Shape → List Node
mux_nodes [] lanes = []
mux_nodes (name ∷ names) [] = []
mux_nodes (name ∷ names) (lane ∷ lanes) = bare_node name (kind.Mux lane) ∷ mux_nodes names lanes

abbrev pub mux_old_list : ℕ → List Name → List Kind → List Shape → List Node
mux_old_list ends names kinds lanes =
    (((((end_node Entry ends (codes "e") 0 (field 1) ∷ []) ++ tree_nodes names kinds) ++ end_nodes Entry ends (codes "p") 1 lanes) ++ end_nodes Entry ends (codes "q") 1 lanes)
    ++ mux_nodes (drop (length kinds) names) lanes) ++ end_nodes Exit ends (codes "x") 1 lanes

abbrev pub mux_new_list : ℕ → ℕ → Bool → List Shape → List Node
mux_new_list prefix ends goes_back lanes =
    (((end_node Entry ends (codes "e") 0 (field 1) ∷ bare_node (prefix_text prefix ++ (if goes_back then codes "in" else codes "back")) (kind.Join lanes) ∷
    bare_node (prefix_text prefix ++ (if goes_back then codes "back" else codes "in")) (kind.Join lanes) ∷ bare_node (prefix_text prefix ++ codes "mux") (kind.Mux (concat lanes)) ∷
    bare_node (prefix_text prefix ++ codes "vars") (kind.Split lanes) ∷ [])
    ++ end_nodes Entry ends (codes "p") 1 lanes) ++ end_nodes Entry ends (codes "q") 1 lanes) ++ end_nodes Exit ends (codes "x") 1 lanes

-- the end that a wire comes from, where the Entry of the select has place 0 and the nodes of the tree come next
abbrev pub source_end : Source → End
source_end Outside = Fresh 0 1
source_end (Output place port) = Fresh (place + 1) port

-- a wire into the first input of each node from this place on
abbrev pub source_wires : ℕ → List Source → List (End × End)
source_wires place [] = []
source_wires place (s ∷ sources) = (source_end s, Fresh place 1) ∷ source_wires (suc place) sources

-- of so many nodes of the tree and so many lanes
abbrev pub mux_old_ends : ℕ → ℕ → List Source → List (End × End)
mux_old_ends kinds lanes sources =
    (((source_wires 1 (take kinds sources) ++ source_wires ((1 + kinds) + 2 * lanes) (drop kinds sources)) ++ row_wires (Nodes (1 + kinds) 1) (Nodes ((1 + kinds) + 2 * lanes) 2) 0 lanes)
    ++ row_wires (Nodes ((1 + kinds) + lanes) 1) (Nodes ((1 + kinds) + 2 * lanes) 3) 0 lanes)
    ++ row_wires (Nodes ((1 + kinds) + 2 * lanes) 1) (Nodes ((1 + kinds) + 3 * lanes) 1) 0 lanes

abbrev pub mux_new_ends : ℕ → List (End × End)
mux_new_ends lanes =
    ((((Fresh 0 1, Fresh 3 1) ∷ (Fresh 1 1, Fresh 3 2) ∷ (Fresh 2 1, Fresh 3 3) ∷ (Fresh 3 1, Fresh 4 1) ∷ [])
    ++ row_wires (Nodes 5 1) (Ports 1) 0 lanes)
    ++ row_wires (Nodes (5 + lanes) 1) (Ports 2) 0 lanes)
    ++ row_wires (Ports 4) (Nodes (5 + 2 * lanes) 1) 0 lanes
