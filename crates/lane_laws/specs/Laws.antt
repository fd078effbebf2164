-- What is proved of parts with lanes and of what comes in their place.
use Rattle.std.specs.Prelude.{◌≡◌, ℕ, suc, List, map}
use Rattle.std.specs.List.{concat}
use Rattle.components.specs.declared.kind.Kind.{Kind}
use Rattle.components.specs.Name.{Name}
use Rattle.components.specs.Kind.{Shape, AreParts}
use Rattle.circuits.specs.Circuit.{Circuit, Typed, circuit_of}
use Rattle.circuits.specs.Refines.{Refines}
use Rattle.circuits.specs.Replacing.{NoneTwice}
use Rattle.circuits.specs.ReplacedGraph.{IsRule}
use Rattle.circuits.specs.BufferRule.{straight}
use Rattle.circuit_plans.specs.Places.{Place}
use Rattle.lane_laws.specs.SplitJoin.{SplitJoined, split_joined_nodes, split_joined_graph}
use Rattle.lane_laws.specs.SplitJoin as split_join
use Rattle.lane_laws.specs.TrimFork.{Output, CanTrim, Untrimmed, entry, exit, untrimmed_nodes, untrimmed_graph, Trimmed, new_entry, new_exit, trimmed_nodes, trimmed_graph}
use Rattle.lane_laws.specs.CombineBranches.{Branches, branches_graph, OneBranch, one_branch_graph, CanCombine, BranchNames}
use Rattle.lane_laws.specs.CombineMuxes.{Stop, Tree, Muxes, node, mux, muxes_nodes, muxes_graph, OneMux, one_mux_graph, CanCombineMuxes, MuxNames}
use Rattle.lane_laws.specs.GraphTree.{source_in_graph, IsMuxTree}

-- A wire in the place of a Split whose outputs are joined again

-- it may come there
abbrev pub SplitJoinIsRule : Type 0
SplitJoinIsRule = (parts : List Shape) (name : SplitJoined → Name) → AreParts parts → NoneTwice (map name split_joined_nodes) →
    IsRule (split_joined_graph parts name) (straight (name split_join.entry) (name split_join.exit) (concat parts))

-- and shows nothing that the two do not, in any surrounding circuit
abbrev pub SplitJoinRefines : Type 0
SplitJoinRefines = (parts : List Shape) (name : SplitJoined → Name) → AreParts parts → NoneTwice (map name split_joined_nodes) →
    Refines (circuit_of (straight (name split_join.entry) (name split_join.exit) (concat parts))) (circuit_of (split_joined_graph parts name))

-- The Fork of the other outputs in the place of a Fork and a Sink

-- the names of the nodes of each of the two differ, but for the ends, which have one name in both
pub record TrimNames (a : Shape) (others : ℕ) (old : Untrimmed a others → Name) (new : Trimmed a others → Name) : Type 0 where
  pub old_names : NoneTwice (map old (untrimmed_nodes a others))
  pub new_names : NoneTwice (map new (trimmed_nodes a others))
  pub same_entry : new new_entry ≡ old entry
  pub same_exits : (l : Output a others) → new (new_exit l) ≡ old (exit l)

-- it may come there
abbrev pub TrimForkIsRule : Type 0
TrimForkIsRule = (a : Shape) (others : ℕ) (s : Output a (suc others)) (old : Untrimmed a others → Name) (new : Trimmed a others → Name) →
    CanTrim a others → TrimNames a others old new → IsRule (untrimmed_graph a others s old) (trimmed_graph a others new)

-- and shows nothing that the two do not, in any surrounding circuit
abbrev pub TrimForkRefines : Type 0
TrimForkRefines = (a : Shape) (others : ℕ) (s : Output a (suc others)) (old : Untrimmed a others → Name) (new : Trimmed a others → Name) →
    CanTrim a others → TrimNames a others old new → Refines (circuit_of (trimmed_graph a others new)) (circuit_of (untrimmed_graph a others s old))

-- One Branch in the place of the Branches of several lanes

-- it may come there
abbrev pub CombiningBranchesIsRule : Type 0
CombiningBranchesIsRule = (lanes : List Shape) (old : Branches lanes → Name) (new : OneBranch lanes → Name) → CanCombine lanes → BranchNames lanes old new →
    IsRule (branches_graph lanes old) (one_branch_graph lanes new)

-- and shows nothing that they do not, in any surrounding circuit
abbrev pub CombinedBranchesRefine : Type 0
CombinedBranchesRefine = (lanes : List Shape) (old : Branches lanes → Name) (new : OneBranch lanes → Name) → CanCombine lanes → BranchNames lanes old new →
    Refines (circuit_of (one_branch_graph lanes new)) (circuit_of (branches_graph lanes old))

-- One Mux in the place of the Muxes of several lanes and the tree that leads a select to them

-- it may come there
abbrev pub CombiningMuxesIsRule : Type 0
CombiningMuxesIsRule = (kinds : List Kind) (lanes : List Shape) (tree : Tree kinds lanes) (old : Muxes kinds lanes → Name) (new : OneMux lanes → Name) →
    CanCombineMuxes kinds lanes → MuxNames kinds lanes old new → IsRule (muxes_graph kinds lanes tree old) (one_mux_graph lanes new)

-- and shows nothing that they do not, in any surrounding circuit
abbrev pub CombinedMuxesRefine : Type 0
CombinedMuxesRefine = (kinds : List Kind) (lanes : List Shape) (tree : Tree kinds lanes) (old : Muxes kinds lanes → Name) (new : OneMux lanes → Name) →
    CanCombineMuxes kinds lanes → MuxNames kinds lanes old new → Refines (circuit_of (one_mux_graph lanes new)) (circuit_of (muxes_graph kinds lanes tree old))

-- Trees of listed nodes

-- listed Forks, Buffers and Muxes of a typed circuit, where they are as above, make a tree, whose wires are those of the circuit
abbrev pub ListedNodesMakeTree : Type 0
ListedNodesMakeTree = (g : Circuit) (kinds : List Kind) (lanes : List Shape) (node_name : Place kinds → Name) (mux_name : Place lanes → Name) → Typed g →
    IsMuxTree g kinds lanes node_name mux_name → (tree : Tree kinds lanes) × ((x : Stop kinds lanes) → tree.source x ≡ source_in_graph g kinds lanes node_name mux_name x)

-- and each tree is found so in the graph of Muxes and this tree
abbrev pub TreesAreFound : Type 0
TreesAreFound = (kinds : List Kind) (lanes : List Shape) (tree : Tree kinds lanes) (name : Muxes kinds lanes → Name) → NoneTwice (map name (muxes_nodes kinds lanes)) →
    IsMuxTree (circuit_of (muxes_graph kinds lanes tree name)) kinds lanes (λ n. name (node n)) (λ l. name (mux l))
