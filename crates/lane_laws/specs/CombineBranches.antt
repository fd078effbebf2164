-- Branches that a Fork leads one condition to, one for each lane, and the one Branch that comes in their place. A lane is given by its shape.
use Rattle.std.specs.Prelude.{◌≡◌, suc, ◌≤◌, List, ◌∷◌, ◌++◌, length, map}
use Rattle.std.specs.List.{concat}
use Rattle.components.specs.declared.kind.Kind.{Kind}
use Rattle.components.specs.declared.kind.Kind.TheVariants.{Entry, Exit, Fork, Join, Split, Branch}
use Rattle.components.specs.Name.{Name}
use Rattle.components.specs.Kind.{Shape, AreParts, field}
use Rattle.components.specs.NamedGraph.{NamedGraph}
use Rattle.circuits.specs.Replacing.{NoneTwice}
use Rattle.circuit_plans.specs.Drawing.{DrawnWire, Drawing, wire, drawn}
use Rattle.circuit_plans.specs.Places.{Place, item, number, each_of}

-- the Branches, and the Fork that leads the condition to each of them and, by its last output, on; with an Entry or an Exit for each wire that leads in or out
pub data Branches (lanes : List Shape) : Type 0 where
  condition fork passed : Branches lanes
  value branch out1 out2 : Place lanes → Branches lanes

-- the lanes' values joined, one Branch, and a Split behind each of its outputs; with the same ends
pub data OneBranch (lanes : List Shape) : Type 0 where
  new_condition new_fork new_passed new_join new_branch new_split1 new_split2 : OneBranch lanes
  new_value new_out1 new_out2 : Place lanes → OneBranch lanes

abbrev pub branches_kind : (lanes : List Shape) → Branches lanes → Kind
branches_kind lanes condition = Entry (field 1)
branches_kind lanes fork = Fork (field 1) (suc (length lanes))
branches_kind lanes passed = Exit (field 1)
branches_kind lanes (value l) = Entry (item lanes l)
branches_kind lanes (branch l) = Branch (item lanes l)
branches_kind lanes (out1 l) = Exit (item lanes l)
branches_kind lanes (out2 l) = Exit (item lanes l)

abbrev pub branches_nodes : (lanes : List Shape) → List (Branches lanes)
branches_nodes lanes = condition ∷ fork ∷ passed ∷ (each_of lanes value ++ (each_of lanes branch ++ (each_of lanes out1 ++ each_of lanes out2)))

-- an output of the Fork for each Branch, in order, and the last for what the condition is led on to
abbrev pub branches_wires : (lanes : List Shape) → List (DrawnWire (Branches lanes))
branches_wires lanes =
    wire condition 1 fork 1 ∷ wire fork (suc (length lanes)) passed 1 ∷
    (each_of lanes (λ l. wire (value l) 1 (branch l) 1) ++
    (each_of lanes (λ l. wire fork (number lanes l) (branch l) 2) ++
    (each_of lanes (λ l. wire (branch l) 1 (out1 l) 1) ++
    each_of lanes (λ l. wire (branch l) 2 (out2 l) 1))))

abbrev pub branches : (lanes : List Shape) → Drawing (Branches lanes)
branches lanes = record { kind = branches_kind lanes; nodes = branches_nodes lanes; wires = branches_wires lanes }

abbrev pub one_branch_kind : (lanes : List Shape) → OneBranch lanes → Kind
one_branch_kind lanes new_condition = Entry (field 1)
one_branch_kind lanes new_fork = Fork (field 1) 2
one_branch_kind lanes new_passed = Exit (field 1)
one_branch_kind lanes new_join = Join lanes
one_branch_kind lanes new_branch = Branch (concat lanes)
one_branch_kind lanes new_split1 = Split lanes
one_branch_kind lanes new_split2 = Split lanes
one_branch_kind lanes (new_value l) = Entry (item lanes l)
one_branch_kind lanes (new_out1 l) = Exit (item lanes l)
one_branch_kind lanes (new_out2 l) = Exit (item lanes l)

abbrev pub one_branch_nodes : (lanes : List Shape) → List (OneBranch lanes)
one_branch_nodes lanes =
    new_condition ∷ new_fork ∷ new_passed ∷ new_join ∷ new_branch ∷ new_split1 ∷ new_split2 ∷
    (each_of lanes new_value ++ (each_of lanes new_out1 ++ each_of lanes new_out2))

abbrev pub one_branch_wires : (lanes : List Shape) → List (DrawnWire (OneBranch lanes))
one_branch_wires lanes =
    wire new_condition 1 new_fork 1 ∷ wire new_fork 2 new_passed 1 ∷ wire new_join 1 new_branch 1 ∷ wire new_fork 1 new_branch 2 ∷
    wire new_branch 1 new_split1 1 ∷ wire new_branch 2 new_split2 1 ∷
    (each_of lanes (λ l. wire (new_value l) 1 new_join (number lanes l)) ++
    (each_of lanes (λ l. wire new_split1 (number lanes l) (new_out1 l) 1) ++
    each_of lanes (λ l. wire new_split2 (number lanes l) (new_out2 l) 1)))

abbrev pub one_branch : (lanes : List Shape) → Drawing (OneBranch lanes)
one_branch lanes = record { kind = one_branch_kind lanes; nodes = one_branch_nodes lanes; wires = one_branch_wires lanes }

-- the two graphs, where the nodes have these names
abbrev pub branches_graph : (lanes : List Shape) → (Branches lanes → Name) → NamedGraph
branches_graph lanes name = drawn (branches lanes) name

abbrev pub one_branch_graph : (lanes : List Shape) → (OneBranch lanes → Name) → NamedGraph
one_branch_graph lanes name = drawn (one_branch lanes) name

-- lanes whose values can be joined, and few enough for a Fork that leads on, too
pub record CanCombine (lanes : List Shape) : Type 0 where
  pub parts : AreParts lanes
  pub few : suc (length lanes) ≤ 64

-- the names of the nodes of each of the two differ, but for the ends, which have one name in both
pub record BranchNames (lanes : List Shape) (old : Branches lanes → Name) (new : OneBranch lanes → Name) : Type 0 where
  pub old_names : NoneTwice (map old (branches_nodes lanes))
  pub new_names : NoneTwice (map new (one_branch_nodes lanes))
  pub same_condition : new new_condition ≡ old condition
  pub same_passed : new new_passed ≡ old passed
  pub same_values : (l : Place lanes) → new (new_value l) ≡ old (value l)
  pub same_outs1 : (l : Place lanes) → new (new_out1 l) ≡ old (out1 l)
  pub same_outs2 : (l : Place lanes) → new (new_out2 l) ≡ old (out2 l)
