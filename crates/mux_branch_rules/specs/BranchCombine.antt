-- The rules branch_combine and branch_combine0: one Branch in the place of the Branches of several lanes and the Fork that leads one condition to them.
use Rattle.std.specs.Prelude.{◌≡◌, ℕ, suc, Bool, true, false, List, [], ◌∷◌, Option, Some, map, codes, length, if◌then◌else◌}
use Rattle.components.specs.declared.kind.Kind.{Kind}
use Rattle.components.specs.declared.kind.Kind.TheVariants.{Branch}
use Rattle.components.specs.Name.{Name}
use Rattle.components.specs.Kind.{Shape}
use Rattle.components.specs.NamedGraph.{NamedGraph, IsTyped}
use Rattle.circuits.specs.Circuit.{circuit_of}
use Rattle.circuits.specs.Replacing.{NoneTwice}
use Rattle.circuits.specs.ReplacedGraph.{Matches}
use Rattle.circuit_plans.specs.Places.{number}
use Rattle.lane_laws.specs.CombineBranches.{Branches, condition, fork, passed, value, branch, out1, out2, branches, branches_graph, OneBranch, new_condition, new_fork, new_passed, new_join, new_branch, new_split1, new_split2, new_value, new_out1, new_out2, one_branch, one_branch_graph, CanCombine}
use Rattle.subst_engine.specs.declared.word.RuleWord.{RuleWord}
use Rattle.subst_engine.specs.declared.word.RuleWord.TheVariants.{BranchCombine, BranchCombine0}
use Rattle.subst_engine.specs.Prefix.{IsFreshPrefix}
use Rattle.subst_engine.specs.Rule.{NamedRule, IsSoundRule}
use Rattle.drawn_rules.specs.Labels.{Label, listed, ending, fresh, label_name, AreFree}
use Rattle.drawn_rules.specs.Placed.{IsPlaced}

-- the shape of a Branch
abbrev pub branch_shape : Option Kind → Shape
branch_shape (Some (Branch shape)) = shape
branch_shape _ = []

-- the lanes of Branches of these names, by their shapes
abbrev pub lanes_of : NamedGraph → List Name → List Shape
lanes_of g names = map (λ n. branch_shape ((circuit_of g).kind_at n)) names

-- the labels of the Fork, which is listed first, and the Branches; the Entry of the condition has the letter e, those of the values have p,
-- the Exit of the condition has x, those of the first outputs have y and those of the second z
abbrev pub old_label : (lanes : List Shape) → Branches lanes → Label
old_label lanes condition = ending 101 0
old_label lanes fork = listed 0
old_label lanes passed = ending 120 0
old_label lanes (value l) = ending 112 (number lanes l)
old_label lanes (branch l) = listed (number lanes l)
old_label lanes (out1 l) = ending 121 (number lanes l)
old_label lanes (out2 l) = ending 122 (number lanes l)

-- and the labels of what comes in their place: `again` is the Split behind the output that leads back, the first where loops go back on condition 1
abbrev pub new_label : (goes_back : Bool) (lanes : List Shape) → OneBranch lanes → Label
new_label goes_back lanes new_condition = ending 101 0
new_label goes_back lanes new_fork = fresh (codes "cond")
new_label goes_back lanes new_passed = ending 120 0
new_label goes_back lanes new_join = fresh (codes "data")
new_label goes_back lanes new_branch = fresh (codes "branch")
new_label goes_back lanes new_split1 = fresh (if goes_back then codes "again" else codes "out")
new_label goes_back lanes new_split2 = fresh (if goes_back then codes "out" else codes "again")
new_label goes_back lanes (new_value l) = ending 112 (number lanes l)
new_label goes_back lanes (new_out1 l) = ending 121 (number lanes l)
new_label goes_back lanes (new_out2 l) = ending 122 (number lanes l)

-- the names, with the prefix of new nodes and that of Entries and Exits, where the listed nodes have these
abbrev pub old_name : ℕ → ℕ → List Name → (lanes : List Shape) → Branches lanes → Name
old_name prefix ends names lanes n = label_name prefix ends names (old_label lanes n)

abbrev pub new_name : ℕ → ℕ → List Name → Bool → (lanes : List Shape) → OneBranch lanes → Name
new_name prefix ends names goes_back lanes n = label_name prefix ends names (new_label goes_back lanes n)

-- the word of the rule, by whether loops go back on condition 1
abbrev pub branch_word : Bool → RuleWord
branch_word true = BranchCombine
branch_word false = BranchCombine0

-- the rule at a Fork and Branches of these names, in this order, with these lanes
abbrev pub branch_combine : ℕ → ℕ → List Name → Bool → List Shape → NamedRule
branch_combine prefix ends names goes_back lanes =
    record {
      word = branch_word goes_back;
      left = branches_graph lanes (old_name prefix ends names lanes);
      right = one_branch_graph lanes (new_name prefix ends names goes_back lanes);
    }

-- an instance: the first name is that of a Fork, and the others are those of at least one Branch, which it leads its condition to in their order, and on by its last output;
-- the names differ, there are no other wires between the nodes, no new node has the name of a node that stays, and each is within the limits of ports and fields
pub record IsBranchInstance (g : NamedGraph) (prefix ends : ℕ) (goes_back : Bool) (f : Name) (names : List Name) : Type 0 where
  pub differ : NoneTwice (f ∷ names)
  pub can : CanCombine (lanes_of g names)
  pub placed : IsPlaced g (branches (lanes_of g names)) (old_name prefix ends (f ∷ names) (lanes_of g names)) (one_branch (lanes_of g names)) (new_name prefix ends (f ∷ names) goes_back (lanes_of g names))

-- the rule at an instance; its Entries and Exits have a prefix that no node of g has, so their names are none of the listed ones
pub record IsBranchCombine (g : NamedGraph) (prefix : ℕ) (goes_back : Bool) (f : Name) (names : List Name) (rule : NamedRule) : Type 0 where
  pub ends : ℕ
  pub fresh : IsFreshPrefix g ends
  pub free : AreFree prefix ends (f ∷ names)
  pub at : IsBranchInstance g prefix ends goes_back f names
  pub is : rule ≡ branch_combine prefix ends (f ∷ names) goes_back (lanes_of g names)

-- there is an instance; the names of the Entries and the Exits are nothing to it
abbrev pub HasBranchInstance : NamedGraph → ℕ → Bool → Name → List Name → Type 0
HasBranchInstance g prefix goes_back f names = (ends : ℕ) × IsBranchInstance g prefix ends goes_back f names

-- Laws

-- the rule meets what a rule owes, at different names that do not begin with the prefix of its ends
abbrev pub BranchCombineIsSound : Type 0
BranchCombineIsSound = (prefix ends : ℕ) (names : List Name) (goes_back : Bool) (lanes : List Shape) → AreFree prefix ends names → length names ≡ suc (length lanes) → CanCombine lanes →
    IsSoundRule (branch_combine prefix ends names goes_back lanes)

-- it matches where it was made
abbrev pub BranchCombineMatches : Type 0
BranchCombineMatches = (g : NamedGraph) (prefix : ℕ) (goes_back : Bool) (f : Name) (names : List Name) (rule : NamedRule) → IsTyped g → IsBranchCombine g prefix goes_back f names rule → Matches g rule.left rule.right
