-- The rules mux_combine and mux_combine0: one Mux in the place of the Muxes of several lanes and the tree that leads one select to them.
use Rattle.std.specs.Prelude.{◌≡◌, ℕ, ◌+◌, Bool, true, false, List, codes, length, if◌then◌else◌}
use Rattle.components.specs.declared.kind.Kind.{Kind}
use Rattle.components.specs.Name.{Name}
use Rattle.components.specs.Kind.{Shape}
use Rattle.components.specs.NamedGraph.{NamedGraph}
use Rattle.circuits.specs.Replacing.{NoneTwice}
use Rattle.circuits.specs.ReplacedGraph.{Matches}
use Rattle.circuit_plans.specs.Places.{before, number}
use Rattle.lane_laws.specs.CombineMuxes.{Tree, Muxes, choice, node, value2, value3, mux, out, muxes, muxes_graph, OneMux, new_choice, new_join2, new_join3, new_mux, new_split, new_value2, new_value3, new_out, one_mux, one_mux_graph, CanCombineMuxes}
use Rattle.subst_engine.specs.declared.word.RuleWord.{RuleWord}
use Rattle.subst_engine.specs.declared.word.RuleWord.TheVariants.{MuxCombine, MuxCombine0}
use Rattle.subst_engine.specs.Prefix.{IsFreshPrefix}
use Rattle.subst_engine.specs.Rule.{NamedRule, IsSoundRule}
use Rattle.drawn_rules.specs.Labels.{Label, listed, ending, fresh, label_name, AreFree}
use Rattle.drawn_rules.specs.Placed.{IsPlaced}

-- the labels of the nodes of the tree, which are listed first, and the Muxes; the Entry of the select has the letter e, those of the second
-- inputs have p and those of the third q, and the Exits have x
abbrev pub mux_old_label : (kinds : List Kind) (lanes : List Shape) → Muxes kinds lanes → Label
mux_old_label kinds lanes choice = ending 101 0
mux_old_label kinds lanes (node n) = listed (before kinds n)
mux_old_label kinds lanes (value2 l) = ending 112 (number lanes l)
mux_old_label kinds lanes (value3 l) = ending 113 (number lanes l)
mux_old_label kinds lanes (mux l) = listed (length kinds + before lanes l)
mux_old_label kinds lanes (out l) = ending 120 (number lanes l)

-- and the labels of what comes in their place: `in` joins what is new, which comes in by the second inputs where loops go back on condition 1, and `back` what comes back
abbrev pub mux_new_label : (goes_back : Bool) (lanes : List Shape) → OneMux lanes → Label
mux_new_label goes_back lanes new_choice = ending 101 0
mux_new_label goes_back lanes new_join2 = fresh (if goes_back then codes "in" else codes "back")
mux_new_label goes_back lanes new_join3 = fresh (if goes_back then codes "back" else codes "in")
mux_new_label goes_back lanes new_mux = fresh (codes "mux")
mux_new_label goes_back lanes new_split = fresh (codes "vars")
mux_new_label goes_back lanes (new_value2 l) = ending 112 (number lanes l)
mux_new_label goes_back lanes (new_value3 l) = ending 113 (number lanes l)
mux_new_label goes_back lanes (new_out l) = ending 120 (number lanes l)

-- the names, with the prefix of new nodes and that of Entries and Exits, where the listed nodes have these
abbrev pub mux_old_name : ℕ → ℕ → List Name → (kinds : List Kind) (lanes : List Shape) → Muxes kinds lanes → Name
mux_old_name prefix ends names kinds lanes n = label_name prefix ends names (mux_old_label kinds lanes n)

abbrev pub mux_new_name : ℕ → ℕ → List Name → Bool → (lanes : List Shape) → OneMux lanes → Name
mux_new_name prefix ends names goes_back lanes n = label_name prefix ends names (mux_new_label goes_back lanes n)

-- the word of the rule, by whether loops go back on condition 1
abbrev pub mux_word : Bool → RuleWord
mux_word true = MuxCombine
mux_word false = MuxCombine0

-- the rule at nodes of these names, in this order: those of a tree of these kinds, and the Muxes of these lanes
abbrev pub mux_combine : ℕ → ℕ → List Name → Bool → (kinds : List Kind) (lanes : List Shape) → Tree kinds lanes → NamedRule
mux_combine prefix ends names goes_back kinds lanes tree =
    record {
      word = mux_word goes_back;
      left = muxes_graph kinds lanes tree (mux_old_name prefix ends names kinds lanes);
      right = one_mux_graph lanes (mux_new_name prefix ends names goes_back lanes);
    }

-- an instance: different names of Forks and Buffers, of which there may be none, and of at least one Mux behind them, that stand in g as the drawing of the Muxes and the tree has them:
-- of the inputs of the one and the selects of the other one comes from outside, and the others from the tree; there is no other wire between the nodes;
-- no new node has the name of a node that stays, and each is within the limits of ports and fields
pub record IsMuxInstance (g : NamedGraph) (prefix ends : ℕ) (goes_back : Bool) (names : List Name) (kinds : List Kind) (lanes : List Shape) (tree : Tree kinds lanes) : Type 0 where
  pub long : length names ≡ length kinds + length lanes
  pub differ : NoneTwice names
  pub can : CanCombineMuxes kinds lanes
  pub placed : IsPlaced g (muxes kinds lanes tree) (mux_old_name prefix ends names kinds lanes) (one_mux lanes) (mux_new_name prefix ends names goes_back lanes)

-- the rule at an instance; its Entries and Exits have a prefix that no node of g has, so their names are none of the listed ones
pub record IsMuxCombine (g : NamedGraph) (prefix : ℕ) (goes_back : Bool) (names : List Name) (rule : NamedRule) : Type 0 where
  pub ends : ℕ
  pub kinds : List Kind
  pub lanes : List Shape
  pub tree : Tree kinds lanes
  pub fresh : IsFreshPrefix g ends
  pub free : AreFree prefix ends names
  pub at : IsMuxInstance g prefix ends goes_back names kinds lanes tree
  pub is : rule ≡ mux_combine prefix ends names goes_back kinds lanes tree

-- there is an instance; the names of the Entries and the Exits are nothing to it
pub record HasMuxInstance (g : NamedGraph) (prefix : ℕ) (goes_back : Bool) (names : List Name) : Type 0 where
  pub ends : ℕ
  pub kinds : List Kind
  pub lanes : List Shape
  pub tree : Tree kinds lanes
  pub at : IsMuxInstance g prefix ends goes_back names kinds lanes tree

-- Laws

-- the rule meets what a rule owes, at different names that do not begin with the prefix of its ends
abbrev pub MuxCombineIsSound : Type 0
MuxCombineIsSound = (prefix ends : ℕ) (names : List Name) (goes_back : Bool) (kinds : List Kind) (lanes : List Shape) (tree : Tree kinds lanes) → AreFree prefix ends names →
    length names ≡ length kinds + length lanes → CanCombineMuxes kinds lanes → IsSoundRule (mux_combine prefix ends names goes_back kinds lanes tree)

-- it matches where it was made
abbrev pub MuxCombineMatches : Type 0
MuxCombineMatches = (g : NamedGraph) (prefix : ℕ) (goes_back : Bool) (names : List Name) (rule : NamedRule) → IsMuxCombine g prefix goes_back names rule → Matches g rule.left rule.right
