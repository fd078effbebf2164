-- The rule trim_fork: an output of a Fork that feeds a Sink is left out.
use Rattle.std.specs.Prelude.{◌≡◌, ◌≢◌, ℕ, suc, ◌≤◌, List, [], ◌∷◌, codes, replicate}
use Rattle.components.specs.Name.{Name}
use Rattle.components.specs.Kind.{Shape}
use Rattle.components.specs.NamedGraph.{NamedGraph, IsTyped}
use Rattle.circuits.specs.ReplacedGraph.{Matches}
use Rattle.circuit_plans.specs.Places.{number}
use Rattle.lane_laws.specs.TrimFork.{Output, CanTrim, Untrimmed, entry, fork, sink, exit, untrimmed, untrimmed_graph, Trimmed, new_entry, new_fork, new_exit, trimmed, trimmed_graph}
use Rattle.subst_engine.specs.declared.word.RuleWord.TheVariants.{TrimFork}
use Rattle.subst_engine.specs.Prefix.{IsFreshPrefix}
use Rattle.subst_engine.specs.Rule.{NamedRule, IsSoundRule}
use Rattle.drawn_rules.specs.Labels.{Label, listed, ending, fresh, label_name, AreFree}
use Rattle.drawn_rules.specs.Placed.{IsPlaced}

-- the listed nodes, in the order of the rule
abbrev pub trim_names : Name → Name → List Name
trim_names f s = f ∷ s ∷ []

-- the labels of the Fork and the Sink: the Entry has the letter e, and the Exits have x and the number of their output among the others
abbrev pub old_label : (a : Shape) (others : ℕ) → Untrimmed a others → Label
old_label a others entry = ending 101 0
old_label a others fork = listed 0
old_label a others sink = listed 1
old_label a others (exit l) = ending 120 (number (replicate others a) l)

-- and those of the Fork in their place
abbrev pub new_label : (a : Shape) (others : ℕ) → Trimmed a others → Label
new_label a others new_entry = ending 101 0
new_label a others new_fork = fresh (codes "trim")
new_label a others (new_exit l) = ending 120 (number (replicate others a) l)

-- their names, with the prefix of new nodes and that of Entries and Exits
abbrev pub old_name : ℕ → ℕ → Name → Name → (a : Shape) (others : ℕ) → Untrimmed a others → Name
old_name prefix ends f s a others n = label_name prefix ends (trim_names f s) (old_label a others n)

abbrev pub new_name : ℕ → ℕ → Name → Name → (a : Shape) (others : ℕ) → Trimmed a others → Name
new_name prefix ends f s a others n = label_name prefix ends (trim_names f s) (new_label a others n)

-- the rule at a Fork f with a Sink s at this output, for tokens of shape a
abbrev pub trim_fork : ℕ → ℕ → Name → Name → (a : Shape) (others : ℕ) → Output a (suc others) → NamedRule
trim_fork prefix ends f s a others output =
    record {
      word = TrimFork;
      left = untrimmed_graph a others output (old_name prefix ends f s a others);
      right = trimmed_graph a others (new_name prefix ends f s a others);
    }

-- an instance: f is a Fork of this output and at least one other, and s a Sink; this output feeds the Sink, and there is no other wire between the two;
-- and the new Fork has not the name of a node that stays
pub record IsTrimInstance (g : NamedGraph) (prefix ends : ℕ) (f s : Name) (a : Shape) (others : ℕ) (output : Output a (suc others)) : Type 0 where
  pub some : 1 ≤ others
  pub differ : f ≢ s
  pub placed : IsPlaced g (untrimmed a others output) (old_name prefix ends f s a others) (trimmed a others) (new_name prefix ends f s a others)

-- the rule at an instance; its Entry and Exits have a prefix that no node of g has, so their names are none of the two
pub record IsTrimFork (g : NamedGraph) (prefix : ℕ) (f s : Name) (rule : NamedRule) : Type 0 where
  pub ends : ℕ
  pub shape : Shape
  pub others : ℕ
  pub output : Output shape (suc others)
  pub fresh : IsFreshPrefix g ends
  pub free : AreFree prefix ends (trim_names f s)
  pub at : IsTrimInstance g prefix ends f s shape others output
  pub is : rule ≡ trim_fork prefix ends f s shape others output

-- there is an instance; the names of the Entry and the Exits are nothing to it
abbrev pub HasTrimInstance : NamedGraph → ℕ → Name → Name → Type 0
HasTrimInstance g prefix f s = (ends : ℕ) × (a : Shape) × (others : ℕ) × (output : Output a (suc others)) × IsTrimInstance g prefix ends f s a others output

-- Laws

-- the rule meets what a rule owes, at different names that do not begin with the prefix of its ends
abbrev pub TrimForkIsSound : Type 0
TrimForkIsSound = (prefix ends : ℕ) (f s : Name) (a : Shape) (others : ℕ) (output : Output a (suc others)) → AreFree prefix ends (trim_names f s) → CanTrim a others →
    IsSoundRule (trim_fork prefix ends f s a others output)

-- it matches where it was made
abbrev pub TrimForkMatches : Type 0
TrimForkMatches = (g : NamedGraph) (prefix : ℕ) (f s : Name) (rule : NamedRule) → IsTyped g → IsTrimFork g prefix f s rule → Matches g rule.left rule.right
