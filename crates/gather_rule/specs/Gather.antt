-- The rule gather: one Pure with the function of a body in the place of a Split and the nodes of the body behind it.
use Rattle.std.specs.Prelude.{ℕ, suc, ◌≤◌, List, ◌∷◌, map, codes, length}
use Rattle.std.specs.List.{concat}
use Rattle.components.specs.Name.{Name}
use Rattle.components.specs.Kind.{AreParts}
use Rattle.circuit_plans.specs.Drawing.{drawn}
use Rattle.circuit_plans.specs.Places.{number}
use Rattle.body_laws.specs.Bodies as numbers
use Rattle.body_laws.specs.BodyPlans.{Part, enter, vars, node, tail, Way, next, condition, other, Gathered, entry, pure, pair, vals, fork, way}
use Rattle.subst_engine.specs.declared.word.RuleWord.TheVariants.{Gather}
use Rattle.subst_engine.specs.Rule.{NamedRule, IsSoundRule}
use Rattle.drawn_rules.specs.Labels.{Label, listed, ending, fresh, label_name, AreFree}
use Rattle.loop_body.specs.Body.{Body, IsBody}
use Rattle.loop_body.specs.BodyFunction.{body_function}
use Rattle.loop_body.specs.Laws.{next_shapes}
use Rattle.gather_rule.specs.NumberedBody.{numbered}
use Rattle.gather_rule.specs.GatherGraphs.{body_drawing, gathered_drawing}

-- the labels of the Exits: those of the data wires have the letter x, and those of the condition wires y
abbrev pub way_label : (b : numbers.Body) → Way b → Label
way_label b (next p) = ending 120 (number b.next p)
way_label b condition = ending 121 1
way_label b (other p) = ending 121 (suc (number b.others p))

-- the labels of the Entry, the Split, which is listed first, and the nodes
abbrev pub old_label : (b : numbers.Body) → Part b (Way b) → Label
old_label b enter = ending 101 0
old_label b vars = listed 0
old_label b (node p) = listed (number b.nodes p)
old_label b (tail w) = way_label b w

-- and the labels of what comes in their place
abbrev pub new_label : (b : numbers.Body) → Gathered b → Label
new_label b entry = ending 101 0
new_label b pure = fresh (codes "pure")
new_label b pair = fresh (codes "pair")
new_label b vals = fresh (codes "vals")
new_label b fork = fresh (codes "fork")
new_label b (way w) = way_label b w

-- the names, with the prefix of new nodes and that of Entries and Exits, where the listed nodes have these
abbrev pub old_name : ℕ → ℕ → List Name → (b : numbers.Body) → Part b (Way b) → Name
old_name prefix ends names b n = label_name prefix ends names (old_label b n)

abbrev pub new_name : ℕ → ℕ → List Name → (b : numbers.Body) → Gathered b → Name
new_name prefix ends names b n = label_name prefix ends names (new_label b n)

-- the names of the listed nodes: the Split of this name and the nodes of the body
abbrev pub listed_names : Name → Body → List Name
listed_names split b = split ∷ map (λ node. node.name) b.nodes

-- the rule at a Split of this name and the nodes of this body
abbrev pub gather : ℕ → ℕ → Name → Body → NamedRule
gather prefix ends split b =
    record {
      word = Gather;
      left = drawn (body_drawing (numbered b)) (old_name prefix ends (listed_names split b) (numbered b));
      right = drawn (gathered_drawing (numbered b) (body_function b)) (new_name prefix ends (listed_names split b) (numbered b));
    }

-- the new nodes are within the limits of ports and fields: there is a data wire, there are at most 63, and they have at most 127 fields together
pub record CanGather (b : Body) : Type 0 where
  pub parts : AreParts (next_shapes b)
  pub few : length b.next ≤ 63
  pub fields : length (concat (next_shapes b)) ≤ 127

-- Laws

-- the rule meets what a rule owes, at different names that do not begin with the prefix of its ends
abbrev pub GatherIsSound : Type 0
GatherIsSound = (prefix ends : ℕ) (split : Name) (b : Body) → AreFree prefix ends (listed_names split b) → IsBody b → CanGather b → IsSoundRule (gather prefix ends split b)
