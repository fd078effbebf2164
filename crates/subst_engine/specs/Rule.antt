-- Rules of local rewriting by names.
use Rattle.std.specs.Prelude.{refl}
use Rattle.std.specs.Coded.{Coded, code_by, coded×}
use Rattle.components.specs.NamedGraph.{NamedGraph}
use Rattle.circuits.specs.Circuit.{circuit_of}
use Rattle.circuits.specs.Refines.{Refines}
use Rattle.circuits.specs.ReplacedGraph.{IsRule}
use Rattle.graph_core.specs.GraphValue.{named_graph_code}
use Rattle.subst_engine.specs.declared.word.RuleWord.{RuleWord}
use Rattle.subst_engine.specs.contracts.word.RuleWord as rule_word

-- the word of a rule, the part that it looks for, and what comes into its place
pub record NamedRule : Type 0 where
  pub word : RuleWord
  pub left : NamedGraph
  pub right : NamedGraph

-- what a rule owes: right may come in the place of left, and shows nothing that left does not
pub record IsSoundRule (rule : NamedRule) : Type 0 where
  pub is_rule : IsRule rule.left rule.right
  pub refines : Refines (circuit_of rule.right) (circuit_of rule.left)

-- how a rule is stored, where it is the value of a type
abbrev pub rule_code : Coded NamedRule
rule_code =
    code_by (RuleWord × (NamedGraph × NamedGraph)) (coded× rule_word.the_row.coded (coded× named_graph_code named_graph_code))
    (λ r. (r.word, (r.left, r.right))) (λ p. record { word = p.0; left = p.1.0; right = p.1.1 }) (λ _. refl)
