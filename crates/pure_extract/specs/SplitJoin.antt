-- The rule split_join: a Split whose outputs are joined again in their order gives way to a wire.
use Rattle.std.specs.Prelude.{◌≡◌, ◌≢◌, ◌||◌, ℕ, List, Some, length, bytes_eq, codes, if◌then◌else◌}
use Rattle.std.specs.FinMap as finite
use Rattle.std.specs.List.{concat}
use Rattle.components.specs.declared.kind.Kind.TheVariants.{Split, Join}
use Rattle.components.specs.Name.{Name, port_get}
use Rattle.components.specs.Kind.{Shape, AreParts}
use Rattle.components.specs.NamedGraph.{NamedGraph, IsTyped}
use Rattle.circuits.specs.Circuit.{circuit_of}
use Rattle.circuits.specs.Buffers.{first_port}
use Rattle.circuits.specs.BufferRule.{straight}
use Rattle.circuits.specs.ReplacedGraph.{Matches}
use Rattle.lane_laws.specs.SplitJoin.{SplitJoined, entry, split, join, exit, split_joined_graph}
use Rattle.subst_engine.specs.declared.word.RuleWord.TheVariants.{SplitJoin}
use Rattle.subst_engine.specs.Rule.{NamedRule, IsSoundRule}

-- the first of three texts that is neither of two names
abbrev pub other_text : Name → Name → Name → Name → Name → Name
other_text s j first second third =
    if bytes_eq s first || bytes_eq j first then (if bytes_eq s second || bytes_eq j second then third else second) else first

-- the names of the left graph: the Entry and the Exit have names that the two nodes do not have
abbrev pub side_name : Name → Name → SplitJoined → Name
side_name s j entry = other_text s j (codes "in") (codes "from") (codes "a")
side_name s j split = s
side_name s j join = j
side_name s j exit = other_text s j (codes "out") (codes "to") (codes "z")

-- the rule at a Split s into these parts and a Join j of them
abbrev pub split_join : Name → Name → List Shape → NamedRule
split_join s j parts =
    record {
      word = SplitJoin;
      left = split_joined_graph parts (side_name s j);
      right = straight (side_name s j entry) (side_name s j exit) (concat parts);
    }

-- an instance: s is a Split and j a Join, with equally many outputs and inputs; each output of s is wired to the input of the same number of j,
-- and the output of j is not wired to s
pub record CanSplitJoin (g : NamedGraph) (s j : Name) : Type 0 where
  pub parts : List Shape
  pub joined : List Shape
  pub is_split : (circuit_of g).kind_at s ≡ Some (Split parts)
  pub is_join : (circuit_of g).kind_at j ≡ Some (Join joined)
  pub even : length parts ≡ length joined
  pub between : (i : ℕ) (shape : Shape) → port_get parts i ≡ Some shape →
      finite.get g.feeders (record { node = j; port = i }) ≡ Some (record { node = s; port = i })
  pub apart : finite.get g.feeders (first_port s) ≢ Some (first_port j)

-- the rule at an instance
pub record IsSplitJoin (g : NamedGraph) (s j : Name) (rule : NamedRule) : Type 0 where
  pub can : CanSplitJoin g s j
  pub is : rule ≡ split_join s j can.parts

-- Laws

-- the rule at different names meets what a rule owes
abbrev pub SplitJoinIsSound : Type 0
SplitJoinIsSound = (s j : Name) (parts : List Shape) → s ≢ j → AreParts parts → IsSoundRule (split_join s j parts)

-- it matches where it was made
abbrev pub SplitJoinMatches : Type 0
SplitJoinMatches = (g : NamedGraph) (s j : Name) (rule : NamedRule) → IsTyped g → IsSplitJoin g s j rule → Matches g rule.left rule.right
