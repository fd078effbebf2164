-- The rule drop_buffer: a Buffer, or a Fork of one output, is left out.
use Rattle.std.specs.Prelude.{◌≡◌, ◌≢◌, false, [], bytes_eq, codes, if◌then◌else◌}
use Rattle.components.specs.declared.kind.Kind.{Kind}
use Rattle.components.specs.declared.kind.Kind.TheVariants.{Buffer, Fork}
use Rattle.components.specs.declared.node.Node.{Node}
use Rattle.components.specs.Name.{Name}
use Rattle.components.specs.Kind.{Shape, KindOk}
use Rattle.components.specs.Node.{NodeOk}
use Rattle.components.specs.NamedGraph.{NamedGraph, IsTyped}
use Rattle.circuits.specs.Circuit.{circuit_of}
use Rattle.circuits.specs.Buffers.{IsBufferLike, CanDropBuffer, IsWithoutBuffer}
use Rattle.circuits.specs.BufferRule.{straight, passing}
use Rattle.circuits.specs.ReplacedGraph.{has_inner, replaced_graph, Matches}
use Rattle.subst_engine.specs.declared.word.RuleWord.TheVariants.{DropBuffer}
use Rattle.subst_engine.specs.Rule.{NamedRule, IsSoundRule}

-- the shape of the tokens that a Buffer or a Fork passes on
abbrev pub passed_shape : Kind → Shape
passed_shape (Buffer shape) = shape
passed_shape (Fork shape count) = shape
passed_shape _ = []

-- a name for the Entry beside a node b, and one for the Exit
abbrev pub entry_name : Name → Name
entry_name b = if bytes_eq b (codes "in") then codes "from" else codes "in"

abbrev pub exit_name : Name → Name
exit_name b = if bytes_eq b (codes "out") then codes "to" else codes "out"

-- the rule at a node b of this kind: an Entry, b and an Exit in a row become the Entry wired to the Exit
abbrev pub drop_buffer : Name → Kind → NamedRule
drop_buffer b kind =
    record {
      word = DropBuffer;
      left = passing (entry_name b) b (exit_name b) kind (passed_shape kind);
      right = straight (entry_name b) (exit_name b) (passed_shape kind);
    }

-- the rule at the node b of g, which can be left out
pub record IsDropBuffer (g : NamedGraph) (b : Name) (rule : NamedRule) : Type 0 where
  pub can : CanDropBuffer (circuit_of g) b
  pub is : rule ≡ drop_buffer b can.kind

-- the node may stand in a graph, and passes on tokens of this shape
pub record Passes (node : Node) (shape : Shape) : Type 0 where
  pub ok : NodeOk node
  pub like : IsBufferLike node.kind
  pub is_shape : shape ≡ passed_shape node.kind

-- it is the node b of g, which can be left out
pub record IsPassing (g : NamedGraph) (b : Name) (node : Node) (shape : Shape) : Type 0 where
  pub passes : Passes node shape
  pub can : CanDropBuffer (circuit_of g) b
  pub is_name : node.name ≡ b
  pub is_kind : node.kind ≡ can.kind

-- Laws

-- the rule meets what a rule owes
abbrev pub DropBufferIsSound : Type 0
DropBufferIsSound = (b : Name) (kind : Kind) → IsBufferLike kind → KindOk kind → IsSoundRule (drop_buffer b kind)

-- it matches where it was made
abbrev pub DropBufferMatches : Type 0
DropBufferMatches = (g : NamedGraph) (b : Name) (rule : NamedRule) → IsTyped g → IsDropBuffer g b rule → Matches g rule.left rule.right

-- and there leaves out its node
abbrev pub DropBufferLeavesOut : Type 0
DropBufferLeavesOut = (g : NamedGraph) (b : Name) (rule : NamedRule) → IsTyped g → IsDropBuffer g b rule →
    IsWithoutBuffer (replaced_graph g rule.left rule.right) g b

-- and no other
abbrev pub DropBufferTakesOne : Type 0
DropBufferTakesOne = (g : NamedGraph) (b : Name) (rule : NamedRule) → IsDropBuffer g b rule → (n : Name) → n ≢ b → has_inner rule.left n ≡ false
