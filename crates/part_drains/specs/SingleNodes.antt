-- Parts that are one node, or a Pure and the Split behind it.
use Rattle.std.specs.Prelude.{◌≡◌, ◌⊎◌, true, false, List, Some}
use Rattle.fun_expr.specs.Function.{Function}
use Rattle.components.specs.declared.kind.Kind.{Kind}
use Rattle.components.specs.declared.kind.Kind.TheVariants.{Tagger, Pure, Split}
use Rattle.components.specs.Name.{Name, Port}
use Rattle.components.specs.Kind.{Shape}
use Rattle.circuits.specs.Circuit.{Circuit}
use Rattle.circuits.specs.Buffers.{first_port}
use Rattle.part_drains.specs.Part.{inside}

-- a kind whose firings leave the slots as they are
abbrev pub KeepsSlots : Kind → Type 0
KeepsSlots (Tagger shape tags) = ⊥
KeepsSlots _ = Unit {0}

-- the part is one node without slots, not wired to itself
pub record IsOneNode (part : Circuit) (n : Name) : Type 0 where
  pub kind : Kind
  pub is_kind : part.kind_at n ≡ Some kind
  pub keeps : KeepsSlots kind
  pub only : (m : Name) → inside part m ≡ true → m ≡ n
  pub no_self : (p q : Port) → part.feeder p ≡ Some q → inside part p.node ≡ true → inside part q.node ≡ true → ⊥

-- the part is a Pure, fed from outside, and a Split of what it gives
pub record IsPureAndSplit (part : Circuit) (first second : Name) : Type 0 where
  pub function : Function
  pub shape : Shape
  pub parts : List Shape
  pub is_pure : part.kind_at first ≡ Some (Pure function shape)
  pub is_split : part.kind_at second ≡ Some (Split parts)
  pub link : part.feeder (first_port second) ≡ Some (first_port first)
  pub outside_feeds : (q : Port) → part.feeder (first_port first) ≡ Some q → inside part q.node ≡ false
  pub only : (m : Name) → inside part m ≡ true → (m ≡ first) ⊎ (m ≡ second)
