-- The root of an input: where the tokens on its wire come from.
use Rattle.std.specs.Prelude.{◌≡◌, Some}
use Rattle.components.specs.declared.kind.Kind.{Kind}
use Rattle.components.specs.declared.kind.Kind.TheVariants.{Buffer, Fork}
use Rattle.components.specs.Name.{Port}
use Rattle.circuits.specs.Circuit.{Circuit}
use Rattle.circuits.specs.Buffers.{first_port}

-- the kinds that a walk backwards goes through
abbrev pub PassesThrough : Kind → Type 0
PassesThrough (Buffer shape) = Unit {0}
PassesThrough (Fork shape count) = Unit {0}
PassesThrough _ = ⊥

-- backwards from input p, through Buffers and Forks, the first output of another kind is q; a walk that never ends has no root
pub data Root (c : Circuit) : Port → Port → Type 0 where
  here : {p q : Port} (k : Kind) → c.feeder p ≡ Some q → c.kind_at q.node ≡ Some k → ¬ (PassesThrough k) → Root c p q
  past : {p q : Port} (r : Port) (k : Kind) → c.feeder p ≡ Some r → c.kind_at r.node ≡ Some k → PassesThrough k →
      Root c (first_port r.node) q → Root c p q
