-- Feeders: nodes that give a loop the same tokens in every turn, and nothing to anyone else.
use Rattle.std.specs.Prelude.{◌≡◌, ◌⊎◌, Bool, List, [], ◌∷◌, Some}
use Rattle.components.specs.declared.kind.Kind.{Kind}
use Rattle.components.specs.declared.kind.Kind.TheVariants.{Buffer, Fork, Join, Split, Operator, Constant, Source0, Pure}
use Rattle.components.specs.Name.{Name, Port}
use Rattle.circuits.specs.Circuit.{Circuit}
use Rattle.circuits.specs.Replacing.{In}
use Rattle.loop_laws.specs.Reached.{HasKind, FedBy, Reached}
use Rattle.loop_laws.specs.BackPath.{IsLaneBranch}

-- the kinds of constant nodes
abbrev pub IsConstant : Kind → Type 0
IsConstant (Source0 shape) = Unit {0}
IsConstant (Buffer shape) = Unit {0}
IsConstant (Fork shape count) = Unit {0}
IsConstant (Join shapes) = Unit {0}
IsConstant (Split shapes) = Unit {0}
IsConstant (Operator op widths width) = Unit {0}
IsConstant (Constant shape width value) = Unit {0}
IsConstant (Pure fun shape) = Unit {0}
IsConstant _ = ⊥

-- constant nodes, each after those that feed it. A Source0 has no inputs, so the first is one
abbrev pub AreConstant : Circuit → List Name → List Name → Type 0
AreConstant c before [] = Unit {0}
AreConstant c before (n ∷ ns) = HasKind c IsConstant n × FedBy c (λ x. In x before) n × AreConstant c (n ∷ before) ns

-- where a wire may leave the feeders: a reached node, a lane's Branch, or m
abbrev pub TakesConstants : Circuit → Name → Bool → Name → Type 0
TakesConstants c m goes_back n = Reached c m n ⊎ (IsLaneBranch c m goes_back n ⊎ (n ≡ m))

-- a set of constant nodes that takes nothing from elsewhere, and feeds itself and the loop alone
pub record AreFeeders (c : Circuit) (m : Name) (goes_back : Bool) (ns : List Name) : Type 0 where
  pub constant : AreConstant c [] ns
  pub feeds : (p q : Port) → In q.node ns → c.feeder p ≡ Some q → In p.node ns ⊎ TakesConstants c m goes_back p.node

-- n is in the greatest such set, which is the union of all
abbrev pub Feeder : Circuit → Name → Bool → Name → Type 0
Feeder c m goes_back n = (ns : List Name) × In n ns × AreFeeders c m goes_back ns
