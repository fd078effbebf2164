-- Nodes that may fire late, and firings in that order.
use Rattle.std.specs.Prelude.{◌≡◌, Bool, true, false, List, Some}
use Rattle.std.specs.List.{AllByRecursion}
use Rattle.components.specs.Name.{Name, Port}
use Rattle.circuits.specs.Circuit.{Circuit}
use Rattle.circuits.specs.CircuitState.{CircuitState}
use Rattle.circuits.specs.Run.{Firing, Firings}

-- no wire leads from a late node to an early one
abbrev pub GoesOn : Circuit → (Name → Bool) → Type 0
GoesOn c late = (p q : Port) → c.feeder p ≡ Some q → late q.node ≡ true → late p.node ≡ true

-- the early nodes fire first, and then the late ones
pub record InOrder (c : Circuit) (late : Name → Bool) (s t : CircuitState) : Type 0 where
  pub early : List Firing
  pub middle : CircuitState
  pub later : List Firing
  pub first : Firings c s early middle
  pub then_late : Firings c middle later t
  pub are_early : AllByRecursion (λ g. late g.node ≡ false) early
  pub are_late : AllByRecursion (λ g. late g.node ≡ true) later
