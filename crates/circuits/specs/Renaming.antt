-- Circuits under other names.
use Rattle.std.specs.Prelude.{◌≡◌, ℕ, ◌+◌, ◌≤◌, length, Option, Some, None}
use Rattle.components.specs.declared.kind.Kind.{Kind}
use Rattle.components.specs.Name.{Name, Port}
use Rattle.circuits.specs.Circuit.{Circuit}
use Rattle.circuits.specs.Replacing.{IsEnd}

-- names exchanged in pairs, with a bound on how much longer one gets
pub record Swap : Type 0 where
  pub to : Name → Name
  pub back : (n : Name) → to (to n) ≡ n
  pub growth : ℕ
  pub grows : (n : Name) → length (to n) ≤ length n + growth

-- a port under its other name
abbrev pub port_to : Swap → Port → Port
port_to x p = record { node = x.to p.node; port = p.port }

-- the same where there may be none
abbrev pub fed_to : Swap → Option Port → Option Port
fed_to x None = None
fed_to x (Some p) = Some (port_to x p)

-- c under the other names
abbrev pub renamed : Swap → Circuit → Circuit
renamed x c = record { kind_at = λ n. c.kind_at (x.to n); feeder = λ p. fed_to x (c.feeder (port_to x p)) }

-- the Entries and Exits of c keep their names
abbrev pub KeepsEnds : Swap → Circuit → Type 0
KeepsEnds x c = (n : Name) (k : Kind) → c.kind_at n ≡ Some k → IsEnd k → x.to n ≡ n
