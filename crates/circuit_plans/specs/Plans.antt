-- Plans: circuits whose nodes are the values of a type, and the names under which they stand for circuits.
use Rattle.std.specs.Prelude.{◌≡◌, ℕ, Bool, true, Option, Some, None}
use Rattle.components.specs.declared.kind.Kind.{Kind}
use Rattle.components.specs.Name.{Name, Port}
use Rattle.circuits.specs.Circuit.{Circuit}

-- an output of a node of a plan
pub record Out (N : Type 0) : Type 0 where
  pub at : N
  pub port : ℕ

-- a circuit whose nodes are the constructors of a type
pub record Plan (N : Type 0) : Type 0 where
  pub kind : N → Kind
  pub source : N → ℕ → Option (Out N)
  pub same : N → N → Bool
  pub same_is : (a b : N) → same a b ≡ true → a ≡ b
  pub same_self : (a : N) → same a a ≡ true

-- the names of a plan's nodes
pub record Naming (N : Type 0) : Type 0 where
  pub name : N → Name
  pub which : Name → Option N
  pub known : (n : N) → which (name n) ≡ Some n
  pub named : (m : Name) (n : N) → which m ≡ Some n → m ≡ name n

abbrev pub kind_by : {N : Type 0} → Plan N → Option N → Option Kind
kind_by c None = None
kind_by c (Some n) = Some (c.kind n)

abbrev pub out_by : {N : Type 0} → Naming N → Option (Out N) → Option Port
out_by x None = None
out_by x (Some q) = Some (record { node = x.name q.at; port = q.port })

abbrev pub feeder_by : {N : Type 0} → Plan N → Naming N → Option N → ℕ → Option Port
feeder_by c x None i = None
feeder_by c x (Some n) i = out_by x (c.source n i)

abbrev pub built : {N : Type 0} → Plan N → Naming N → Circuit
built c x = record { kind_at = λ n. kind_by c (x.which n); feeder = λ p. feeder_by c x (x.which p.node) p.port }

-- output i of a node, as a source
abbrev pub from : {N : Type 0} → N → ℕ → Option (Out N)
from n i = Some (record { at = n; port = i })
