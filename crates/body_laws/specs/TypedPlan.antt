-- When the circuit of a type of nodes is typed.
use Rattle.std.specs.Prelude.{◌≡◌, Some}
use Rattle.circuit_plans.specs.Plans.{Out, Plan}
use Rattle.components.specs.Kind.{Shape, ins, outs, KindOk}
use Rattle.components.specs.Name.{port_get}

-- each port of a plan stands on exactly one wire, and each wire has one shape
pub record TypedPlan {N : Type 0} (c : Plan N) : Type 0 where
  pub kinds : (n : N) → KindOk (c.kind n)
  pub wires : (p q : Out N) → c.source p.at p.port ≡ Some q → (a : Shape) × (port_get (ins (c.kind p.at)) p.port ≡ Some a) × (port_get (outs (c.kind q.at)) q.port ≡ Some a)
  pub inputs : (p : Out N) (a : Shape) → port_get (ins (c.kind p.at)) p.port ≡ Some a → (q : Out N) × (c.source p.at p.port ≡ Some q)
  pub outputs : (q : Out N) (a : Shape) → port_get (outs (c.kind q.at)) q.port ≡ Some a → (p : Out N) × (c.source p.at p.port ≡ Some q)
  pub once : (p r q : Out N) → c.source p.at p.port ≡ Some q → c.source r.at r.port ≡ Some q → p ≡ r
