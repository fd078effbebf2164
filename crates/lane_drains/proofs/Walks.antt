-- Walks back from an input, through Buffers and Forks, to an output.
use Rattle.std.proofs.Common.{◌≡◌, Some}
use Rattle.components.specs.declared.kind.Kind.{Kind}
use Rattle.components.specs.Name.{Port}
use Rattle.circuits.specs.Circuit.{Circuit}
use Rattle.circuits.specs.Buffers.{first_port}
use Rattle.circuits.specs.Root.{PassesThrough, Root, here, past}
use Rattle.loop_laws.specs.Reached.{port_at}

-- what q gives comes to the input, through Buffers and Forks alone
pub data ComesBackTo (c : Circuit) (q : Port) : Port → Type 0 where
  fed : {p : Port} → c.feeder p ≡ Some q → ComesBackTo c q p
  through : {p : Port} (r : Port) (k : Kind) → c.feeder p ≡ Some r → c.kind_at r.node ≡ Some k → PassesThrough k → ComesBackTo c q (port_at r.node 1) → ComesBackTo c q p

pub walk : (c : Circuit) (p q : Port) → Root c p q → ComesBackTo c q p
walk c p q (here k f e stops) = fed f
walk c p q (past r k f e pass root) = through r k f e pass (walk c (first_port r.node) q root)

-- where q stands at a node that walks do not go through, it is the root
pub as_root : (c : Circuit) (q : Port) (k : Kind) → c.kind_at q.node ≡ Some k → ¬ (PassesThrough k) → (p : Port) → ComesBackTo c q p → Root c p q
as_root c q k e stops p (fed f) = here k f e stops
as_root c q k e stops p (through r j f g pass w) = past r j f g pass (as_root c q k e stops (port_at r.node 1) w)
