-- Circuits: what node a name is, and the output that feeds an input.
use Rattle.std.specs.Prelude.{◌≡◌, ℕ, ◌<◌, length, Option, Some, None}
use Rattle.std.specs.FinMap as map
use Rattle.components.specs.declared.kind.Kind.{Kind}
use Rattle.components.specs.Name.{Name, Port, port_get}
use Rattle.components.specs.Kind.{Shape, ins, outs, KindOk}
use Rattle.components.specs.Node.{Body}
use Rattle.components.specs.Wire.{IsWireOf}
use Rattle.components.specs.NamedGraph.{NamedGraph}

-- a circuit is these two functions: equal circuits answer alike at each name and each port
pub record Circuit : Type 0 where
  pub kind_at : Name → Option Kind
  pub feeder : Port → Option Port

-- a node without its kept attributes
abbrev pub kind_of_body : Option Body → Option Kind
kind_of_body None = None
kind_of_body (Some body) = Some body.kind

-- the circuit that a graph by names stands for
abbrev pub circuit_of : NamedGraph → Circuit
circuit_of g = record { kind_at = λ n. kind_of_body (map.get g.nodes n); feeder = λ p. map.get g.feeders p }

-- the kind of the node that a port belongs to
abbrev pub kind_of : Circuit → Option Port → Option Kind
kind_of c None = None
kind_of c (Some p) = c.kind_at p.node

-- a wire of the circuit, with one shape at both its ends
abbrev pub Wire : Circuit → Port → Port → Type 0
Wire c source target = IsWireOf c.kind_at (λ (k : Kind). k) source target

-- each kind meets its row, each port stands on exactly one wire, each wire has one shape, and the names have a bound on their length
pub record Typed (c : Circuit) : Type 0 where
  pub kinds : (n : Name) (k : Kind) → c.kind_at n ≡ Some k → KindOk k
  pub wires : (p q : Port) → c.feeder p ≡ Some q → Wire c q p
  pub inputs : (p : Port) (k : Kind) (a : Shape) → c.kind_at p.node ≡ Some k →
      port_get (ins k) p.port ≡ Some a → (q : Port) × (c.feeder p ≡ Some q)
  pub outputs : (q : Port) (k : Kind) (a : Shape) → c.kind_at q.node ≡ Some k →
      port_get (outs k) q.port ≡ Some a → (p : Port) × (c.feeder p ≡ Some q)
  pub once : (p r q : Port) → c.feeder p ≡ Some q → c.feeder r ≡ Some q → p ≡ r
  pub names : (size : ℕ) × ((n : Name) (k : Kind) → c.kind_at n ≡ Some k → length n < size)
