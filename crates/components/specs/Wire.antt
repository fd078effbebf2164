-- Wires, for whatever a node is known by: its body in a graph by names, its kind in a circuit.
use Rattle.std.specs.Prelude.{◌≡◌, Option, Some}
use Rattle.components.specs.declared.kind.Kind.{Kind}
use Rattle.components.specs.Name.{Name, Port, port_get}
use Rattle.components.specs.Kind.{Shape, ins, outs}

-- from output source to input target, with one shape at both its ends, where node_at finds a node and kind_of is its kind
pub record IsWireOf {A : Type 0} (node_at : Name → Option A) (kind_of : A → Kind) (source target : Port) : Type 0 where
  pub from : A
  pub to : A
  pub shape : Shape
  pub is_from : node_at source.node ≡ Some from
  pub is_to : node_at target.node ≡ Some to
  pub leaves : port_get (outs (kind_of from)) source.port ≡ Some shape
  pub enters : port_get (ins (kind_of to)) target.port ≡ Some shape
