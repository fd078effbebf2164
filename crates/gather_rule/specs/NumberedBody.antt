-- A body of named nodes as a body by numbers, which the law of its circuit speaks of.
use Rattle.std.specs.Prelude.{List, [], ◌∷◌, map}
use Rattle.components.specs.declared.kind.Kind.{Kind}
use Rattle.circuit_plans.specs.Plans.{Out}
use Rattle.body_laws.specs.Bodies.{BodyNode}
use Rattle.body_laws.specs.Bodies as numbers
use Rattle.loop_body.specs.declared.body_port.BodyPort.{BodyPort}
use Rattle.loop_body.specs.Body.{Body, kinds}
use Rattle.std.specs.Prelude.{ℕ}

abbrev pub numbered_port : BodyPort → Out ℕ
numbered_port p = record { at = p.node; port = p.port }

abbrev pub numbered_nodes : List Kind → List (List BodyPort) → List BodyNode
numbered_nodes [] inputs = []
numbered_nodes (kind ∷ kinds) [] = []
numbered_nodes (kind ∷ kinds) (ports ∷ inputs) = record { kind = kind; inputs = map numbered_port ports } ∷ numbered_nodes kinds inputs

-- the first condition wire, and the others
abbrev pub first_port : List BodyPort → Out ℕ
first_port [] = record { at = 0; port = 0 }
first_port (p ∷ ports) = numbered_port p

abbrev pub other_ports : List BodyPort → List (Out ℕ)
other_ports [] = []
other_ports (p ∷ ports) = map numbered_port ports

abbrev pub numbered : Body → numbers.Body
numbered b =
    record {
      vars = b.vars;
      nodes = numbered_nodes (kinds b) b.inputs;
      next = map numbered_port b.next;
      condition = first_port b.conditions;
      others = other_ports b.conditions;
    }
