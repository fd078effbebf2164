use Rattle.std.proofs.Common.{◌≡◌, ◌-◌, take}
use Rattle.components.specs.Kind.{ports}
use Rattle.graph_print.specs.CanonicalText.{marked_from}
use Rattle.graph_print.proofs.ports.marked_ports.Given as goal

abbrev pub invariant-loop-number : goal.invariant-loop-number
invariant-loop-number l = l.ports.items ≡ marked_from l.kind l.side 1 (take (l.number - 1) (ports l.kind l.side))
