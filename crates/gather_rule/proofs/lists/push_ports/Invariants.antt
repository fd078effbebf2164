use Rattle.std.proofs.Common.{◌≡◌, ◌++◌, take}
use Rattle.gather_rule.specs.GatherSides.{ports_ends}
use Rattle.gather_rule.proofs.lists.push_ports.Given as goal

abbrev pub invariant-loop-index : goal.invariant-loop-index
invariant-loop-index l = l.wires.items ≡ l.fn.wires.items ++ ports_ends l.place (take l.index l.ports)
