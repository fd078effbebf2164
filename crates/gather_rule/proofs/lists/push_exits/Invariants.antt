use Rattle.std.proofs.Common.{◌≡◌, ◌++◌, take}
use Rattle.gather_rule.specs.GatherSides.{ways_ends}
use Rattle.gather_rule.proofs.lists.push_exits.Given as goal

abbrev pub invariant-loop-index : goal.invariant-loop-index
invariant-loop-index l = l.wires.items ≡ l.fn.wires.items ++ ways_ends l.place (take l.index l.ports)
