use Rattle.std.proofs.Common.{◌≡◌, ◌++◌, take}
use Rattle.gather_rule.specs.GatherSides.{inputs_ends}
use Rattle.gather_rule.proofs.lists.push_inputs.Given as goal

abbrev pub invariant-loop-index : goal.invariant-loop-index
invariant-loop-index l = l.wires.items ≡ l.fn.wires.items ++ inputs_ends 2 (take l.index l.inputs)
