use Rattle.std.proofs.Common.{◌≡◌, ◌++◌, drop, take}
use Rattle.states.specs.Giving.{finish_slot}
use Rattle.states.proofs.slot.finish_slot.Given as goal

abbrev pub invariant-loop-index : goal.invariant-loop-index
invariant-loop-index l = (l.slots ≡ l.initial.slots) × (take l.index l.initial.slots ++ finish_slot l.tag l.token (drop l.index l.initial.slots) ≡ finish_slot l.tag l.token l.initial.slots)
