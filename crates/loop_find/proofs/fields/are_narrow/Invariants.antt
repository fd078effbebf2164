use Rattle.std.proofs.Common.{◌≡◌, ◌+◌, drop}
use Rattle.circuits.specs.Circuit.{circuit_of}
use Rattle.loop_laws.specs.Weight.{fields_of}
use Rattle.loop_find.specs.Marks.{names_by}
use Rattle.loop_find.proofs.fields.are_narrow.Given as goal

-- what is left is the greatest number of fields without the nodes so far
abbrev pub invariant-loop-id : goal.invariant-loop-id
invariant-loop-id l = l.left + fields_of (circuit_of l.g.graph) (names_by l.g l.id-items) ≡ 127 + fields_of (circuit_of l.g.graph) (names_by l.g (drop l.id-index l.id-items))
