use Rattle.std.proofs.Common.{◌≡◌, take, drop}
use Rattle.std.specs.Vec.Iter.{into_iter_items}
use Rattle.loop_body.proofs.binds.next_part.Given as goal

-- so many expressions went from the wire to the part
abbrev pub invariant-loop-field : goal.invariant-loop-field
invariant-loop-field l = (l.part.items ≡ take l._field (into_iter_items l.initial.rest)) × (into_iter_items l.rest ≡ drop l._field (into_iter_items l.initial.rest))
