use Rattle.std.proofs.Common.{◌≡◌, drop}
use Rattle.loop_find.specs.Spots.{writes_to, written}
use Rattle.loop_find.proofs.spots.write_all.Given as goal

abbrev pub invariant-loop-id : goal.invariant-loop-id
invariant-loop-id l = written (writes_to l.spot (drop l.id-index l.ids)) l.spots.items ≡ written (writes_to l.spot l.ids) l.initial.spots.items
