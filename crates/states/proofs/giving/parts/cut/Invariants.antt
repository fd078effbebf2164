use Rattle.std.proofs.Common.{◌≡◌, ◌++◌, drop, map, Some}
use Rattle.states.specs.Giving.{cut_parts, head_of}
use Rattle.states.specs.Place.{queue_at}
use Rattle.states.proofs.giving.parts.cut.Given as goal

abbrev pub invariant-loop-shape : goal.invariant-loop-shape
invariant-loop-shape l =
    l.parts.items ++ map (λ v. Some v) (cut_parts (drop l.shape-index l.shapes) l.rest)
    ≡ map (λ v. Some v) (cut_parts l.shapes (head_of (queue_at l.queues 0)))
