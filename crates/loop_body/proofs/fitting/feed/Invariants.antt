use Rattle.std.proofs.Common.{◌≡◌, ◌∷◌, map, drop, Some}
use Rattle.std.specs.Prelude.{◌↔◌}
use Rattle.components.specs.Kind.{ins}
use Rattle.loop_body.specs.Body.{entry}
use Rattle.loop_body.specs.Judging.{kinds_of, rows_of}
use Rattle.loop_body.proofs.fitting.feed.Given as goal

-- the inputs so far have what they take: all have it exactly where the rest has
abbrev pub invariant-loop-i : goal.invariant-loop-i
invariant-loop-i l =
    (map (entry (rows_of (l.split ∷ kinds_of l.nodes))) l.ports ≡ map Some (ins l.target)) ↔ (map (entry (rows_of (l.split ∷ kinds_of l.nodes))) (drop l.i l.ports) ≡ map Some (drop l.i (ins l.target)))
