use Rattle.std.proofs.Common.{◌≡◌, ◌∷◌, [], None, drop}
use Rattle.loop_body.specs.Judging.{kinds_of, roots_from}
use Rattle.loop_body.proofs.roots.roots.Given as goal

abbrev pub invariant-loop-i : goal.invariant-loop-i
invariant-loop-i l = roots_from l.roots.items (drop l.i (kinds_of l.nodes)) (drop l.i l.inputs) ≡ roots_from (None ∷ []) (kinds_of l.nodes) l.inputs
