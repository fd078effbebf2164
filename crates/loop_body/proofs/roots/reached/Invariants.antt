use Rattle.std.proofs.Common.{◌≡◌, ◌∷◌, [], true, drop}
use Rattle.loop_body.specs.Judging.{reached_from}
use Rattle.loop_body.proofs.roots.reached.Given as goal

abbrev pub invariant-loop-ports : goal.invariant-loop-ports
invariant-loop-ports l = reached_from l.reached.items (drop l.ports-index l.inputs) ≡ reached_from (true ∷ []) l.inputs
