use Rattle.std.proofs.Common.{◌≡◌, ◌++◌, map, drop, List, ℕ, Bor}
use Rattle.loop_body.proofs.different.keys.Given as goal

abbrev pub invariant-loop-pair : goal.invariant-loop-pair
invariant-loop-pair l = map (λ (key : Bor (List ℕ)). key.now) l.keys.items ++ map (λ (pair : List ℕ × List ℕ). pair.0) (drop l.pair-index l.pairs) ≡ map (λ (pair : List ℕ × List ℕ). pair.0) l.pairs
