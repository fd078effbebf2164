use Rattle.std.proofs.Common.{◌≡◌, replicate}
use Rattle.drawn_rules.proofs.shapes.copies.Given as goal

abbrev pub invariant-loop : goal.invariant-loop
invariant-loop l = l.shapes.items ≡ replicate l.counter l.shape
