use Rattle.std.proofs.Common.{◌≡◌, ◌≤◌, ◌<◌, ◌+◌, ◌++◌, drop, length}
use Rattle.std.specs.Fmt.{decimal}
use Rattle.commands.proofs.line.put_digits.Given as goal

-- The digits behind those of the rest stand in the array, and there is room for those of the rest.
abbrev pub invariant-loop-rest : goal.invariant-loop-rest
invariant-loop-rest l = record {
  long : length l.digits ≡ 20;
  within : l.first < 20;
  room : length (decimal l.rest) ≤ l.first + 1;
  digits : decimal l.number ≡ decimal l.rest ++ drop (l.first + 1) l.digits;
}

abbrev pub decreases-loop-rest : goal.decreases-loop-rest
decreases-loop-rest l = l.rest
