use Rattle.std.proofs.Common.{◌≡◌, ◌≤◌, drop}
use Rattle.fun_expr.specs.Machine.{begin}
use Rattle.fun_expr.specs.Counting.{nothing_counted, scanned}
use Rattle.fun_expr.proofs.scan.scan.Given as goal

-- what is left of the text is scanned as the whole is
abbrev pub invariant-loop-at : goal.invariant-loop-at
invariant-loop-at l =
    (scanned l.state l.extent l.at (drop l.at l.text) ≡ scanned begin nothing_counted 0 l.text) × (l.state.nesting ≤ l.at) × (l.extent.size ≤ l.at)
