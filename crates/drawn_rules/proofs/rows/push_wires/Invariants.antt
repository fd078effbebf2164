use Rattle.std.proofs.Common.{◌≡◌, ◌++◌}
use Rattle.drawn_rules.specs.Rows.{row_wires}
use Rattle.drawn_rules.proofs.rows.push_wires.Given as goal

abbrev pub invariant-loop-index : goal.invariant-loop-index
invariant-loop-index l = l.wires.items ≡ l.fn.wires.items ++ row_wires l.from l.to 0 l.index
