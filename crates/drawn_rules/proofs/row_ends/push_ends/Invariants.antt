use Rattle.std.proofs.Common.{◌≡◌, ◌++◌, take}
use Rattle.drawn_rules.specs.RowEnds.{end_nodes}
use Rattle.drawn_rules.proofs.row_ends.push_ends.Given as goal

abbrev pub invariant-loop-index : goal.invariant-loop-index
invariant-loop-index l = l.nodes.items ≡ l.fn.nodes.items ++ end_nodes l.end l.ends l.letter 1 (take l.index l.shapes)
