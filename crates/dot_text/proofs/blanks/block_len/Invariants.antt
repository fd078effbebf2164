use Rattle.std.proofs.Common.{◌≡◌, drop}
use Rattle.dot_text.specs.Scanner.{block_of}
use Rattle.dot_text.specs.Skip.{len_from, block_len_of}
use Rattle.dot_text.proofs.blanks.block_len.Given as goal

abbrev pub invariant-loop-index : goal.invariant-loop-index
invariant-loop-index l = len_from l.index (block_of l.star (drop l.index l.bytes)) ≡ block_len_of l.bytes
