use Rattle.std.proofs.Common.{length, ◌-◌, ◌≡◌, ◌≤◌}
use Rattle.gx_base.specs.Stream.{before, NeverFell}
use Rattle.gx_base.proofs.transfer.read_all.Given as goal

abbrev pub invariant-loop-bytes : goal.invariant-loop-bytes
invariant-loop-bytes g l = record {
  within : length l.bytes.items ≤ l.max;
  counted : NeverFell (g.S.Source.told l.initial.src) (g.S.Source.told l.src);
  held : before l.bytes.items (g.S.Source.told l.src).bytes ≡ (g.S.Source.told l.initial.src).bytes;
}

abbrev pub decreases-loop-bytes : goal.decreases-loop-bytes
decreases-loop-bytes g l = l.max - length l.bytes.items
