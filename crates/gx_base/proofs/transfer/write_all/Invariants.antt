use Rattle.std.proofs.Common.{length, ◌-◌, ◌≡◌, ◌≤◌, take}
use Rattle.gx_base.specs.Stream.{NeverFell, Took}
use Rattle.gx_base.proofs.transfer.write_all.Given as goal

abbrev pub invariant-loop-done : goal.invariant-loop-done
invariant-loop-done g l = record {
  within : l.done ≤ length l.bytes;
  counted : NeverFell (g.O.Sink.told l.initial.out) (g.O.Sink.told l.out);
  front : Took (take l.done l.bytes) (g.O.Sink.told l.initial.out) (g.O.Sink.told l.out);
  untouched : l.done ≡ 0 → l.out ≡ l.initial.out;
}

abbrev pub decreases-loop-done : goal.decreases-loop-done
decreases-loop-done g l = length l.bytes - l.done
