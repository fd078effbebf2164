use Rattle.std.proofs.Common.{◌≡◌, ◌+◌, ◌-◌, ◌<◌, ◌≤◌, length, drop, slice_range}
use Rattle.dot_text.specs.Rests.{rest_front}
use Rattle.dot_text.specs.Scans.{Keeps, mode_of}
use Rattle.dot_text.proofs.reader.rest_of_item.Given as goal

abbrev pub invariant-loop-mode : goal.invariant-loop-mode
invariant-loop-mode l = record {
  order : l.start < l.at;
  within : l.at ≤ length l.bytes;
  keeps : Keeps (slice_range l.bytes l.start l.at) l.mode;
  same : rest_front (mode_of l.mode) (slice_range l.bytes l.start l.at) (drop l.at l.bytes) ≡ rest_front (mode_of l.fn.mode) (slice_range l.bytes l.start (l.start + 1)) (drop (l.start + 1) l.bytes);
}

abbrev pub decreases-loop-mode : goal.decreases-loop-mode
decreases-loop-mode l = length l.bytes - l.at
