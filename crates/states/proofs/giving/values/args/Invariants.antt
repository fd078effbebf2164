use Rattle.std.proofs.Common.{◌≡◌, ◌++◌, drop}
use Rattle.std.specs.List.{zip}
use Rattle.states.specs.Giving.{head_numbers}
use Rattle.states.proofs.giving.values.args.Given as goal

abbrev pub invariant-loop-index : goal.invariant-loop-index
invariant-loop-index l = l.args.items ++ zip (drop l.index l.widths) (head_numbers (drop l.index l.queues)) ≡ zip l.widths (head_numbers l.queues)
