use Rattle.std.proofs.Common.{◌≡◌, drop}
use Rattle.loop_body.specs.Judging.{all_fresh}
use Rattle.loop_body.proofs.marks.mark_all.Given as goal

abbrev pub invariant-loop-port : goal.invariant-loop-port
invariant-loop-port l = all_fresh l.ports l.initial.rows.items ≡ all_fresh (drop l.port-index l.ports) l.rows.items
