use Rattle.std.proofs.Common.{drop}
use Rattle.rewrite.proofs.TurnsById.{Underway}
use Rattle.rewrite.proofs.stripping.drop_buffers.Given as goal

abbrev pub invariant-loop-id : goal.invariant-loop-id
invariant-loop-id l = Underway l.initial.g.graph l.g (drop l.id-index l.ids)
