use Rattle.std.proofs.Common.{◌+◌, ◌-◌, ◌≤◌, vec_len, vec_capacity}
use Rattle.graph_core.proofs.SlotLemmas.{SoGrown}
use Rattle.graph_core.proofs.cells.grow.Given as goal

abbrev pub invariant-loop-done : goal.invariant-loop-done
invariant-loop-done l = SoGrown l.initial.slots.items l.slots.items l.first l.done × (vec_len l.slots + (l.fn.more - l.done) ≤ vec_capacity l.slots)
