use Rattle.std.proofs.Common.{length, ap, arith}
use Rattle.digraph.proofs.GroupsTold.{all_grouped}
use Rattle.digraph.proofs.grouping.on_cycles.Goals as goal

pub add-requires-clause-place : goal.add-requires-clause-place
add-requires-clause-place c = omega (arith, c.loop-place.invariant.0, ap length c.deref.ensures.value)

pub returns : goal.returns
returns c = all_grouped c.args.graph.now c.in_ok-order.order.items c.loop-place.groups.grouped.items c.loop-place.groups.told.items c.loop-place.place (omega arith) c.in_ok-order.ensures c.loop-place.invariant.1
