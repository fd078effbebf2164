use Rattle.std.proofs.Common.{sym, ◌∙◌, arith}
use Rattle.graph_core.specs.GraphValue.{port_of}
use Rattle.loop_find.specs.Crossings.{Crosses}
use Rattle.loop_find.proofs.CycleEdges.{adds_none, not_left, crosses_so}
use Rattle.loop_find.proofs.CycleNumbers.{vertex_less}
use Rattle.loop_find.proofs.Walking.{source_live, target_live}
use Rattle.loop_find.proofs.cycles.add_wire.Goals as goal

pub returns-then-not-leaves : goal.returns-then-not-leaves
returns-then-not-leaves c =
    let g = c.args.g.now in
    let stays = sym c.leaves.ensures ∙ c.if-not-leaves.true in
    adds_none (Crosses g c.args.spots.now c.args.target) c.args.graph.now (not_left g c.is_graph.ensures c.args.spots.now c.args.target c.in-Some.source (sym c.in-Some.ensures) stays)

pub add_edge-requires-clause-from : goal.add_edge-requires-clause-from
add_edge-requires-clause-from c =
    let g = c.args.g.now in
    let live = source_live g c.is_graph.ensures (port_of g c.args.target) c.in-Some.source (sym c.in-Some.ensures) in
    let less = vertex_less g c.is_graph.ensures c.requires.typed c.args.loops.now c.requires.loops c.args.spots.now c.requires.spots c.in-Some.source.node live in
    omega (arith, less, c.vertex.ensures, c.requires.size)

pub add_edge-requires-clause-to : goal.add_edge-requires-clause-to
add_edge-requires-clause-to c =
    let g = c.args.g.now in
    let live = target_live g c.is_graph.ensures c.args.target (port_of g c.in-Some.source) (sym c.in-Some.ensures) in
    let less = vertex_less g c.is_graph.ensures c.requires.typed c.args.loops.now c.requires.loops c.args.spots.now c.requires.spots c.args.target.node live in
    omega (arith, less, c.vertex-2.ensures, c.requires.size)

pub returns : goal.returns
returns c =
    let g = c.args.g.now in
    let leaves = sym c.leaves.ensures ∙ c.if-not-leaves.false in
    crosses_so g c.is_graph.ensures c.args.spots.now c.args.target c.in-Some.source (sym c.in-Some.ensures) leaves c.add_edge.result c.args.graph.now c.add_edge.new.self c.vertex.result c.vertex-2.result
    c.vertex.ensures c.vertex-2.ensures c.add_edge.ensures.ok
