use Rattle.std.proofs.Common.{◌<◌, length, sym, arith}
use Rattle.std.proofs.lemmas.Option.{slice_get_within}
use Rattle.loop_find.proofs.BodyEdges.{input_outside, input_edge}
use Rattle.loop_find.proofs.Oks.{on_ok}
use Rattle.loop_find.proofs.body_cycle.add_input.Goals as goal

pub returns-in_default-place : goal.returns-in_default-place
returns-in_default-place c =
    input_outside c.args.g.now c.is_graph.ensures c.args.set.now.ids c.args.target c.args.place c.in-Some.source (sym c.in-Some.ensures) c.in_default-place.ensures c.args.graph.now

pub add_edge-requires-clause-from : goal.add_edge-requires-clause-from
add_edge-requires-clause-from c =
    let less : c.in-Some-place.from < length c.args.set.now.ids = slice_get_within c.args.set.now.ids c.in-Some-place.from c.in-Some.source.node c.in-Some-place.ensures in
    omega arith

pub returns : goal.returns
returns c =
    on_ok c.add_edge.result
    (input_edge c.args.g.now c.is_graph.ensures c.args.set.now.ids c.args.target c.args.place c.in-Some.source (sym c.in-Some.ensures) c.differ.ensures c.in-Some-place.from c.in-Some-place.ensures
    c.args.graph.now c.add_edge.new.self)
    c.add_edge.ensures.ok
