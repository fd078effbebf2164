use Rattle.std.proofs.Common.{get_or, Some, false, sym, ap, ◌∙◌, arith}
use Rattle.std.specs.Prelude.{slice_get}
use Rattle.graph_core.specs.GraphValue.{name_by}
use Rattle.loop_find.proofs.Places.{at_in, got_below}
use Rattle.loop_find.proofs.CycleNumbers.{mark_live}
use Rattle.loop_find.proofs.CycleEdges.{got_or, told_more}
use Rattle.loop_find.proofs.cycles.told_of_marks.Goals as goal

pub bounds-on-index : goal.bounds-on-index
bounds-on-index c =
    let s = c.shape-item.result in
    let at = got_or c.args.loops.now c.loop-shape.shape-index s c.loop-shape-test.true ∙ ap Some (sym c.shape-item.is) in
    let live = mark_live c.args.g.now c.is_graph.ensures c.requires.typed c.args.loops.now c.requires.loops s (at_in c.args.loops.now c.loop-shape.shape-index s at) in
    let less = c.is_graph.ensures.within s.mark (name_by c.args.g.now.ids s.mark) live in
    omega (arith, less, c.index.ensures, c.requires.size)

pub loop-shape-preserved : goal.loop-shape-preserved
loop-shape-preserved c =
    let s = c.shape-item.result in
    let at = got_or c.args.loops.now c.loop-shape.shape-index s c.loop-shape-test.true ∙ ap Some (sym c.shape-item.is) in
    let live = mark_live c.args.g.now c.is_graph.ensures c.requires.typed c.args.loops.now c.requires.loops s (at_in c.args.loops.now c.loop-shape.shape-index s at) in
    let less = c.is_graph.ensures.within s.mark (name_by c.args.g.now.ids s.mark) live in
    let value = got_or c.args.on.now c.index.result false (omega (arith, less, c.index.ensures, c.requires.size)) in
    told_more c.args.on.now c.args.loops.now c.loop-shape.told.items c.push.new.self.items c.loop-shape.shape-index s (get_or c.args.on.now c.index.result false) at
    (ap (slice_get c.args.on.now) (sym c.index.ensures) ∙ value) c.in_ok-push.ensures.items c.loop-shape.invariant

pub returns : goal.returns
returns c = (omega (arith, c.loop-shape.invariant.0, c.loop-shape-test.false), λ k s at. c.loop-shape.invariant.1 k s (let less = got_below c.args.loops.now k s at in omega (arith, less, c.loop-shape-test.false)) at)
