use Rattle.std.proofs.Common.{◌+◌, ◌∷◌, ap, sym, ◌∙◌, drop}
use Rattle.std.proofs.lemmas.List.{at_drop_more}
use Rattle.loop_find.specs.Spots.{all_writes, loop_writes, written}
use Rattle.loop_find.proofs.SpotWrites.{written_both}
use Rattle.loop_find.proofs.spots.write_loops.Goals as goal

pub loop-shape-preserved : goal.loop-shape-preserved
loop-shape-preserved c =
    let x = c.shape-item.result in
    let rest = drop (c.loop-shape.shape-index + 1) c.args.loops.now in
    ap (written (all_writes rest)) c.write_loop.ensures ∙
    sym (written_both (loop_writes x) (all_writes rest) c.loop-shape.spots.items) ∙
    ap (λ y. written (all_writes (y ∷ rest)) c.loop-shape.spots.items) c.shape-item.is ∙
    sym (at_drop_more (λ xs. written (all_writes xs) c.loop-shape.spots.items) c.args.loops.now c.loop-shape.shape-index x c.loop-shape-test.true) ∙ c.loop-shape.invariant
