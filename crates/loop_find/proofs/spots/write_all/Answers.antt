use Rattle.std.proofs.Common.{◌+◌, ap, sym, ◌∙◌, drop}
use Rattle.std.proofs.lemmas.List.{at_drop_more}
use Rattle.graph_core.specs.Place.{id_of}
use Rattle.loop_find.specs.Spots.{writes_to, written}
use Rattle.loop_find.proofs.spots.write_all.Goals as goal

pub loop-id-preserved : goal.loop-id-preserved
loop-id-preserved c =
    ap (written (writes_to c.args.spot (drop (c.loop-id.id-index + 1) c.args.ids.now))) c.write.ensures ∙
    sym (at_drop_more (λ ids. written (writes_to c.args.spot ids) c.loop-id.spots.items) c.args.ids.now c.loop-id.id-index (id_of 0) c.loop-id-test.true) ∙ c.loop-id.invariant
