use Rattle.std.proofs.Common.{◌∷◌, [], set, ap, sym, ◌∙◌}
use Rattle.graph_core.specs.Place.{index_of}
use Rattle.loop_find.specs.declared.spots.Spot.TheVariants.{Inside, Branch}
use Rattle.loop_find.specs.Spots.{writes_to, written}
use Rattle.loop_find.proofs.SpotWrites.{written_both}
use Rattle.loop_find.proofs.spots.write_lane.Goals as goal

pub returns : goal.returns
returns c =
    let spots = c.args.spots.now.items in
    let at = c.args.at in
    let back = c.write_all.ensures ∙ ap (λ ids. written (writes_to (Inside at) ids) spots) c.as_slice.ensures in
    let mux = c.write.ensures ∙ ap (λ s. set s (index_of c.args.lane.now.mux) (Inside at)) back in
    c.write-2.ensures ∙ ap (λ s. set s (index_of c.args.lane.now.branch) (Branch at c.args.exit)) mux ∙
    sym (written_both (writes_to (Inside at) c.args.lane.now.back) (record { id = c.args.lane.now.mux; spot = Inside at } ∷ record { id = c.args.lane.now.branch; spot = Branch at c.args.exit } ∷ []) spots)
