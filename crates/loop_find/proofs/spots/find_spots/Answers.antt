use Rattle.std.proofs.Common.{◌≡◌, rules, replicate, sym, ap, subst, ◌∙◌}
use Rattle.loop_find.specs.declared.spots.Spot.TheVariants.{Alone}
use Rattle.loop_find.specs.Spots.{AreSpots, all_writes, written}
use Rattle.loop_find.proofs.SpotsFound.{are_spots}
use Rattle.loop_find.proofs.spots.find_spots.Goals as goal

pub returns : goal.returns
returns c =
    let is : c.in_ok-spots.spots.items ≡ replicate c.args.g.now.slots Alone = search rules in
    subst (AreSpots c.args.g.now c.args.loops.now) (sym (c.write_loops.ensures ∙ ap (written (all_writes c.args.loops.now)) is))
    (are_spots c.args.g.now c.is_graph.ensures c.requires.typed c.args.loops.now c.requires.loops)
