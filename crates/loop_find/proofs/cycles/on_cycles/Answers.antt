use Rattle.std.proofs.Common.{subst}
use Rattle.loop_find.specs.Crossings.{IsGraphOfPlaces}
use Rattle.loop_find.specs.OnCycle.{AreToldOf, TellsOnCycle}
use Rattle.loop_find.proofs.CycleTold.{all_told, if_ok_so}
use Rattle.loop_find.proofs.cycles.on_cycles.Goals as goal

pub returns : goal.returns
returns c =
    let g = c.args.g.now in
    let shapes = c.args.loops.now in
    let places = subst (λ spots. IsGraphOfPlaces g spots c.in_ok-graph.graph) c.deref.ensures.value c.in_ok-graph.ensures in
    if_ok_so (λ told. AreToldOf c.deref-2.result.now shapes told.items) (λ told. TellsOnCycle g shapes told.items) c.told_of_marks.result
    (λ told are.
    all_told g c.is_graph.ensures c.requires.typed shapes c.requires.loops c.in_ok-spots.spots.items c.in_ok-spots.ensures c.in_ok-graph.graph places c.in_ok-on.on.items c.in_ok-on.ensures told.items
    (subst (λ on. AreToldOf on shapes told.items) c.deref-2.ensures.value are)) c.told_of_marks.ensures
