use Rattle.std.proofs.Common.{sym, subst}
use Rattle.std.specs.Prelude.{MatchOption}
use Rattle.graph_core.specs.GraphValue.{name_by}
use Rattle.states.specs.Place.{PlaceValue}
use Rattle.states.specs.Ready.{CanFire, IsPlaceOf, IsReady}
use Rattle.states.proofs.EndSteps.{live_denotes}
use Rattle.states.proofs.Enabling.{place_is, place_within, taking_as_ready}
use Rattle.states.proofs.state.State.taking.Goals as goal

pub place-requires : goal.place-requires
place-requires c =
    let name = name_by c.args.g.now.ids c.args.node in
    place_within c.args.g.now c.is_graph.ensures c.args.self.now c.requires.state c.args.node name (live_denotes c.args.g.now c.args.node c.requires.live) c.kind_at.result.now c.kind_at.ensures

pub ready-requires : goal.ready-requires
ready-requires c =
    let name = name_by c.args.g.now.ids c.args.node in
    subst (IsPlaceOf c.kind_at.result.now) (sym c.place.ensures)
    (place_is c.args.g.now c.is_graph.ensures c.args.self.now c.requires.state c.args.node name (live_denotes c.args.g.now c.args.node c.requires.live) c.kind_at.result.now c.kind_at.ensures)

pub returns : goal.returns
returns c =
    let name = name_by c.args.g.now.ids c.args.node in
    taking_as_ready c.args.g.now c.is_graph.ensures c.args.self.now c.requires.state c.args.node (live_denotes c.args.g.now c.args.node c.requires.live) c.kind_at.result.now c.kind_at.ensures c.args.choice c.ready.result
    (subst (λ (p : PlaceValue). MatchOption c.ready.result (¬ (CanFire c.kind_at.result.now c.args.choice p)) (IsReady c.kind_at.result.now c.args.choice p)) c.place.ensures c.ready.ensures)
