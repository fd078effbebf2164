use Rattle.std.proofs.Common.{◌∙◌, ◌<◌, ap, sym, subst, length}
use Rattle.graph_core.specs.GraphValue.{name_by}
use Rattle.graph_core.specs.Place.{index_of}
use Rattle.states.specs.Place.{PlaceValue}
use Rattle.states.proofs.EndSteps.{live_denotes}
use Rattle.states.proofs.Named.{place_denoted}
use Rattle.states.proofs.state.State.slot_count.Goals as goal

pub place-requires : goal.place-requires
place-requires c =
    subst (λ l. index_of c.args.tagger < l) (sym c.requires.state.has.places)
    (c.is_graph.ensures.within c.args.tagger (name_by c.args.g.now.ids c.args.tagger) (live_denotes c.args.g.now c.args.tagger c.requires.live))

pub returns : goal.returns
returns c =
    ap length c.slots.ensures ∙ ap (λ (p : PlaceValue). length p.slots) c.place.ensures
    ∙ ap (λ (p : PlaceValue). length p.slots) (sym (place_denoted c.args.g.now c.is_graph.ensures c.args.self.now c.args.tagger (name_by c.args.g.now.ids c.args.tagger) (live_denotes c.args.g.now c.args.tagger c.requires.live)))
