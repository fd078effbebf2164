use Rattle.std.proofs.Common.{◌∙◌, ◌-◌, ap, sym, slice_get, List}
use Rattle.circuits.specs.PortTokens.{Token}
use Rattle.graph_core.specs.GraphValue.{name_by}
use Rattle.states.specs.Place.{PlaceValue, queue_at}
use Rattle.states.proofs.Changing.{input_there, queue_there}
use Rattle.states.proofs.state.State.token.Goals as goal

pub place-requires : goal.place-requires
place-requires c = (input_there c.args.g.now c.is_graph.ensures c.args.self.now c.requires.state.has c.args.target c.requires.there).node

pub overflow_sub-target : goal.overflow_sub-target
overflow_sub-target c = (input_there c.args.g.now c.is_graph.ensures c.args.self.now c.requires.state.has c.args.target c.requires.there).some

pub returns : goal.returns
returns c =
    let at = input_there c.args.g.now c.is_graph.ensures c.args.self.now c.requires.state.has c.args.target c.requires.there in
    c.token.ensures ∙ ap (λ (p : PlaceValue). slice_get (queue_at p.queues (c.args.target.port - 1)) c.args.index) c.place.ensures
    ∙ ap (λ (q : List Token). slice_get q c.args.index) (sym (queue_there c.args.g.now c.is_graph.ensures c.args.self.now c.args.target (name_by c.args.g.now.ids c.args.target.node) at))
