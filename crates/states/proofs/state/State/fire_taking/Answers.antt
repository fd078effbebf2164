use Rattle.std.proofs.Common.{◌≡◌, ◌∙◌, ap, sym, subst}
use Rattle.std.proofs.lemmas.Option.{same_Some}
use Rattle.graph_core.specs.GraphValue.{name_by}
use Rattle.states.specs.declared.change.Change.{Change}
use Rattle.states.specs.Giving.{change_of, changed_slots, given_of, sides_of}
use Rattle.states.specs.GraphState.{place_at}
use Rattle.states.specs.Ready.{IsPlaceOf}
use Rattle.states.proofs.EndSteps.{live_denotes, ok_then}
use Rattle.states.proofs.Enabling.{place_is}
use Rattle.states.proofs.FireStep.{fire_stays, fire_step}
use Rattle.states.proofs.GivenBy.{given_by}
use Rattle.states.proofs.Outputs.{can_settle}
use Rattle.states.proofs.state.State.fire_taking.Goals as goal

pub given-requires : goal.given-requires
given-requires c =
    let name = name_by c.args.g.now.ids c.args.node in
    subst (IsPlaceOf c.kind_at-kind.result.now) (sym c.place.ensures)
    (place_is c.args.g.now c.is_graph.ensures c.args.self.now c.requires.state c.args.node name (live_denotes c.args.g.now c.args.node c.requires.live) c.kind_at-kind.result.now c.kind_at-kind.ensures)

pub settle-requires : goal.settle-requires
settle-requires c =
    let name = name_by c.args.g.now.ids c.args.node in
    let is_place = place_is c.args.g.now c.is_graph.ensures c.args.self.now c.requires.state c.args.node name (live_denotes c.args.g.now c.args.node c.requires.live) c.kind_at-kind.result.now c.kind_at-kind.ensures in
    can_settle c.args.g.now c.is_graph.ensures c.args.self.now c.args.node c.kind_at-kind.result.now c.requires.state c.requires.live is_place.ok c.kind_at-kind.ensures c.args.choice c.place.result.now c.of_items.result
    (c.of_items.ensures ∙ c.in_ok-given.ensures) c.args.taking c.requires.ready.ready.within

pub returns-clause-state : goal.returns-clause-state
returns-clause-state c =
    let s = c.args.self.now in
    let node = c.args.node in
    let name = name_by c.args.g.now.ids node in
    let denotes = live_denotes c.args.g.now node c.requires.live in
    let at = c.requires.ready in
    let is_place = place_is c.args.g.now c.is_graph.ensures s c.requires.state node name denotes at.kind at.is_kind in
    let kinds : c.kind_at-kind.result.now ≡ at.kind = same_Some c.kind_at-kind.result.now at.kind (sym c.kind_at-kind.ensures ∙ at.is_kind) in
    let by_row = given_by at.kind c.args.choice (place_at s node) is_place at.ready.can in
    let gives : sides_of c.of_items.result ≡ at.ready.can.given =
    ap sides_of (c.of_items.ensures ∙ c.in_ok-given.ensures) ∙ (λ i. sides_of (given_of (kinds i) c.args.choice (c.place.ensures i))) ∙ by_row.0 in
    let slots : changed_slots c.in_ok-change.change (place_at s node).slots ≡ at.ready.can.new =
    ap (λ (x : Change). changed_slots x (place_at s node).slots) (c.in_ok-change.ensures ∙ (λ i. change_of (kinds i) c.args.choice (c.place-2.ensures i))) ∙ by_row.1 in
    ok_then c.settle.result
    (λ settled. fire_stays c.args.g.now c.is_graph.ensures s c.requires.state node denotes at.kind at.is_kind c.args.choice c.args.taking at.ready (sides_of c.of_items.result) c.in_ok-change.change c.settle.new.state settled gives slots c.states_stay.ensures.step)
    c.settle.ensures.ok

pub returns-clause-fires : goal.returns-clause-fires
returns-clause-fires c =
    let s = c.args.self.now in
    let node = c.args.node in
    let name = name_by c.args.g.now.ids node in
    let denotes = live_denotes c.args.g.now node c.requires.live in
    let at = c.requires.ready in
    let is_place = place_is c.args.g.now c.is_graph.ensures s c.requires.state node name denotes at.kind at.is_kind in
    let kinds : c.kind_at-kind.result.now ≡ at.kind = same_Some c.kind_at-kind.result.now at.kind (sym c.kind_at-kind.ensures ∙ at.is_kind) in
    let by_row = given_by at.kind c.args.choice (place_at s node) is_place at.ready.can in
    let gives : sides_of c.of_items.result ≡ at.ready.can.given =
    ap sides_of (c.of_items.ensures ∙ c.in_ok-given.ensures) ∙ (λ i. sides_of (given_of (kinds i) c.args.choice (c.place.ensures i))) ∙ by_row.0 in
    let slots : changed_slots c.in_ok-change.change (place_at s node).slots ≡ at.ready.can.new =
    ap (λ (x : Change). changed_slots x (place_at s node).slots) (c.in_ok-change.ensures ∙ (λ i. change_of (kinds i) c.args.choice (c.place-2.ensures i))) ∙ by_row.1 in
    ok_then c.settle.result
    (λ settled. fire_step c.args.g.now c.is_graph.ensures s c.requires.state node denotes at.kind at.is_kind c.args.choice c.args.taking at.ready (sides_of c.of_items.result) c.in_ok-change.change c.settle.new.state settled gives slots)
    c.settle.ensures.ok
