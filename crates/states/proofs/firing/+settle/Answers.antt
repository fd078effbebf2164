use Rattle.std.proofs.Common.{◌≡◌, ◌∙◌, ◌+◌, ◌<◌, ◌≤◌, suc, List, Option, Some, None, length, slice_get, ap, sym, subst, rules}
use Rattle.circuits.specs.PortTokens.{Token}
use Rattle.graph_core.specs.declared.place.PortAt.{PortAt}
use Rattle.states.specs.Fired.{CanSettle, IsSettled, side_from}
use Rattle.states.specs.Giving.{sides_of}
use Rattle.states.specs.GraphState.{Places, place_at, queue_of, with_queue}
use Rattle.states.specs.Place.{but_last}
use Rattle.graph_core.specs.Place.{index_of}
use Rattle.states.proofs.EndSteps.{ok_then}
use Rattle.states.proofs.Settling.{back, can_next, can_other, output_there, popped_count, put_has, settled_none, settled_put, settled_skip, there, there_after}
use Rattle.states.proofs.firing.+settle.Goals as goal

pub settle-requires : goal.settle-requires
settle-requires t c =
    let first : Some None ≡ slice_get c.args.given 0 = sym (c.in-Some-None.is ∙ ap (λ (x : Option Token). Some x) c.in-Some-None.field-0-is) ∙ c.pop.ensures.result in
    let count : length c.args.given ≡ suc (length c.pop.new.self) = popped_count c.args.given None first c.pop.new.self c.pop.ensures.rest in (
      search rules,
      subst (λ (p : PortAt). CanSettle c.args.g.now c.args.state.now p (length c.pop.new.self) c.args.taking) (sym c.next.ensures)
          (can_next c.args.g.now c.is_graph.ensures c.args.output c.args.taking c.args.state.now (length c.pop.new.self)
          (subst (λ k. CanSettle c.args.g.now c.args.state.now c.args.output k c.args.taking) count c.requires)),
    )

pub target_of-target-requires-clause-there : goal.target_of-target-requires-clause-there
target_of-target-requires-clause-there t c =
    let first : Some (Some c.in-Some-Some.token) ≡ slice_get c.args.given 0 = sym (c.in-Some-Some.is ∙ ap (λ (x : Option Token). Some x) c.in-Some-Some.field-0-is) ∙ c.pop.ensures.result in
    let count : length c.args.given ≡ suc (length c.pop.new.self) = popped_count c.args.given (Some c.in-Some-Some.token) first c.pop.new.self c.pop.ensures.rest in
    output_there c.args.g.now c.is_graph.ensures c.args.output c.args.taking c.args.state.now (length c.pop.new.self)
    (subst (λ k. CanSettle c.args.g.now c.args.state.now c.args.output k c.args.taking) count c.requires)

pub push-requires-clause-node : goal.push-requires-clause-node
push-requires-clause-node t c =
    (there c.args.g.now c.is_graph.ensures c.args.output c.args.taking c.args.state.now (length c.args.given) c.requires c.in-Some-Some.token c.target_of-target.result c.target_of-target.ensures).node

pub push-requires-clause-some : goal.push-requires-clause-some
push-requires-clause-some t c =
    (there c.args.g.now c.is_graph.ensures c.args.output c.args.taking c.args.state.now (length c.args.given) c.requires c.in-Some-Some.token c.target_of-target.result c.target_of-target.ensures).some

pub push-requires-clause-few : goal.push-requires-clause-few
push-requires-clause-few t c =
    (there c.args.g.now c.is_graph.ensures c.args.output c.args.taking c.args.state.now (length c.args.given) c.requires c.in-Some-Some.token c.target_of-target.result c.target_of-target.ensures).few

pub returns-in-None-clause-ok : goal.returns-in-None-clause-ok
returns-in-None-clause-ok t c =
    ok_then c.finish.result
    (settled_none c.args.g.now c.is_graph.ensures c.args.output c.args.taking c.args.change c.args.given c.args.state.now c.finish.new.self c.requires (sym c.in-None.is ∙ c.pop.ensures.result)) c.finish.ensures.ok

pub returns-in-Some-None-clause-ok : goal.returns-in-Some-None-clause-ok
returns-in-Some-None-clause-ok t c =
    let first : Some None ≡ slice_get c.args.given 0 = sym (c.in-Some-None.is ∙ ap (λ (x : Option Token). Some x) c.in-Some-None.field-0-is) ∙ c.pop.ensures.result in
    ok_then c.settle.result
    (λ settled. settled_skip c.args.g.now c.is_graph.ensures c.args.output c.args.taking c.args.change c.args.given c.args.state.now c.settle.new.state c.requires first
    (subst (λ (xs : List (Option Token)). IsSettled c.args.g.now c.args.state.now c.args.output.node (side_from (c.args.output.port + 1) (sides_of xs)) c.args.taking c.args.change c.settle.new.state) c.pop.ensures.rest
    (subst (λ (p : PortAt). IsSettled c.args.g.now c.args.state.now p.node (side_from p.port (sides_of c.pop.new.self)) c.args.taking c.args.change c.settle.new.state) c.next.ensures settled))) c.settle.ensures.ok

pub settle-requires-in-Some-Some : goal.settle-requires-in-Some-Some
settle-requires-in-Some-Some t c =
    let first : Some (Some c.in-Some-Some.token) ≡ slice_get c.args.given 0 = sym (c.in-Some-Some.is ∙ ap (λ (x : Option Token). Some x) c.in-Some-Some.field-0-is) ∙ c.pop.ensures.result in
    let count : length c.args.given ≡ suc (length c.pop.new.self) = popped_count c.args.given (Some c.in-Some-Some.token) first c.pop.new.self c.pop.ensures.rest in
    let has = put_has c.args.g.now c.is_graph.ensures c.args.output c.args.taking c.args.state.now (length c.args.given) c.requires c.in-Some-Some.token c.target_of-target.result c.target_of-target.ensures c.push.new.self c.in-Ok.ensures.ok in (
      search rules,
      subst (λ (p : PortAt). CanSettle c.args.g.now c.push.new.self p (length c.pop.new.self) c.args.taking) (sym c.next-in-Some-Some.ensures)
          (can_next c.args.g.now c.is_graph.ensures c.args.output c.args.taking c.push.new.self (length c.pop.new.self)
          (subst (λ k. CanSettle c.args.g.now c.push.new.self c.args.output k c.args.taking) count
          (can_other c.args.g.now c.is_graph.ensures c.args.output c.args.taking c.args.state.now c.push.new.self (length c.args.given) c.requires has))),
    )

pub take_back-requires-clause-node : goal.take_back-requires-clause-node
take_back-requires-clause-node t c =
    subst (λ (s : Places). index_of c.target_of-target.result.node < length s) (sym c.in-Err-settle.ensures.err)
    (there_after c.args.g.now c.is_graph.ensures c.args.output c.args.taking c.args.state.now (length c.args.given) c.requires c.in-Some-Some.token c.target_of-target.result c.target_of-target.ensures c.push.new.self c.in-Ok.ensures.ok).node

pub take_back-requires-clause-some : goal.take_back-requires-clause-some
take_back-requires-clause-some t c =
    (there_after c.args.g.now c.is_graph.ensures c.args.output c.args.taking c.args.state.now (length c.args.given) c.requires c.in-Some-Some.token c.target_of-target.result c.target_of-target.ensures c.push.new.self c.in-Ok.ensures.ok).some

pub take_back-requires-clause-few : goal.take_back-requires-clause-few
take_back-requires-clause-few t c =
    subst (λ (s : Places). c.target_of-target.result.port ≤ length (place_at s c.target_of-target.result.node).queues) (sym c.in-Err-settle.ensures.err)
    (there_after c.args.g.now c.is_graph.ensures c.args.output c.args.taking c.args.state.now (length c.args.given) c.requires c.in-Some-Some.token c.target_of-target.result c.target_of-target.ensures c.push.new.self c.in-Ok.ensures.ok).few

pub returns-in-Ok-settle-clause-ok : goal.returns-in-Ok-settle-clause-ok
returns-in-Ok-settle-clause-ok t c =
    let first : Some (Some c.in-Some-Some.token) ≡ slice_get c.args.given 0 = sym (c.in-Some-Some.is ∙ ap (λ (x : Option Token). Some x) c.in-Some-Some.field-0-is) ∙ c.pop.ensures.result in
    settled_put c.args.g.now c.is_graph.ensures c.args.output c.args.taking c.args.change c.args.given c.args.state.now c.settle-in-Some-Some.new.state c.requires c.in-Some-Some.token first
    c.target_of-target.result c.target_of-target.ensures c.push.new.self c.in-Ok.ensures.ok
    (subst (λ (xs : List (Option Token)). IsSettled c.args.g.now c.push.new.self c.args.output.node (side_from (c.args.output.port + 1) (sides_of xs)) c.args.taking c.args.change c.settle-in-Some-Some.new.state) c.pop.ensures.rest
    (subst (λ (p : PortAt). IsSettled c.args.g.now c.push.new.self p.node (side_from p.port (sides_of c.pop.new.self)) c.args.taking c.args.change c.settle-in-Some-Some.new.state) c.next-in-Some-Some.ensures c.in-Ok-settle.ensures.ok))

pub returns-in-Err-settle-clause-err : goal.returns-in-Err-settle-clause-err
returns-in-Err-settle-clause-err t c =
    back c.args.g.now c.is_graph.ensures c.args.output c.args.taking c.args.state.now (length c.args.given) c.requires c.in-Some-Some.token c.target_of-target.result c.target_of-target.ensures c.push.new.self c.in-Ok.ensures.ok c.take_back.new.self
    (c.take_back.ensures ∙ ap (λ (s : Places). with_queue s c.target_of-target.result (but_last (queue_of s c.target_of-target.result))) c.in-Err-settle.ensures.err)
