use Rattle.std.proofs.Common.{◌∙◌, ◌++◌, ◌<◌, take, drop, ap, arith, length, List}
use Rattle.circuits.specs.CircuitState.{Slot}
use Rattle.states.specs.Giving.{finish_slot}
use Rattle.states.proofs.Lists.{finish_found, within_same}
use Rattle.states.proofs.slot.finish_slot.Goals as goal

pub returns-then-slot-tag : goal.returns-then-slot-tag
returns-then-slot-tag c =
    let slots = c.loop-index.slots in
    let index = c.loop-index.index in
    let below : index < length slots = omega (arith, c.loop-index-test.true, c.loop-index.auto.slots) in
    let slot : Slot = record { tag = c.slot.inside.tag; result = c.slot.inside.result } in
    finish_found slots index c.args.tag c.args.token slot below (c.slot.view_is ∙ within_same slots index c.index-slots-index.result slot below) c.if-slot-tag.true
    ∙ ap (λ (x : List Slot). take index x ++ finish_slot c.args.tag c.args.token (drop index x)) c.loop-index.invariant.0 ∙ c.loop-index.invariant.1
