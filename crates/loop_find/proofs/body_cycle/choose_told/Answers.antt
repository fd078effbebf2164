use Rattle.std.proofs.Common.{◌≤◌, ◌∙◌, length, ap, arith}
use Rattle.loop_find.proofs.BodyEdges.{telling_first, telling_more, telling_last}
use Rattle.loop_find.proofs.Places.{at_in}
use Rattle.loop_find.proofs.body_cycle.choose_told.Goals as goal

pub loop-place-init : goal.loop-place-init
loop-place-init c =
    record { so_far = telling_first c.args.set.now.ids c.args.on.now c.clear.new.self.ids (ap (λ v. v.ids) c.clear.ensures); room = ap (λ v. v.room) c.clear.ensures }

pub enter_told-requires-clause-live : goal.enter_told-requires-clause-live
enter_told-requires-clause-live c = c.requires.live c.at.result (at_in c.args.set.now.ids c.loop-place.place c.at.result c.at.ensures)

pub loop-place-preserved : goal.loop-place-preserved
loop-place-preserved c =
    record {
      so_far = telling_more c.args.set.now.ids c.args.on.now c.loop-place.found.ids c.enter_told.new.found.ids c.loop-place.place c.at.result c.loop-place.invariant.so_far c.at.ensures c.in_ok-enter_told.ensures.told;
      room = c.in_ok-enter_told.ensures.room ∙ c.loop-place.invariant.room;
    }

pub returns-clause-told : goal.returns-clause-told
returns-clause-told c =
    let past : length c.args.set.now.ids ≤ c.loop-place.place = omega arith in
    telling_last c.args.set.now.ids c.args.on.now c.loop-place.found.ids c.loop-place.place c.loop-place.invariant.so_far past
