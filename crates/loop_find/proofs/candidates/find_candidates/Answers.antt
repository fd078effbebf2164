use Rattle.std.proofs.Common.{◌≡◌, ◌≤◌, [], length, arith, ap, ◌∙◌}
use Rattle.loop_find.proofs.Places.{at_in}
use Rattle.loop_find.proofs.Feeding.{feeding_first, feeding_taker, feeding_between, feeding_own, feeding_last, laid_live}
use Rattle.loop_find.proofs.candidates.find_candidates.Goals as goal

pub loop-next-init : goal.loop-next-init
loop-next-init c =
    let empty : c.clear.new.self.ids ≡ [] = ap (λ v. v.ids) c.clear.ensures in
    record { so_far = feeding_first c.args.g.now c.args.takers.now.ids c.is_graph.ensures c.clear.new.self.ids empty; room = ap (λ v. v.room) c.clear.ensures }

pub enter_sources-requires-clause-live : goal.enter_sources-requires-clause-live
enter_sources-requires-clause-live c = c.requires.live c.at-id.result (at_in c.args.takers.now.ids c.loop-next.next c.at-id.result c.at-id.ensures)

pub loop-next-preserved : goal.loop-next-preserved
loop-next-preserved c =
    record {
      so_far =
          feeding_taker c.args.g.now c.args.takers.now.ids c.is_graph.ensures c.loop-next.seen.ids c.enter_sources.new.seen.ids c.loop-next.next c.at-id.result c.loop-next.invariant.so_far c.at-id.ensures
          c.in_ok-enter_sources.ensures.considers;
      room = c.in_ok-enter_sources.ensures.room ∙ c.loop-next.invariant.room;
    }

pub loop-place-init : goal.loop-place-init
loop-place-init c =
    let past : length c.args.takers.now.ids ≤ c.loop-next.next = omega arith in
    record {
      so_far = feeding_between c.args.g.now c.args.takers.now.ids c.is_graph.ensures c.loop-next.seen.ids c.loop-next.next c.loop-next.invariant.so_far past;
      room = c.loop-next.invariant.room;
    }

pub enter_sources-requires-in-loop-place-clause-live : goal.enter_sources-requires-in-loop-place-clause-live
enter_sources-requires-in-loop-place-clause-live c =
    laid_live c.args.g.now c.args.takers.now.ids c.loop-place.seen.ids c.loop-place.invariant.so_far.laid c.at-id-in-loop-place.result
    (at_in c.loop-place.seen.ids c.loop-place.place c.at-id-in-loop-place.result c.at-id-in-loop-place.ensures)

pub loop-place-preserved : goal.loop-place-preserved
loop-place-preserved c =
    record {
      so_far =
          feeding_own c.args.g.now c.args.takers.now.ids c.is_graph.ensures c.loop-place.seen.ids c.enter_sources-in-loop-place.new.seen.ids (length c.args.takers.now.ids) c.loop-place.place c.at-id-in-loop-place.result
          c.loop-place.invariant.so_far c.at-id-in-loop-place.ensures c.in_ok-enter_sources-2.ensures.considers;
      room = c.in_ok-enter_sources-2.ensures.room ∙ c.loop-place.invariant.room;
    }

pub returns-clause-all : goal.returns-clause-all
returns-clause-all c =
    let past : length c.loop-place.seen.ids ≤ c.loop-place.place = omega arith in
    feeding_last c.args.g.now c.args.takers.now.ids c.is_graph.ensures c.loop-place.seen.ids c.loop-place.place c.loop-place.invariant.so_far past
