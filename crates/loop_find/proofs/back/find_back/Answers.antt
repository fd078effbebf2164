use Rattle.std.proofs.Common.{◌≡◌, ◌∙◌, ◌+◌, length, sym, ap, arith}
use Rattle.std.proofs.lemmas.Bool.{false≢true}
use Rattle.loop_find.proofs.BackSteps.{backwards_first, backwards_more, backwards_last, buffer_fed, grown}
use Rattle.loop_find.proofs.back.find_back.Goals as goal

pub loop-back-init : goal.loop-back-init
loop-back-init c =
    record {
      so_far = backwards_first c.args.g.now c.args.target c.source_of-source.result c.clear.new.self.ids (ap (λ v. v.ids) c.clear.ensures) c.source_of-source.ensures.fed c.source_of-source.ensures.live;
      room = ap (λ v. v.room) c.clear.ensures;
    }

pub insert-requires : goal.insert-requires
insert-requires c =
    let below = c.is_graph.ensures.within c.loop-back.source.node _ c.loop-back.invariant.so_far.denotes in
    let room = c.loop-back.invariant.room in
    let enough = c.requires.room in
    omega (arith, below, room, enough)

pub source_of-source-requires-in-loop-back : goal.source_of-source-requires-in-loop-back
source_of-source-requires-in-loop-back c =
    buffer_fed c.args.g.now c.requires.typed c.args.target c.loop-back.back.ids c.loop-back.source c.loop-back.invariant.so_far (sym c.is_buffer.ensures ∙ c.loop-back-test.true) c.requires.mux

pub returns-in_err-insert-clause-room : goal.returns-in_err-insert-clause-room
returns-in_err-insert-clause-room c = c.insert.ensures.room ∙ c.loop-back.invariant.room

pub loop-back-smaller : goal.loop-back-smaller
loop-back-smaller c =
    let more : length c.insert.new.self.ids ≡ length c.loop-back.back.ids + 1 =
    grown c.args.g.now c.requires.typed c.args.target c.loop-back.back.ids c.loop-back.source c.loop-back.invariant.so_far (sym c.is_buffer.ensures ∙ c.loop-back-test.true) c.requires.mux
    c.insert.new.self.ids c.in_ok-insert.ensures.put in
    let fits = c.fits.ensures in
    let room = c.in_ok-insert.ensures.room in
    omega (arith, more, fits, room)

pub loop-back-preserved : goal.loop-back-preserved
loop-back-preserved c =
    record {
      so_far =
          backwards_more c.args.g.now c.requires.typed c.args.target c.loop-back.back.ids c.loop-back.source c.loop-back.invariant.so_far (sym c.is_buffer.ensures ∙ c.loop-back-test.true) c.requires.mux
          c.insert.new.self.ids c.source_of-source-in-loop-back.result c.in_ok-insert.ensures.put c.source_of-source-in-loop-back.ensures.fed c.source_of-source-in-loop-back.ensures.live;
      room = c.in_ok-insert.ensures.room ∙ c.loop-back.invariant.room;
    }

pub returns-clause-back : goal.returns-clause-back
returns-clause-back c =
    backwards_last c.args.g.now c.args.target c.loop-back.back.ids c.loop-back.source c.loop-back.invariant.so_far (λ is. false≢true (sym c.loop-back-test.false ∙ c.is_buffer.ensures ∙ is))

pub returns-clause-room : goal.returns-clause-room
returns-clause-room c = c.loop-back.invariant.room
