use Rattle.std.proofs.Common.{◌≡◌, ◌∙◌, ◌+◌, length, sym, ap, arith}
use Rattle.std.proofs.lemmas.Bool.{false≢true}
use Rattle.loop_find.proofs.RootWalks.{tracing_first, tracing_more, tracing_ring, tracing_last, source_fed, longer}
use Rattle.loop_find.proofs.root.find_root.Goals as goal

pub loop-trail-init : goal.loop-trail-init
loop-trail-init c =
    record {
      so_far =
          tracing_first c.args.g.now c.args.target c.source_of-source.result c.clear.new.self.ids (ap (λ v. v.ids) c.clear.ensures) c.source_of-source.ensures.fed c.source_of-source.ensures.live;
      room = ap (λ v. v.room) c.clear.ensures;
    }

pub insert-requires : goal.insert-requires
insert-requires c =
    let below = c.is_graph.ensures.within c.loop-trail.source.node _ c.loop-trail.invariant.so_far.denotes in
    let room = c.loop-trail.invariant.room in
    let enough = c.requires.room in
    omega (arith, below, room, enough)

pub returns-then-contains-clause-root : goal.returns-then-contains-clause-root
returns-then-contains-clause-root c =
    tracing_ring c.args.g.now c.args.target c.loop-trail.trail.ids c.loop-trail.source c.loop-trail.invariant.so_far (sym c.passes_through.ensures ∙ c.loop-trail-test.true) (c.contains.ensures.0 c.if-contains.true)

pub source_of-source-requires-in-loop-trail : goal.source_of-source-requires-in-loop-trail
source_of-source-requires-in-loop-trail c =
    source_fed c.args.g.now c.args.target c.loop-trail.trail.ids c.loop-trail.source c.loop-trail.invariant.so_far (sym c.passes_through.ensures ∙ c.loop-trail-test.true) c.requires.typed

pub loop-trail-smaller : goal.loop-trail-smaller
loop-trail-smaller c =
    let more : length c.insert.new.self.ids ≡ length c.loop-trail.trail.ids + 1 =
    longer c.args.g.now c.args.target c.loop-trail.trail.ids c.loop-trail.source c.loop-trail.invariant.so_far (sym c.passes_through.ensures ∙ c.loop-trail-test.true) c.insert.new.self.ids
    c.in_ok-insert.ensures.put (λ i. false≢true (sym c.if-contains.false ∙ c.contains.ensures.1 i)) in
    let fits = c.fits.ensures in
    let room = c.in_ok-insert.ensures.room in
    omega (arith, more, fits, room)

pub loop-trail-preserved : goal.loop-trail-preserved
loop-trail-preserved c =
    record {
      so_far =
          tracing_more c.args.g.now c.args.target c.loop-trail.trail.ids c.loop-trail.source c.loop-trail.invariant.so_far (sym c.passes_through.ensures ∙ c.loop-trail-test.true) c.insert.new.self.ids
          c.source_of-source-in-loop-trail.result c.in_ok-insert.ensures.put c.source_of-source-in-loop-trail.ensures.fed c.source_of-source-in-loop-trail.ensures.live;
      room = c.in_ok-insert.ensures.room ∙ c.loop-trail.invariant.room;
    }

pub returns-clause-root : goal.returns-clause-root
returns-clause-root c =
    tracing_last c.args.g.now c.args.target c.loop-trail.trail.ids c.loop-trail.source c.loop-trail.invariant.so_far c.is_graph.ensures (sym c.passes_through.ensures ∙ c.loop-trail-test.false)
