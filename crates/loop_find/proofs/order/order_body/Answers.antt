use Rattle.std.proofs.Common.{◌≡◌, ◌+◌, ◌<◌, length, ap, subst, ◌∙◌, arith}
use Rattle.std.proofs.lemmas.Bool.{false≢true}
use Rattle.circuits.specs.Circuit.{circuit_of}
use Rattle.graph_core.specs.GraphValue.{name_by}
use Rattle.graph_core.specs.Place.{index_of}
use Rattle.loop_laws.specs.Faults.{InBody}
use Rattle.loop_find.proofs.MarkWalks.{live_of}
use Rattle.loop_find.proofs.OrderSteps.{Ordering}
use Rattle.loop_find.proofs.OrderEnds.{placed_are, placed_in_order}
use Rattle.loop_find.proofs.OrderLists.{no_entries}
use Rattle.loop_find.proofs.Orders.{one_longer, ordering_first, ordering_more, popped_live}
use Rattle.loop_find.proofs.order.order_body.Goals as goal

pub loop-id-init : goal.loop-id-init
loop-id-init c =
    let g = c.args.g.now in
    let live = live_of g (InBody (circuit_of g.graph) (name_by g.ids c.args.mark) c.args.goes_back) c.args.body.now.ids c.requires.body in
    record {
      so_far =
          ordering_first g c.is_graph.ensures c.args.body.now.ids live c.clear.new.self.ids c.new-ready.result.entries c.enter_all.new.ready.entries (ap (λ v. v.ids) c.clear.ensures) c.new-ready.ensures.empty
          c.in_ok-enter_all.ensures;
      room = ap (λ v. v.room) c.clear.ensures;
    }

pub insert-requires : goal.insert-requires
insert-requires c =
    let g = c.args.g.now in
    let live = live_of g (InBody (circuit_of g.graph) (name_by g.ids c.args.mark) c.args.goes_back) c.args.body.now.ids c.requires.body in
    let less : index_of c.in-Some.id < g.slots =
    c.is_graph.ensures.within c.in-Some.id (name_by g.ids c.in-Some.id)
    (popped_live g c.is_graph.ensures c.args.body.now.ids live c.loop-id.placed.ids c.loop-id.ready.entries c.pop_first.new.self.entries (c.in-Some.field-0-0, c.in-Some.id) c.loop-id.invariant.so_far
    c.in-Some.ensures.removal c.in-Some.ensures.all_above) in
    omega arith

pub enter_targets-requires : goal.enter_targets-requires
enter_targets-requires c =
    let g = c.args.g.now in
    let live = live_of g (InBody (circuit_of g.graph) (name_by g.ids c.args.mark) c.args.goes_back) c.args.body.now.ids c.requires.body in
    popped_live g c.is_graph.ensures c.args.body.now.ids live c.loop-id.placed.ids c.loop-id.ready.entries c.pop_first.new.self.entries (c.in-Some.field-0-0, c.in-Some.id) c.loop-id.invariant.so_far
    c.in-Some.ensures.removal c.in-Some.ensures.all_above

pub loop-id-smaller : goal.loop-id-smaller
loop-id-smaller c =
    let g = c.args.g.now in
    let live = live_of g (InBody (circuit_of g.graph) (name_by g.ids c.args.mark) c.args.goes_back) c.args.body.now.ids c.requires.body in
    let more : length c.insert.new.self.ids ≡ length c.loop-id.placed.ids + 1 =
    one_longer g c.is_graph.ensures c.args.body.now.ids live c.loop-id.placed.ids c.loop-id.ready.entries c.pop_first.new.self.entries (c.in-Some.field-0-0, c.in-Some.id) c.loop-id.invariant.so_far
    c.in-Some.ensures.removal c.in-Some.ensures.all_above c.insert.new.self.ids c.in_ok-insert.ensures.put in
    let same : c.insert.new.self.room ≡ c.loop-id.placed.room = c.in_ok-insert.ensures.room in
    omega arith

pub loop-id-preserved : goal.loop-id-preserved
loop-id-preserved c =
    let g = c.args.g.now in
    let live = live_of g (InBody (circuit_of g.graph) (name_by g.ids c.args.mark) c.args.goes_back) c.args.body.now.ids c.requires.body in
    record {
      so_far =
          ordering_more g c.is_graph.ensures c.args.body.now.ids live c.loop-id.placed.ids c.loop-id.ready.entries c.pop_first.new.self.entries (c.in-Some.field-0-0, c.in-Some.id) c.loop-id.invariant.so_far
          c.in-Some.ensures.removal c.in-Some.ensures.all_above c.insert.new.self.ids c.in_ok-insert.ensures.put c.enter_targets.new.ready.entries c.in_ok-enter_targets.ensures;
      room = c.in_ok-insert.ensures.room ∙ c.loop-id.invariant.room;
    }

pub returns-clause-all : goal.returns-clause-all
returns-clause-all c =
    let g = c.args.g.now in
    let done = subst (Ordering g c.args.body.now.ids c.loop-id.placed.ids) (no_entries c.loop-id.ready.entries (λ less. false≢true (c.in_default.ensures.variant.1 less))) c.loop-id.invariant.so_far in
    placed_are g c.is_graph.ensures (name_by g.ids c.args.mark) c.args.goes_back c.args.body.now.ids c.requires.body c.requires.acyclic c.loop-id.placed.ids done

pub returns-clause-in_order : goal.returns-clause-in_order
returns-clause-in_order c =
    let g = c.args.g.now in
    let done = subst (Ordering g c.args.body.now.ids c.loop-id.placed.ids) (no_entries c.loop-id.ready.entries (λ less. false≢true (c.in_default.ensures.variant.1 less))) c.loop-id.invariant.so_far in
    placed_in_order g c.is_graph.ensures (name_by g.ids c.args.mark) c.args.goes_back c.args.body.now.ids c.requires.body c.requires.acyclic c.loop-id.placed.ids done
