use Rattle.std.proofs.Common.{◌↔◌, IsTrue, get_or, subst, arith}
use Rattle.digraph.specs.Grouping.{IsCyclic, Stands, Tells}
use Rattle.digraph.proofs.Places.{got_or}
use Rattle.digraph.proofs.GroupsTold.{added, in_range}
use Rattle.digraph.proofs.grouping.Groups.add.Goals as goal

pub tell-requires : goal.tell-requires
tell-requires c =
    λ v s.
    let root = get_or c.args.order.now c.args.place 0 in
    let at = got_or c.args.order.now c.args.place 0 c.requires.place in
    let in_group : Stands c.in_ok-group.group.items v = subst (λ vs. Stands vs v) c.deref-2.ensures.value s in
    let less = in_range c.args.graph.now c.args.order.now c.requires.order c.args.place root at c.args.self.now.grouped.items c.args.self.now.told.items c.requires.so_far c.args.back.now c.requires.back
    c.gather.new.grouped.items c.in_ok-group.group.items c.in_ok-group.ensures v in_group in
    omega (arith, less, c.requires.so_far.told_size)

pub returns : goal.returns
returns c =
    let root = get_or c.args.order.now c.args.place 0 in
    let at = got_or c.args.order.now c.args.place 0 c.requires.place in
    let cyclic = c.is_cyclic-cyclic.result in
    let is_cyclic = subst (λ vs. IsTrue cyclic ↔ IsCyclic c.args.graph.now root vs) c.deref.ensures.value c.is_cyclic-cyclic.ensures in
    let tells = subst (λ vs. Tells vs cyclic c.args.self.now.told.items c.tell.new.told.items) c.deref-2.ensures.value c.tell.ensures in
    added c.args.graph.now c.args.order.now c.requires.order c.args.place root at c.args.self.now.grouped.items c.args.self.now.told.items c.requires.so_far c.args.back.now c.requires.back
    c.gather.new.grouped.items c.in_ok-group.group.items c.in_ok-group.ensures cyclic is_cyclic c.tell.new.told.items tells
