use Rattle.std.proofs.Common.{◌≡◌, ◌≤◌, ◌+◌, [], length, map, rules, sym, subst, arith}
use Rattle.std.specs.BTreeMap.{insert_entry}
use Rattle.components.specs.ByKey.{ref_cmp}
use Rattle.loop_find.specs.NameOrders.{AreByName}
use Rattle.loop_find.proofs.NameTree.{InTree, in_tree_first, in_tree_more, in_tree_last}
use Rattle.loop_find.proofs.Places.{at_in}
use Rattle.loop_find.proofs.by_name.by_name.Goals as goal

pub loop-next-init : goal.loop-next-init
loop-next-init c =
    let none : c.new-names.result.entries ≡ [] = search rules in
    in_tree_first c.args.g.now c.args.set.now.ids c.new-names.result.entries none

pub name_of-requires : goal.name_of-requires
name_of-requires c = c.requires c.at-id.result (at_in c.args.set.now.ids c.loop-next.next c.at-id.result c.at-id.ensures)

pub loop-next-preserved : goal.loop-next-preserved
loop-next-preserved c =
    let put : c.insert.new.self.entries ≡ insert_entry ref_cmp c.loop-next.names.entries c.name_of.result c.at-id.result = search rules in
    subst (λ t. InTree c.args.g.now c.args.set.now.ids t (c.loop-next.next + 1)) (sym put)
    (in_tree_more c.args.g.now c.is_graph.ensures c.name_of.result c.at-id.result c.name_of.ensures (c.requires c.at-id.result (at_in c.args.set.now.ids c.loop-next.next c.at-id.result c.at-id.ensures))
    c.args.set.now.ids c.loop-next.names.entries c.loop-next.next c.loop-next.invariant c.at-id.ensures)

pub returns : goal.returns
returns c =
    let values : c.in_ok-collect.field-0.items ≡ map (λ x. x.1) c.loop-next.names.entries = search rules in
    let done : length c.args.set.now.ids ≤ c.loop-next.next = omega arith in
    subst (AreByName c.args.g.now c.args.set.now.ids) (sym values) (in_tree_last c.args.g.now c.args.set.now.ids c.loop-next.names.entries c.loop-next.next c.loop-next.invariant done)
