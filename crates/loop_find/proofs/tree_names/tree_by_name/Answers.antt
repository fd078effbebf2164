use Rattle.std.proofs.Common.{◌≡◌, [], ◌∷◌, ap}
use Rattle.circuits.specs.Circuit.{circuit_of}
use Rattle.graph_core.specs.GraphValue.{name_by}
use Rattle.loop_laws.specs.Reached.{OnTree}
use Rattle.loop_find.specs.declared.choose.Test.TheVariants.{Apart}
use Rattle.loop_find.specs.Judging.{Chosen}
use Rattle.loop_find.specs.NameOrders.{AreByName}
use Rattle.loop_find.proofs.Oks.{if_ok}
use Rattle.loop_find.proofs.MarkWalks.{live_of, put_first}
use Rattle.loop_find.proofs.NamedTrees.{tree_named}
use Rattle.loop_find.proofs.tree_names.tree_by_name.Goals as goal

pub choose-requires-clause-live : goal.choose-requires-clause-live
choose-requires-clause-live c = live_of c.args.g.now (OnTree (circuit_of c.args.g.now.graph) (name_by c.args.g.now.ids c.args.mark)) c.args.tree.now.ids c.requires.tree

pub by_name-requires : goal.by_name-requires
by_name-requires c = live_of c.args.g.now (Chosen c.args.g.now Apart c.insert.new.self.ids c.args.tree.now.ids) c.choose.new.chosen.ids c.in_ok-choose.ensures.all

pub returns-clause-tree : goal.returns-clause-tree
returns-clause-tree c =
    let g = c.args.g.now in
    let none : c.clear.new.self.ids ≡ [] = ap (λ v. v.ids) c.clear.ensures in
    let one : c.insert.new.self.ids ≡ c.args.mark ∷ [] = put_first c.clear.new.self.ids c.insert.new.self.ids c.args.mark none c.in_ok-insert.ensures.put in
    if_ok c.by_name.result (λ ids (ordered : AreByName g c.choose.new.chosen.ids ids.items).
    tree_named g c.is_graph.ensures c.args.mark c.requires.mark c.insert.new.self.ids c.args.tree.now.ids c.choose.new.chosen.ids ids.items one c.requires.tree c.in_ok-choose.ensures.all ordered) c.by_name.ensures
