use Rattle.std.proofs.Common.{sym, ◌∙◌, arith}
use Rattle.digraph.specs.declared.leaving.Task.TheVariants.{Enter}
use Rattle.digraph.proofs.DepthWalk.{entered_again, in_graph, put_in_walks, put_in_less}
use Rattle.digraph.proofs.Marks.{has_mark, lacks_mark}
use Rattle.digraph.proofs.leaving.Walk.enter.Goals as goal

pub index-requires : goal.index-requires
index-requires c = let less = in_graph c.args.graph.now c.args.self.now.entered.items c.args.self.now.tasks.items c.args.self.now.left.items (Enter c.args.vertex) c.requires in omega (arith, less, c.requires.size)

pub index_mut-requires : goal.index_mut-requires
index_mut-requires c = let less = in_graph c.args.graph.now c.args.self.now.entered.items c.args.self.now.tasks.items c.args.self.now.left.items (Enter c.args.vertex) c.requires in omega (arith, less, c.requires.size)

pub row-requires : goal.row-requires
row-requires c = in_graph c.args.graph.now c.args.self.now.entered.items c.args.self.now.tasks.items c.args.self.now.left.items (Enter c.args.vertex) c.requires

pub returns-then-index-clause-walking : goal.returns-then-index-clause-walking
returns-then-index-clause-walking c =
    let less = in_graph c.args.graph.now c.args.self.now.entered.items c.args.self.now.tasks.items c.args.self.now.left.items (Enter c.args.vertex) c.requires in
    let again = has_mark c.args.self.now.entered.items c.args.vertex c.index.result.now (omega (arith, less, c.requires.size)) (sym c.index.ensures ∙ c.if-index.true) in
    entered_again c.args.graph.now c.args.self.now.entered.items c.args.self.now.tasks.items c.args.self.now.left.items c.args.vertex c.requires again

pub returns-clause-walking : goal.returns-clause-walking
returns-clause-walking c =
    let less = in_graph c.args.graph.now c.args.self.now.entered.items c.args.self.now.tasks.items c.args.self.now.left.items (Enter c.args.vertex) c.requires in
    let not_yet = lacks_mark c.args.self.now.entered.items c.args.vertex c.index.result.now (omega (arith, less, c.requires.size)) (sym c.index.ensures ∙ c.if-index.false) in
    put_in_walks c.args.graph.now c.args.self.now.entered.items c.args.self.now.tasks.items c.push.new.self.items c.enter_all.new.tasks.items c.args.self.now.left.items c.row.result.now c.args.vertex c.row.ensures c.in_ok-push.ensures.items
    c.enter_all.result c.enter_all.ensures c.requires c.is_within.ensures not_yet

pub returns-clause-less : goal.returns-clause-less
returns-clause-less c =
    let less = in_graph c.args.graph.now c.args.self.now.entered.items c.args.self.now.tasks.items c.args.self.now.left.items (Enter c.args.vertex) c.requires in
    let not_yet = lacks_mark c.args.self.now.entered.items c.args.vertex c.index.result.now (omega (arith, less, c.requires.size)) (sym c.index.ensures ∙ c.if-index.false) in
    put_in_less c.args.graph.now c.args.self.now.entered.items c.args.self.now.tasks.items c.push.new.self.items c.enter_all.new.tasks.items c.args.self.now.left.items c.row.result.now c.args.vertex c.row.ensures c.in_ok-push.ensures.items
    c.enter_all.result c.enter_all.ensures c.requires c.is_within.ensures not_yet
