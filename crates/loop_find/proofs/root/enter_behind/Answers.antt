use Rattle.std.proofs.Common.{◌∙◌, sym}
use Rattle.loop_find.specs.NodeSets.{IsPut}
use Rattle.loop_find.proofs.Oks.{on_ok}
use Rattle.loop_find.proofs.RootWalks.{behind_one}
use Rattle.loop_find.proofs.root.enter_behind.Goals as goal

pub returns-then-passes_through-clause-all : goal.returns-then-passes_through-clause-all
returns-then-passes_through-clause-all c =
    on_ok c.insert.result
    (λ (put : IsPut c.args.behind.now.ids c.in-Some.target.node c.insert.new.self.ids).
    behind_one c.args.g.now c.is_graph.ensures c.args.source c.in-Some.target c.in-Some.ensures c.args.behind.now.ids c.requires.none (sym c.passes_through.ensures ∙ c.if-passes_through.true) c.insert.new.self.ids put)
    c.insert.ensures.put
