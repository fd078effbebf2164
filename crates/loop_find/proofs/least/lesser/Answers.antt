use Rattle.std.proofs.Common.{◌∙◌, sym}
use Rattle.std.proofs.lemmas.Bool.{false≢true}
use Rattle.loop_find.proofs.Choosing.{lesser_is}
use Rattle.loop_find.proofs.least.lesser.Goals as goal

pub returns-else-is_before : goal.returns-else-is_before
returns-else-is_before c =
    lesser_is c.args.g.now c.is_graph.ensures c.args.one c.args.other c.requires.one c.requires.other (λ before. false≢true (sym c.if-is_before.false ∙ c.is_before.ensures.1 before))
