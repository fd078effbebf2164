use Rattle.std.proofs.Common.{◌∙◌, sym, true≢false}
use Rattle.module_sem.specs.GraphLinks.{AreOfDifferentEnds}
use Rattle.module_sem.proofs.Ends.{no_link}
use Rattle.module_sem.proofs.Pairs.{first_more, pairs_behind}
use Rattle.module_sem.proofs.conditions.none_twice.Goals as goal

pub returns-then-not-differs_from_all : goal.returns-then-not-differs_from_all
returns-then-not-differs_from_all c = (
  λ e. absurd (true≢false (sym e)),
  λ pairs. sym c.if-not-differs_from_all.true ∙ c.differs_from_all.ensures.1 (pairs_behind AreOfDifferentEnds c.args.links.now c.loop-index.index no_link c.loop-index-test.true pairs),
)

pub loop-index-preserved : goal.loop-index-preserved
loop-index-preserved c =
    first_more AreOfDifferentEnds c.args.links.now c.loop-index.index no_link c.loop-index-test.true c.loop-index.invariant (c.differs_from_all.ensures.0 c.if-not-differs_from_all.false)
