use Rattle.subst_engine.specs.PartLists.{GoneBelow}
use Rattle.subst_engine.proofs.gone.gone_ids.Given as goal

abbrev pub invariant-loop-index : goal.invariant-loop-index
invariant-loop-index l = GoneBelow l.g l.left l.index l.gone.items
