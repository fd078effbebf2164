use Rattle.subst_engine.specs.declared.prefix.TheConstants.{WINDOW}
use Rattle.subst_engine.specs.PrefixNumber.{number_at}
use Rattle.subst_engine.proofs.Marks.{AreMarked}
use Rattle.subst_engine.proofs.prefix.taken_from.Given as goal

abbrev pub invariant-loop-index : goal.invariant-loop-index
invariant-loop-index l = AreMarked (number_at l.g) l.base WINDOW l.index l.taken
