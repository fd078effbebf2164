use Rattle.std.proofs.Common.{◌+◌, subst, sym, arith}
use Rattle.subst_engine.specs.declared.prefix.TheConstants.{WINDOW}
use Rattle.subst_engine.specs.PrefixNumber.{number_at}
use Rattle.subst_engine.proofs.Marks.{AreMarked, none_marked, one_more, none_more, all_marked}
use Rattle.subst_engine.proofs.PrefixNumbers.{number_within}
use Rattle.subst_engine.proofs.prefix.taken_from.Goals as goal
use Rattle.subst_engine.proofs.prefix.taken_from.Goals.{in-Some, in_default}

pub loop-index-init : goal.loop-index-init
loop-index-init c = none_marked (number_at c.args.g.now) c.args.base WINDOW

pub loop-index-preserved : goal.loop-index-preserved
loop-index-preserved c = elim c.match-place_of.branch [
  | in-Some w ↦
      subst (AreMarked (number_at c.args.g.now) c.args.base WINDOW (c.loop-index.index + 1)) (sym w.taken-is)
      (one_more (number_at c.args.g.now) c.args.base WINDOW c.loop-index.index c.loop-index.taken c.loop-index.invariant w.in-Some.place w.in-Some.ensures.0 w.in-Some.ensures.1)
  | in_default w ↦
      subst (AreMarked (number_at c.args.g.now) c.args.base WINDOW (c.loop-index.index + 1)) (sym w.taken-is)
      (none_more (number_at c.args.g.now) c.args.base WINDOW c.loop-index.index c.loop-index.taken c.loop-index.invariant w.in_default.ensures)
]

pub returns-clause-taken : goal.returns-clause-taken
returns-clause-taken c =
    all_marked (number_at c.args.g.now) c.args.base WINDOW c.loop-index.index c.loop-index.taken c.loop-index.invariant
    (λ k number found. let below = number_within c.args.g.now c.is_graph.ensures k number found in omega arith)
