use Rattle.tagged_loop.proofs.DrainLaws.{tagged_all, tagging_keeps}
use Rattle.tagged_loop.proofs.tagged_loop_drains.Goals as goal

pub returns-clause-all : goal.returns-clause-all
returns-clause-all c = tagged_all c.fun_value_fits.ensures

pub returns-clause-kept : goal.returns-clause-kept
returns-clause-kept c = tagging_keeps c.fun_value_fits.ensures
