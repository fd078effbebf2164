use Rattle.tagged_loop.proofs.DrainLaws.{in_order_only, in_order_all}
use Rattle.tagged_loop.proofs.in_order_loop_drains.Goals as goal

pub returns-clause-only : goal.returns-clause-only
returns-clause-only c = in_order_only c.fun_value_fits.ensures

pub returns-clause-all : goal.returns-clause-all
returns-clause-all c = in_order_all c.fun_value_fits.ensures
