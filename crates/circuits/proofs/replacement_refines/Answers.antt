use Rattle.circuits.proofs.Replacing.Anywhere.{replaced_anywhere}
use Rattle.circuits.proofs.replacement_refines.Goals as goal

pub returns : goal.returns
returns c = λ g left right target ends part es new r. replaced_anywhere g left right target ends part es new r.new_typed r.ports (record { operators = c.value_fits.ensures; functions = c.fun_value_fits.ensures }) r
