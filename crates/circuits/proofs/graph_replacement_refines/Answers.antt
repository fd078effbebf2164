use Rattle.circuits.proofs.ReplacedGraph.Circuits.{replaced_typed, replaced_names, replaced_refines}
use Rattle.circuits.proofs.graph_replacement_refines.Goals as goal

pub returns-clause-typed : goal.returns-clause-typed
returns-clause-typed c = replaced_typed

pub returns-clause-names : goal.returns-clause-names
returns-clause-names c = replaced_names

pub returns-clause-refines : goal.returns-clause-refines
returns-clause-refines c = λ g left right ty rule m. replaced_refines g left right ty rule m (record { operators = c.value_fits.ensures; functions = c.fun_value_fits.ensures })
