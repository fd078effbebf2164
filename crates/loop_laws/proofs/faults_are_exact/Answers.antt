use Rattle.loop_laws.proofs.Faultless.{no_row, faultless}
use Rattle.loop_laws.proofs.OneFault.{one_fault}
use Rattle.loop_laws.proofs.faults_are_exact.Goals as goal

pub returns-clause-row : goal.returns-clause-row
returns-clause-row c = λ g m l kind node ty h. no_row c.one_root.ensures.one g ty m l h kind node

pub returns-clause-none : goal.returns-clause-none
returns-clause-none c = λ g m l kind node ty h. faultless c.one_root.ensures.one g ty m l h kind node

pub returns-clause-one : goal.returns-clause-one
returns-clause-one c = λ g m kind other node elsewhere f h. one_fault g m kind other node elsewhere f h
