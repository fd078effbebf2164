use Rattle.fun_expr.proofs.NamedPlaces.{value_by_names}
use Rattle.fun_expr.proofs.laws.value_by_names.Goals as goal

pub returns : goal.returns
returns c = value_by_names
