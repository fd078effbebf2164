use Rattle.body_laws.proofs.BodyLaws.{gather_refines}
use Rattle.body_laws.proofs.gather_refines.Goals as goal

pub returns : goal.returns
returns c b f root new old is_body is_function one_root kinds ends =
    gather_refines b
    (record { steady = is_body.steady; order = is_body.order; typed = is_body.typed; values = record { operators = c.value_fits.ensures; functions = c.fun_value_fits.ensures } }) f
    is_function kinds root one_root new old ends
