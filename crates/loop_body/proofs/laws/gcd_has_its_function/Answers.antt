use Rattle.loop_body.proofs.Gcd.{gcd}
use Rattle.loop_body.proofs.GcdBody.{gcd_is_body}
use Rattle.loop_body.proofs.laws.gcd_has_its_function.Goals as goal

pub returns-clause-body : goal.returns-clause-body
returns-clause-body c = gcd_is_body

pub returns-clause-function : goal.returns-clause-function
returns-clause-function c = gcd
