use Rattle.dot_text.proofs.Places.{place_unique}
use Rattle.dot_text.proofs.laws.one_place.Goals as goal

pub returns-clause-one : goal.returns-clause-one
returns-clause-one c = place_unique

pub returns-clause-none : goal.returns-clause-none
returns-clause-none c = λ bytes from p to doc place stands. place.none doc to stands
