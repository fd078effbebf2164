use Rattle.std.proofs.Common.{Ok, Err}
use Rattle.dot_text.proofs.AtOnce.{ends_at_last}
use Rattle.dot_text.proofs.Stream.{over_is, going_is}
use Rattle.dot_text.proofs.laws.stream_ends_at_once.Goals as goal

pub returns-clause-going : goal.returns-clause-going
returns-clause-going c = λ taken reader doc to e stands. going_is taken reader e doc to stands

pub returns-clause-found : goal.returns-clause-found
returns-clause-found c = λ taken more found e. over_is taken more (Ok found) e

pub returns-clause-fault : goal.returns-clause-fault
returns-clause-fault c = λ taken more place e. over_is taken more (Err place) e

pub returns-clause-at_last : goal.returns-clause-at_last
returns-clause-at_last c = ends_at_last
