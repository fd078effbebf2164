use Rattle.tagged_loop.proofs.LoopGraphs.{has_ring}
use Rattle.tagged_loop.proofs.RingAnywhere.{plugged_ring}
use Rattle.tagged_loop.proofs.ring_stands.Goals as goal

pub returns-clause-alone : goal.returns-clause-alone
returns-clause-alone c = has_ring

pub returns-clause-plugged : goal.returns-clause-plugged
returns-clause-plugged c = λ around links g ring shape goes_back tags typed can has. plugged_ring around g links typed can ring shape goes_back tags has
